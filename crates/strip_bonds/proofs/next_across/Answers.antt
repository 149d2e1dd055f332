-- Below the last vertex a remainder is its number, and there it is 0.
use mathlib.Core.Path.{◌≡◌, sym}
use Prim.Native.Nat.{◌+◌}
use native.Mathlib.Nat.{mod-eq_of_lt, mod_self}
use native.Mathlib.Omega.{arith}
use Rattle.strip_bonds.proofs.next_across.Goals as goal

pub returns-then-next-w : goal.returns-then-next-w
returns-then-next-w c = (sym (mod-eq_of_lt c.if-next-w.true), c.if-next-w.true)

pub returns : goal.returns
returns c = let a = c.args in let e : a.y + 1 ≡ a.w = omega arith in (rw e (sym (mod_self a.w)), omega arith)
