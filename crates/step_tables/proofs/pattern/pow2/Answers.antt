-- A shift of 1 by less than 64 loses no bit.
use mathlib.Core.Path.{◌≡◌}
use Prim.Native.Nat.{◌*◌, ◌^◌}
use native.Mathlib.Nat.{mod-eq_of_lt}
use native.Mathlib.Omega.{arith}
use lib.Pow.{pow-lt}
use Rattle.step_tables.proofs.pattern.pow2.Goals as goal

pub returns : goal.returns
returns c = let g : 1 * 2 ^ c.args.e ≡ 2 ^ c.args.e = omega arith in rw g (mod-eq_of_lt (pow-lt {j = 64} c.requires))
