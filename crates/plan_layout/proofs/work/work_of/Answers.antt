-- The room is below 2^40, so nothing wraps.
use mathlib.Core.Path.{◌≡◌, refl}
use Prim.Native.Nat.{ℕ, ◌*◌, ◌^◌, ◌≤◌}
use native.Mathlib.Nat.{mul-le-mul, pow-le-pow_right}
use native.Mathlib.Omega.{arith}
use Rattle.plan_layout.proofs.work.work_of.Goals as goal

below : (places w size : ℕ) → places ≤ 2050 → w ≤ 24 → size ≡ 2 ^ w → places * size ≤ 2050 * 2 ^ 24
below places w size p q e = rw e (mul-le-mul p (pow-le-pow_right (omega arith) q))

pub overflow_mul-scales : goal.overflow_mul-scales
overflow_mul-scales c = let s = c.before in omega (arith, below _ _ _ s.requires.0 s.requires.2 c.pow2.ensures, s.requires.1, s.requires.3)

pub overflow_add-factors : goal.overflow_add-factors
overflow_add-factors c = let s = c.before in omega (arith, below _ _ _ s.requires.0 s.requires.2 c.pow2.ensures, s.requires.1, s.requires.3)

pub overflow_add-room : goal.overflow_add-room
overflow_add-room c = let s = c.before in omega (arith, below _ _ _ s.requires.0 s.requires.2 c.pow2.ensures, s.requires.1, s.requires.3)

pub returns : goal.returns
returns c = (refl, record { scales-at = rw c.pow2.ensures; factors-at = refl; ends = refl })
