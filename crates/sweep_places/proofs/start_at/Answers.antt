-- Half of the place is filled.
use mathlib.Core.Path.{◌≡◌, ◌∙◌}
use Prim.Native.Nat.{ℕ, ◌-◌, ◌/◌, ◌^◌, ◌≤◌}
use native.Mathlib.Omega.{arith}
use Rattle.list_laws.proofs.Laws.Power.{pow_double}
use Rattle.step_tables.proofs.Laws.Constants.{one-is}
use Rattle.sweep_places.proofs.start_at.Goals as goal

half : (w : ℕ) → 1 ≤ w → 2 ^ w / 2 ≡ 2 ^ (w - 1)
half w wide = omega (arith, pow_double w wide)

pub overflow_mul-p : goal.overflow_mul-p
overflow_mul-p c = rw c.pow2-size.ensures (omega (arith, c.requires.inside))

pub fill-requires : goal.fill-requires
fill-requires c = rw c.pow2-size.ensures (omega (arith, c.requires.inside))

pub returns : goal.returns
returns c = c.fill.ensures ∙ rw (c.pow2-size.ensures, one-is, half _ c.requires.wide)
