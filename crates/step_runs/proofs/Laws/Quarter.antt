-- A vector has two halves, and four quarters.
use Rattle.std.specs.Prelude.{◌≡◌, ℕ, ◌*◌, ◌-◌, ◌^◌, ◌≤◌}
use Rattle.std.proofs.Common.{arith}
use Rattle.list_laws.proofs.Laws.Power.{pow_double}

pub half_is : (w : ℕ) → 2 ≤ w → 2 ^ (w - 1) ≡ 2 * 2 ^ (w - 2)
half_is w h = let e : w - 1 - 1 ≡ w - 2 = omega arith in rw e at (pow_double (w - 1) (omega arith))

pub whole_is : (w : ℕ) → 2 ≤ w → 2 ^ w ≡ 4 * 2 ^ (w - 2)
whole_is w h = omega (arith, pow_double w (omega arith), half_is w h)
