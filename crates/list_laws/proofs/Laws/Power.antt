-- Powers of two.
use Rattle.std.specs.Prelude.{◌≡◌, ℕ, suc, ◌*◌, ◌-◌, ◌%◌, ◌^◌, ◌≤◌}
use Rattle.std.proofs.Common.{◌∙◌, pow-suc, arith}

pub pow_double : (w : ℕ) → 1 ≤ w → 2 ^ w ≡ 2 * 2 ^ (w - 1)
pow_double w h = let e : suc (w - 1) ≡ w = omega arith in rw e at (pow-suc 2 (w - 1)) ∙ omega arith

pub pow_even : (w : ℕ) → 1 ≤ w → 2 ^ w % 2 ≡ 0
pow_even w h = omega (arith, pow_double w h)
