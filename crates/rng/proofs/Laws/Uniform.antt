-- Laws of what specs/Uniform defines.
use Rattle.std.proofs.Common.{sym, mul_assoc, lt_trans, arith, lit<, shl_lt}
use Rattle.std.specs.Prelude.{ℕ, ◌/◌, ◌^◌, ◌<◌, false}
use Rattle.std.specs.Float.{binary64}
use Rattle.std.specs.Float.Ieee.{round}
use Rattle.std.specs.Float.Ieee.Exact.{HasValue, round_exact}
use Rattle.rng.specs.Uniform.{unit}

-- n / 2 ^ 53 is a double
fraction_exact : (n : ℕ) → n < 2 ^ 53 → HasValue (round binary64 false n (2 ^ 53)) false n (2 ^ 53)
fraction_exact n h =
    round_exact binary64 false n (2 ^ 53) n 1021 (lit< tt) h (lt_trans (shl_lt 53 1021 h) (lit< tt)) (sym (mul_assoc n (2 ^ 1021) (2 ^ 53)))

pub top_lt : {w : ℕ} → w < 2 ^ 64 → w / 2 ^ 11 < 2 ^ 53
top_lt h = omega arith

-- no rounding is left in it
pub unit-exact : (word : ℕ) → word < 2 ^ 64 → HasValue (unit word) false (word / 2 ^ 11) (2 ^ 53)
unfolding unit
unit-exact word h = fraction_exact (word / 2 ^ 11) (top_lt h)
