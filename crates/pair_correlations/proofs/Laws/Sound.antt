-- Laws of what specs/Sound defines.
use Rattle.std.specs.Prelude.{◌≡◌, refl, true, false, ℕ, zero, suc, ◌*◌, ◌<◌, T, ltb, Float}
use Rattle.std.proofs.Common.{sym, ◌∙◌, subst, zero-mul, mul-one, mul-pos, arith, lt-ltb}
use Rattle.std.proofs.Math.Bool.{and-true}
use Rattle.std.specs.Float.{nan, inf, fin}
use Rattle.std.specs.Float.Ieee.{up, down, lt}
use Rattle.std.specs.Float.Ieee.Fits.{up_pos}
use Rattle.std.specs.Float.Ieee.Positive.{positive}
use Rattle.pair_correlations.specs.Sound.{soundly}

-- ---- sound is what the library calls positive: neither a NaN, nor an infinity, nor zero, nor below zero

scaled : (m k : ℕ) → 0 < k → ltb 0 (m * k) ≡ ltb 0 m
scaled zero k h = rw zero-mul
scaled (suc m) k h = lt-ltb 0 (suc m * k) (mul-pos (omega arith) h) ∙ sym (lt-ltb 0 (suc m) (omega arith))

pub soundly-is : (z : Float) → soundly z ≡ positive z
unfolding soundly lt
soundly-is nan = refl
soundly-is (inf true) = refl
soundly-is (inf false) = refl
soundly-is (fin true m e) = refl
soundly-is (fin false m e) = rw (zero-mul (down e), and-true, mul-one) (scaled m (up e) (up_pos e))

-- what the bounds of an answer ask of its Z
pub sound-positive : (z : Float) → soundly z ≡ true → T (positive z)
sound-positive z e = subst T (sym (sym (soundly-is z) ∙ e)) tt
