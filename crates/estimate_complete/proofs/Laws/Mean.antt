-- The sign of a quotient: where the dividend is not below zero, neither is it.
use Rattle.std.specs.Prelude.{◌≡◌, refl, Bool, true, false, ℕ, zero, suc, ◌*◌, ◌<◌, pos, T, Float}
use Rattle.std.proofs.Common.{◌∙◌, arith, zero-mul, mul-pos, ne_eqb}
use Rattle.std.specs.Float.{nan, inf, fin, binary64}
use Rattle.std.specs.Float.Ieee.{up, down, round, div, lt, le, eq}
use Rattle.std.specs.Float.Ieee.Fits.{down_pos, up_pos}
use Rattle.std.specs.Float.Ieee.Positive.{positive}
use Rattle.std.specs.Float.Ieee.Scale.{finite, round_same}
use Rattle.rounding.specs.Under.{nought}
use Rattle.rounding.proofs.Laws.Sign.{div_not_minus}
use Rattle.rounding.proofs.Laws.Under.{positive-not_minus}
use Rattle.estimate_complete.proofs.Laws.Order.{minus_zero, at-least-nought}

no_units : (s : Bool) → round binary64 s 0 1 ≡ fin s 0 (pos 0)
unfolding round
no_units true = refl
no_units false = refl

pub round_nought : (s : Bool) (c : ℕ) → 0 < c → round binary64 s 0 c ≡ fin s 0 (pos 0)
round_nought s c h = round_same binary64 s 0 c 0 1 h (omega arith) (omega arith) ∙ no_units s

pub mean-sign : (x n : Float) → T (le nought x) → T (positive n) → T (finite (div binary64 x n)) → T (le nought (div binary64 x n))
unfolding le lt eq div
mean-sign nan n h p k = absurd h
mean-sign (inf true) n h p k = absurd h
mean-sign (inf false) nan h p k = absurd p
mean-sign (inf false) (inf t) h p k = absurd p
mean-sign (inf false) (fin t n d) h p k = absurd k
mean-sign (fin false m e) n h p k =
    at-least-nought (div binary64 (fin false m e) n) k (div_not_minus binary64 (fin false m e) n tt (positive-not_minus n p))
mean-sign (fin true m e) nan h p k = absurd p
mean-sign (fin true m e) (inf t) h p k = absurd p
mean-sign (fin true m e) (fin true n d) h p k = absurd p
mean-sign (fin true m e) (fin false zero d) h p k = absurd p
mean-sign (fin true m e) (fin false (suc n) d) h p k =
    rw (ne_eqb (suc n) 0 (λ (q : suc n ≡ 0). omega arith), minus_zero m e h, zero-mul (down d), round_nought true (suc n * up d * down e) (mul-pos (mul-pos (omega arith) (up_pos d)) (down_pos e))) tt
