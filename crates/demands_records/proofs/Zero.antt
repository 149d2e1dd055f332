-- A record of no samples has no sums.
use Rattle.std.specs.Prelude.{◌≡◌, refl, true, false, List, ℕ, zero, suc, ◌+◌, ◌*◌, ◌-◌, ◌/◌, ◌^◌, ◌≤◌, ◌<◌, T, ℤ, Float}
use Rattle.std.proofs.Common.{sym, ap, subst, ◌∙◌, zero-mul, mul-pos, arith}
use Rattle.std.proofs.Math.Nat.{zero-div}
use Rattle.std.specs.Float.{nan, inf, fin, binary64}
use Rattle.std.specs.Float.Ieee.{prec, low, up, down, hid, size, fits, of_bits, to_bits}
use Rattle.std.specs.Float.Ieee.Bits.{of_bits-to_bits}
use Rattle.std.specs.Float.Ieee.Fits.{up_pos}
use Rattle.little_endian.specs.Words.{Bytes}
use Rattle.rounding.specs.Under.{nought}
use Rattle.rounding.specs.Laws.Sign.{not_minus}
use Rattle.rounding.proofs.Laws.Under.{under_trans}
use Rattle.rounding.specs.Laws.Under.{Under}
use Rattle.rounding.proofs.Laws.Whole.{whole-nought}
use Rattle.estimate.specs.Estimates.{+0·0}
use Rattle.run_record.specs.Records.{chunks_of, per_chunk}
use Rattle.run_record.specs.Reading.{head_of, squares_in, fourths_in, bad_record}
use Rattle.run_record_bytes.specs.Described.{Sums}
use Rattle.run_record_bytes.proofs.Theorems.{accepted-is-described}
use Rattle.demands_records.proofs.Laws.Chained.{chained_of}

zero_bits : (n : ℕ) → n ≡ 0 → 0 + (size n - prec binary64) * hid binary64 + n / 2 ^ (size n - prec binary64) ≡ 0
unfolding size
zero_bits n e = rw e

plus_zero : (d : ℤ) → to_bits binary64 (fin false 0 d) ≡ 0
unfolding to_bits
plus_zero d =
    zero_bits (0 * up d * 2 ^ low binary64 / down d)
    (ap (λ (z : ℕ). z * 2 ^ low binary64 / down d) (zero-mul (up d)) ∙ ap (λ (z : ℕ). z / down d) (zero-mul (2 ^ low binary64)) ∙ zero-div (down d))

no_size : (m : ℕ) (e : ℤ) → m * up e * 1 ≤ 0 * down e → m ≡ 0
no_size zero e h = refl
no_size (suc m) e h = absurd (omega (arith, mul-pos {m = suc m} {n = up e} (omega arith) (up_pos e), zero-mul (down e)))

-- a double without a minus sign and no larger than nothing is +0.0
only_zero : (x : Float) → T (fits binary64 x) → T (not_minus x) → Under x nought → x ≡ +0·0
only_zero nan f p u = absurd (u.size tt).is_finite
only_zero (inf s) f p u = absurd (u.size tt).is_finite
only_zero (fin true m e) f p u = absurd p
only_zero (fin false m e) f p u =
    let z = no_size m e (u.size tt).at_most in
    sym (of_bits-to_bits binary64 (fin false m e) f) ∙ ap (of_bits binary64) (ap (λ (k : ℕ). to_bits binary64 (fin false k e)) z ∙ plus_zero e)

no_samples : (squares fourths : Float) → Sums 0 squares fourths → (squares ≡ +0·0) × (fourths ≡ +0·0)
no_samples squares fourths s =
    let c = chained_of 0 squares fourths s in
    let u : Under squares nought = subst (λ (z : Float). Under squares z) (whole-nought binary64) c.squares in
    (only_zero squares s.double-squares c.fourths.sign u, only_zero fourths s.double-fourths c.sign (under_trans c.fourths u))

-- Where an accepted record has no samples, both sums of every row are +0.0.
pub zero_samples : (bytes : List ℕ) → Bytes bytes → bad_record bytes ≡ false → (head_of bytes).samples ≡ 0
    → (c k : ℕ) → c < chunks_of (head_of bytes) → k < per_chunk (head_of bytes) → (squares_in bytes c k ≡ +0·0) × (fourths_in bytes c k ≡ +0·0)
zero_samples bytes b g z c k i l =
    no_samples (squares_in bytes c k) (fourths_in bytes c k)
    (subst (λ (n : ℕ). Sums n (squares_in bytes c k) (fourths_in bytes c k)) z ((accepted-is-described bytes b g).sums c k i l))
