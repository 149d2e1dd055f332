-- Laws of what specs/Value defines.
use Rattle.std.specs.Prelude.{◌≡◌, refl, true, false, ℕ, suc, ◌*◌, ◌-◌, ◌<◌, T, pos, Float}
use Rattle.std.proofs.Common.{true≢false, mul-pos, arith, ltb→lt, ltb-true, lt-ltb}
use Rattle.std.proofs.lemmas.Bool.{false≢true}
use Rattle.std.specs.Float.{nan, inf, fin, binary64}
use Rattle.std.specs.Float.Ieee.{up, down, lt, of_bits}
use Rattle.std.specs.Float.Ieee.Fits.{up_pos, down_pos}
use Rattle.std.specs.Float.Ieee.Exact.{HasValue}
use Rattle.std.specs.Float.Ieee.Scale.{finite}
use Rattle.std.specs.Float.Ieee.Positive.{positive}
use Rattle.fraction.proofs.Fraction.{frac, sound, posℚ, Posℚ}
use Rattle.fraction.proofs.Value.{value}

-- equal fractions a / b and n / d, with the bottoms written less one
cross : (a b n d : ℕ) → 0 < b → 0 < d → a * d ≡ n * b → a * suc (d - 1) ≡ n * suc (b - 1)
cross a b n d B D h = let e : suc (d - 1) ≡ d = omega arith in let f : suc (b - 1) ≡ b = omega arith in rw (e, f) h

pub value-plus : (x : Float) (n d : ℕ) → HasValue x false n d → 0 < d → value x ≡ frac n 0 (d - 1)
unfolding value
value-plus nan n d h D = absurd h
value-plus (inf s) n d h D = absurd h
value-plus (fin true m e) n d h D = absurd (true≢false h.0)
value-plus (fin false m e) n d h D = sound (omega (arith, cross (m * up e) (down e) n d (down_pos e) D h.1))

pub value-minus : (x : Float) (n d : ℕ) → HasValue x true n d → 0 < d → value x ≡ frac 0 n (d - 1)
unfolding value
value-minus nan n d h D = absurd h
value-minus (inf s) n d h D = absurd h
value-minus (fin true m e) n d h D = sound (omega (arith, cross (m * up e) (down e) n d (down_pos e) D h.1))
value-minus (fin false m e) n d h D = absurd (false≢true h.0)

-- ---- what is above zero, by the library's test and by the machine's

pub value_pos : (x : Float) → T (positive x) → Posℚ (value x)
unfolding value posℚ
value_pos nan h = absurd h
value_pos (inf s) h = absurd h
value_pos (fin true m e) h = absurd h
value_pos (fin false m e) h = lt-ltb 0 (m * up e) (mul-pos (ltb→lt 0 m h) (up_pos e))

pub value_pos_lt : (x : Float) → finite x ≡ true → lt (fin false 0 (pos 0)) x ≡ true → Posℚ (value x)
unfolding value lt posℚ
value_pos_lt nan f h = cc
value_pos_lt (inf s) f h = cc
value_pos_lt (fin true m e) f h = cc
value_pos_lt (fin false m e) f h = let l = ltb-true (0 * 1 * down e) (m * up e * 1) h in lt-ltb 0 (m * up e) (omega arith)

-- ---- examples, by their bits: 2.0, 0.5 and -0.75

two : value (of_bits binary64 0x4000000000000000) ≡ frac 2 0 0
unfolding value of_bits
two = refl

half : value (of_bits binary64 0x3fe0000000000000) ≡ frac 1 0 1
unfolding value of_bits
half = refl

minus_three_quarters : value (of_bits binary64 0xbfe8000000000000) ≡ frac 0 3 3
unfolding value of_bits
minus_three_quarters = refl
