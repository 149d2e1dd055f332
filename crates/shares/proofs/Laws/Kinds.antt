-- A good entry is above zero, zero, or below zero, and one of them alone.
use Rattle.std.specs.Prelude.{◌≡◌, refl, Bool, true, false, cond, ℕ, ◌+◌, ◌*◌, ltb, Float}
use Rattle.std.proofs.Common.{true≢false, zero-mul, arith, eq-eqb, ne_eqb, lt-ltb, le-ltb}
use Rattle.std.proofs.Math.Decide.{ℕ_discrete}
use Rattle.std.specs.Float.Ieee.{level, up, down, of_bits, lt, eq, le, neg}
use Rattle.std.specs.Float.{nan, inf, fin}
use Rattle.shares.specs.Shares.{is_above, is_zero, is_below, bad_entry}

abbrev one : Bool → ℕ
one b = cond b 1 0

-- a number against zero, without a minus sign and with one
of-plus : (a b : ℕ) → b ≡ 0 → one (ltb b a) + one (level false a false b) + one (ltb a b) ≡ 1
of-plus a b z = go (ℕ_discrete a 0)
  where
    go : Dec (a ≡ 0) → one (ltb b a) + one (level false a false b) + one (ltb a b) ≡ 1
    go (yes e) = rw (le-ltb b a (omega arith), eq-eqb a b (omega arith), le-ltb a b (omega arith))
    go (no n) = rw (lt-ltb b a (omega arith), ne_eqb a b (λ e. omega arith), le-ltb a b (omega arith))

of-minus : (a b : ℕ) → b ≡ 0 → 0 + one (level true a false b) + one (ltb 0 (a + b)) ≡ 1
of-minus a b z = go (ℕ_discrete a 0)
  where
    go : Dec (a ≡ 0) → 0 + one (level true a false b) + one (ltb 0 (a + b)) ≡ 1
    go (yes e) = rw (eq-eqb a b (omega arith), eq-eqb a 0 e, le-ltb 0 (a + b) (omega arith))
    go (no n) = rw (ne_eqb a b (λ e. omega arith), lt-ltb 0 (a + b) (omega arith))

pub one-kind : (x : Float) → bad_entry x ≡ false → one (is_above x) + one (is_zero x) + one (is_below x) ≡ 1
unfolding lt eq le of_bits neg
one-kind nan h = absurd (true≢false h)
one-kind (inf true) h = refl
one-kind (inf false) h = refl
one-kind (fin true m e) h = of-minus (m * up e * 1) (0 * down e) (zero-mul (down e))
one-kind (fin false m e) h = of-plus (m * up e * 1) (0 * down e) (zero-mul (down e))
