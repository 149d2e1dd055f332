-- What the comparisons with 4 and -4 tell of a coupling.
use Rattle.std.proofs.Common.{◌≡◌, ℕ, ◌+◌, ◌*◌, ◌/◌, ◌%◌, ◌<◌, ◌≤◌, Bool, true, false, ◌&&◌, ◌||◌, eqb, ltb, leb, ◌⊎◌, ℤ, sym, refl, ◌∙◌, inl, inr, true≢false, lt_of_mul-lt-mul_right, div-add-mod', arith, ltb-false, ltb-true, lt-ltb, eqb-true}
use lib.Ieee.{Float, nan, inf, fin, binary64, up, down, le, neg, of_bits}
use lib.Ieee.Fits.{down_pos}
use borrow.Author.Tests.{eqb-false, lt-leb}
use Rattle.coupling_grid.specs.Grid.{whole_to512, off_grid}
use Rattle.coupling_grid.proofs.Laws.Grid.{and-true}

-- 4.0, as the code has it
abbrev pub four : Float
four = of_bits binary64 0x4010_0000_0000_0000

-- ---- a comparison of fractions, by its two tests
not_le : (a b c d : ℕ) → (ltb a b || (eqb c d && true)) ≡ false → (b ≤ a) × (c ≡ d → ⊥)
not_le a b c d h = go (ltb a b) (eqb c d) refl refl h
  where
    go : (t u : Bool) → ltb a b ≡ t → eqb c d ≡ u → (t || (u && true)) ≡ false → (b ≤ a) × (c ≡ d → ⊥)
    go true u p q h = absurd (true≢false h)
    go false true p q h = absurd (true≢false h)
    go false false p q h = (ltb-false a b p, eqb-false c d q)

is_le : (a b c d : ℕ) (t : Bool) → (ltb a b || (eqb c d && t)) ≡ true → (a < b) ⊎ (c ≡ d)
is_le a b c d t h = go (ltb a b) refl h
  where
    go : (z : Bool) → ltb a b ≡ z → (z || (eqb c d && t)) ≡ true → (a < b) ⊎ (c ≡ d)
    go true e k = inl (ltb-true a b e)
    go false e k = inr (eqb-true c d (and-true (eqb c d) t k).0)

-- ---- beyond 4 in size
too_many : (a c : ℕ) → 512 * c < a → whole_to512 a c ≡ false
too_many a c h = go (eqb (a % c) 0) refl
  where
    more : (q : ℕ) → 512 * c < q * c → 512 < q
    more q l = lt_of_mul-lt-mul_right c l

    go : (t : Bool) → eqb (a % c) 0 ≡ t → (t && leb (a / c) 512) ≡ false
    go false e = refl
    go true e =
        let r = eqb-true (a % c) 0 e in
        let d = div-add-mod' a c in
        lt-leb (a / c) 512 (more (a / c) (omega arith))

above-four : (m : ℕ) (e : ℤ) → le (fin false m e) four ≡ false → 4 * down e < m * up e
unfolding le of_bits
above-four m e h = let (l, n) = not_le (m * up e * 1) (4 * down e) (m * up e * 1) (4 * down e) h in omega (arith, n)

below-four : (m : ℕ) (e : ℤ) → le (neg four) (fin true m e) ≡ false → 4 * down e < m * up e
unfolding le neg of_bits
below-four m e h = let (l, n) = not_le (m * up e * 1) (4 * down e) (4 * down e) (m * up e * 1) h in omega (arith, n)

minus_not_above : (m : ℕ) (e : ℤ) → le (fin true m e) four ≡ true
unfolding le of_bits
minus_not_above m e = rw (lt-ltb 0 (m * up e * 1 + 4 * down e) (let d = down_pos e in omega arith))

plus_not_below : (m : ℕ) (e : ℤ) → le (neg four) (fin false m e) ≡ true
unfolding le neg of_bits
plus_not_below m e = rw (lt-ltb 0 (4 * down e + m * up e * 1) (let d = down_pos e in omega arith))

past : (s : Bool) (m : ℕ) (e : ℤ) → 4 * down e < m * up e → true ≡ off_grid (fin s m e)
unfolding off_grid
past s m e l = rw (too_many (m * up e * 128) (down e) (omega arith))

pub above-is-off : (x : Float) → le x four ≡ false → true ≡ off_grid x
unfolding off_grid
above-is-off nan h = refl
above-is-off (inf s) h = refl
above-is-off (fin true m e) h = absurd (true≢false (sym (minus_not_above m e) ∙ h))
above-is-off (fin false m e) h = past false m e (above-four m e h)

pub below-is-off : (x : Float) → le (neg four) x ≡ false → true ≡ off_grid x
unfolding off_grid
below-is-off nan h = refl
below-is-off (inf s) h = refl
below-is-off (fin true m e) h = past true m e (below-four m e h)
below-is-off (fin false m e) h = absurd (true≢false (sym (plus_not_below m e) ∙ h))

-- ---- from -4 to 4
at-most-four : (m : ℕ) (e : ℤ) → le (fin false m e) four ≡ true → m * up e ≤ 4 * down e
unfolding le of_bits
at-most-four m e h = go (is_le (m * up e * 1) (4 * down e) (m * up e * 1) (4 * down e) _ h)
  where
    go : (m * up e * 1 < 4 * down e) ⊎ (m * up e * 1 ≡ 4 * down e) → m * up e ≤ 4 * down e
    go (inl l) = omega arith
    go (inr l) = omega arith

at-least-minus-four : (m : ℕ) (e : ℤ) → le (neg four) (fin true m e) ≡ true → m * up e ≤ 4 * down e
unfolding le neg of_bits
at-least-minus-four m e h = go (is_le (m * up e * 1) (4 * down e) (4 * down e) (m * up e * 1) _ h)
  where
    go : (m * up e * 1 < 4 * down e) ⊎ (4 * down e ≡ m * up e * 1) → m * up e ≤ 4 * down e
    go (inl l) = omega arith
    go (inr l) = omega arith

pub within-four : (s : Bool) (m : ℕ) (e : ℤ) → le (fin s m e) four ≡ true → le (neg four) (fin s m e) ≡ true → m * up e ≤ 4 * down e
within-four true m e h g = at-least-minus-four m e g
within-four false m e h g = at-most-four m e h

-- and finite
pub not_endless : (s : Bool) → le (inf s) four ≡ true → le (neg four) (inf s) ≡ true → ⊥
unfolding le neg of_bits
not_endless true h g = true≢false (sym g)
not_endless false h g = true≢false (sym h)

pub not_nan : le nan four ≡ true → ⊥
unfolding le
not_nan h = true≢false (sym h)
