-- Running sums from zero in index order, each sum rounded. What is under its partner term by term is under it in sum,
-- whichever terms are subtracted; and terms under whole numbers have a sum under the sum of those.
use Rattle.std.specs.Prelude.{◌≡◌, ℕ, zero, suc, ◌+◌, ◌*◌, ◌^◌, ◌≤◌, ◌<◌, Bool, cond, T, Float}
use Rattle.std.proofs.Common.{sym, ap, subst, inl, inr, le_refl, le_trans, le-add_right, eq-or-lt_of_le, le_of_suc-le-suc, not-suc-le-zero, arith}
use Rattle.std.proofs.Math.Nat.{le-suc}
use Rattle.std.specs.Float.{Format}
use Rattle.std.specs.Float.Ieee.{prec, add, sub}
use Rattle.std.specs.Float.Ieee.Scale.{finite}
use Rattle.rounding.proofs.Laws.Sign.{add_finite, add_not_minus}
use Rattle.rounding.specs.Laws.Sign.{not_minus}
use Rattle.rounding.specs.Under.{nought}
use Rattle.rounding.proofs.Laws.Under.{under_refl, either_under, add_under, sub_under}
use Rattle.rounding.specs.Laws.Under.{Under}
use Rattle.rounding.specs.Whole.{whole}
use Rattle.rounding.proofs.Laws.Whole.{whole-nought, add_whole}

-- t 0 + t 1 + .. + t (n - 1)
unfoldable pub total : Format → (ℕ → Float) → ℕ → Float
total f t zero = nought
total f t (suc n) = add f (total f t n) (t n)

-- the same, with the terms that s marks subtracted
unfoldable pub signed : Format → (ℕ → Bool) → (ℕ → Float) → ℕ → Float
signed f s t zero = nought
signed f s t (suc n) = cond (s n) (sub f (signed f s t n) (t n)) (add f (signed f s t n) (t n))

-- a fact of each index below n
abbrev pub Each : ℕ → (ℕ → Type 0) → Type 0
Each n P = (j : ℕ) → j < n → P j

each-before : {P : ℕ → Type 0} (n : ℕ) → Each (suc n) P → Each n P
each-before n h j l = h j (le_trans l (le-suc n))

pub total-not_minus : (f : Format) (t : ℕ → Float) (n : ℕ) → Each n (λ j. T (not_minus (t j))) → T (not_minus (total f t n))
unfolding total
total-not_minus f t zero h = tt
total-not_minus f t (suc n) h = add_not_minus f (total f t n) (t n) (total-not_minus f t n (each-before n h)) (h n (le_refl (suc n)))

-- a finite sum has finite terms
pub total-finite : (f : Format) (t : ℕ → Float) (n : ℕ) → T (finite (total f t n)) → Each n (λ j. T (finite (t j)))
unfolding total
total-finite f t zero h j l = absurd (not-suc-le-zero l)
total-finite f t (suc n) h j l =
    let p = add_finite f (total f t n) (t n) h in
    elim (eq-or-lt_of_le (le_of_suc-le-suc l)) [
      | inl e ↦ subst (λ (k : ℕ). T (finite (t k))) (sym e) p.1
      | inr k ↦ total-finite f t n p.0 j k
    ]

pub total-under : (f : Format) (u t : ℕ → Float) (n : ℕ) → Each n (λ j. Under (u j) (t j)) → Under (total f u n) (total f t n)
unfolding total
total-under f u t zero h = under_refl nought tt
total-under f u t (suc n) h = add_under f (total-under f u t n (each-before n h)) (h n (le_refl (suc n)))

pub signed-under : (f : Format) (s : ℕ → Bool) (u t : ℕ → Float) (n : ℕ) → Each n (λ j. Under (u j) (t j))
    → Under (signed f s u n) (total f t n)
unfolding signed total
signed-under f s u t zero h = under_refl nought tt
signed-under f s u t (suc n) h =
    let p = signed-under f s u t n (each-before n h) in
    let q = h n (le_refl (suc n)) in
    either_under (s n) (sub_under f p q) (add_under f p q)

-- ---- terms under whole numbers
-- k 0 + k 1 + .. + k (n - 1), not rounded
unfoldable pub tally : (ℕ → ℕ) → ℕ → ℕ
tally k zero = 0
tally k (suc n) = tally k n + k n

pub tally_const : (m n : ℕ) → tally (λ _. m) n ≡ n * m
unfolding tally
tally_const m zero = omega arith
tally_const m (suc n) = omega (arith, tally_const m n)

pub term_le_tally : (k : ℕ → ℕ) (n i : ℕ) → i < n → k i ≤ tally k n
unfolding tally
term_le_tally k zero i l = absurd (not-suc-le-zero l)
term_le_tally k (suc n) i l = elim (eq-or-lt_of_le (le_of_suc-le-suc l)) [
  | inl e ↦ omega (arith, ap k e)
  | inr b ↦ omega (arith, term_le_tally k n i b)
]

pub whole-under : (f : Format) (t : ℕ → Float) (k : ℕ → ℕ) (n : ℕ) → tally k n ≤ 2 ^ prec f
    → Each n (λ j. Under (t j) (whole f (k j))) → Under (total f t n) (whole f (tally k n))
unfolding total tally
whole-under f t k zero l h = subst (λ (z : Float). Under nought z) (sym (whole-nought f)) (under_refl nought tt)
whole-under f t k (suc n) l h =
    subst (λ (z : Float). Under (add f (total f t n) (t n)) z) (add_whole f (tally k n) (k n) l)
    (add_under f (whole-under f t k n (le_trans (le-add_right (tally k n) (k n)) l) (each-before n h)) (h n (le_refl (suc n))))
