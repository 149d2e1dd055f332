-- Rounded sums, plain and signed, of terms that are close.
use Rattle.std.specs.Prelude.{◌≡◌, refl, Bool, cond, Float}
use Rattle.std.proofs.Common.{sym, ◌∙◌, ap, add-suc, arith}
use Rattle.std.proofs.Math.Path.{subst}
use Rattle.std.proofs.Math.Bool.{true, false}
use Prim.Native.Nat.{ℕ, zero, suc, ◌+◌, ◌<◌}
use Rattle.std.proofs.Math.Decide.{dec_lt}
use Rattle.std.proofs.Math.Dec.{T}
use Rattle.std.specs.Float.Ieee.{binary64, add, sub}
use Rattle.std.specs.Float.Ieee.Scale.{finite}
use Rattle.rounding.proofs.Laws.Sign.{add_finite, sub_finite}
use Rattle.rounding.specs.Under.{nought}
use Rattle.fraction.proofs.Fraction.{ℚ, zeroℚ}
use Rattle.fraction.proofs.Value.{value}
use Rattle.transfer_matrix.specs.Arithmetic.{sum, signed_sum}
use Rattle.transfer_matrix.specs.Rounded.{ieee}
use Rattle.exactness.specs.Exact.{rational}
use Rattle.accuracy.specs.Ring.{NonNeg, nat}
use Rattle.accuracy.proofs.Laws.Ring.{◌⊹◌, ◌⋆◌, ‐◌, ◌≼◌, ≼_refl, ≼_trans, nn_zero, nn_add, nat_add, sorted, +-*, +_comm, one-*, zero_*}
use Rattle.accuracy.proofs.Laws.Ring.{zero_+, ≼-more}
use Rattle.accuracy.proofs.Within.{Within}
use Rattle.accuracy.proofs.Laws.Within.{within_zero, within_nn, within_add, within_neg}
use Rattle.accuracy.specs.Laws.Rounds.{smallest}
use Rattle.accuracy.proofs.Close.{Close}
use Rattle.accuracy.proofs.Laws.Close.{close-exact, close_mono, close_add, close_sub}

nought-close : (k : ℕ) → Close k nought zeroℚ zeroℚ
unfolding value
nought-close k = close_mono k (omega arith) (close-exact nought zeroℚ zeroℚ refl (within_zero zeroℚ nn_zero))

behind : (m a : ℚ) → NonNeg m → smallest ≼ a → smallest ≼ m ⊹ a
behind m a n h = ≼_trans h (record { rest = m; is = +_comm m a; nonneg = n })

module _ (k : ℕ) (x : ℕ → Float) (e m : ℕ → ℚ) where
  -- A rounded sum of n terms takes n roundings more,
  pub sum-close : (n : ℕ) → ((j : ℕ) → j < n → Close k (x j) (e j) (m j)) → ((j : ℕ) → j < n → smallest ≼ m j) → T (finite (sum ieee n x))
      → Close (k + n) (sum ieee n x) (sum rational n e) (sum rational n m)
  unfolding sum
  sum-close zero near low fin = nought-close (k + 0)
  sum-close (suc n) near low fin =
      let f = add_finite binary64 (sum ieee n x) (x n) fin in
      let s = sum-close n (λ j l. near j (omega arith)) (λ j l. low j (omega arith)) f.0 in
      let t = close_mono (k + n) (omega arith) (near n (omega arith)) in
      subst (λ (i : ℕ). Close i (sum ieee (suc n) x) (sum rational (suc n) e) (sum rational (suc n) m)) (sym (add-suc k n))
      (close_add (sum rational (suc n) m) fin s t (≼_refl _) (behind (sum rational n m) (m n) (within_nn s.size) (low n (omega arith))))

  -- and so does a signed sum.
  pub signed-close : (minus : ℕ → Bool) (n : ℕ) → ((j : ℕ) → j < n → Close k (x j) (e j) (m j)) → ((j : ℕ) → j < n → smallest ≼ m j)
      → T (finite (signed_sum ieee n minus x)) → Close (k + n) (signed_sum ieee n minus x) (signed_sum rational n minus e) (sum rational n m)
  unfolding sum signed_sum
  signed-close minus zero near low fin = nought-close (k + 0)
  signed-close minus (suc n) near low fin =
      subst (λ (i : ℕ). Close i (signed_sum ieee (suc n) minus x) (signed_sum rational (suc n) minus e) (sum rational (suc n) m)) (sym (add-suc k n))
      (go (minus n) fin (signed-close minus n (λ j l. near j (omega arith)) (λ j l. low j (omega arith)))
      (close_mono (k + n) (omega arith) (near n (omega arith))) (low n (omega arith)))
    where
      go : (b : Bool) → T (finite (cond b (sub binary64 (signed_sum ieee n minus x) (x n)) (add binary64 (signed_sum ieee n minus x) (x n))))
          → (T (finite (signed_sum ieee n minus x)) → Close (k + n) (signed_sum ieee n minus x) (signed_sum rational n minus e) (sum rational n m))
          → Close (k + n) (x n) (e n) (m n) → smallest ≼ m n
          → Close (suc (k + n)) (cond b (sub binary64 (signed_sum ieee n minus x) (x n)) (add binary64 (signed_sum ieee n minus x) (x n)))
          (cond b (signed_sum rational n minus e ⊹ ‐ (e n)) (signed_sum rational n minus e ⊹ e n)) (sum rational n m ⊹ m n)
      go true f ih t l =
          let s = ih (sub_finite binary64 (signed_sum ieee n minus x) (x n) f).0 in
          close_sub (sum rational n m ⊹ m n) f s t (≼_refl _) (behind (sum rational n m) (m n) (within_nn s.size) l)
      go false f ih t l =
          let s = ih (add_finite binary64 (signed_sum ieee n minus x) (x n) f).0 in
          close_add (sum rational n m ⊹ m n) f s t (≼_refl _) (behind (sum rational n m) (m n) (within_nn s.size) l)

-- With a added to every term, the sum has n times a more.
pub sum_raised : (n : ℕ) (t : ℕ → ℚ) (a : ℚ) → sum rational n (λ j. t j ⊹ a) ≡ sum rational n t ⊹ nat n ⋆ a
unfolding sum
sum_raised zero t a = sym (zero_+ _ ∙ zero_* a)
sum_raised (suc n) t a =
    ap (λ s. s ⊹ (t n ⊹ a)) (sum_raised n t a)
    ∙ ring (sum rational n t) (nat n ⋆ a) (t n)
    ∙ ap (λ s. (sum rational n t ⊹ t n) ⊹ s) one_more
  where
    one_more : nat n ⋆ a ⊹ a ≡ nat (suc n) ⋆ a
    one_more = ap (λ s. nat n ⋆ a ⊹ s) (sym (one-* a)) ∙ sym (+-* (nat n) (nat 1) a) ∙ ap (λ s. s ⋆ a) (sym (nat_add n 1) ∙ ap nat (omega arith))

    ring : (s p q : ℚ) → (s ⊹ p) ⊹ (q ⊹ a) ≡ (s ⊹ q) ⊹ (p ⊹ a)
    ring s p q = simp sorted

-- A sum of terms that are not below zero is not below zero.
pub sum_nn : (n : ℕ) (t : ℕ → ℚ) → ((j : ℕ) → j < n → NonNeg (t j)) → NonNeg (sum rational n t)
unfolding sum
sum_nn zero t h = nn_zero
sum_nn (suc n) t h = nn_add _ _ (sum_nn n t (λ j l. h j (omega arith))) (h n (omega arith))

-- A signed sum is no larger than the sum of the sizes.
pub signed-within : (minus : ℕ → Bool) (t m : ℕ → ℚ) (n : ℕ) → ((j : ℕ) → j < n → Within (t j) (m j)) → Within (signed_sum rational n minus t) (sum rational n m)
unfolding sum signed_sum
signed-within minus t m zero h = within_zero zeroℚ nn_zero
signed-within minus t m (suc n) h = go (minus n) (signed-within minus t m n (λ j l. h j (omega arith))) (h n (omega arith))
  where
    go : (b : Bool) → Within (signed_sum rational n minus t) (sum rational n m) → Within (t n) (m n)
        → Within (cond b (signed_sum rational n minus t ⊹ ‐ (t n)) (signed_sum rational n minus t ⊹ t n)) (sum rational n m ⊹ m n)
    go true s w = within_add s (within_neg w)
    go false s w = within_add s w

-- A sum is no less than any of its terms.
pub term_≼ : (n : ℕ) (t : ℕ → ℚ) → ((j : ℕ) → j < n → NonNeg (t j)) → (i : ℕ) → i < n → t i ≼ sum rational n t
unfolding sum
term_≼ zero t h i l = absurd (omega arith)
term_≼ (suc n) t h i l = go (dec_lt i n) (λ b. term_≼ n t (λ j m. h j (omega arith)) i b)
  where
    go : Dec (i < n) → (i < n → t i ≼ sum rational n t) → t i ≼ sum rational n t ⊹ t n
    go (yes b) ih = ≼_trans (ih b) (≼-more (sum rational n t) (t n) (h n (omega arith)))
    go (no b) ih =
        let e : i ≡ n = omega (arith, b) in
        subst (λ (j : ℕ). t j ≼ sum rational n t ⊹ t n) (sym e) (record { rest = sum rational n t; is = +_comm _ _; nonneg = sum_nn n t (λ j m. h j (omega arith)) })
