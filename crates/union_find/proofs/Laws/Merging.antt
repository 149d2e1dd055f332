-- Laws of one merge.
use Rattle.std.specs.Prelude.{◌≡◌, cond, ℕ, ◌<◌, eqb}
use Rattle.std.proofs.Common.{sym, ap, ◌∙◌, eq-eqb, ne_eqb}
use Rattle.std.proofs.Math.Decide.{ℕ_discrete}
use Rattle.union_find.specs.Merging.{merge}

module _ (f : ℕ → ℕ) (a b : ℕ) where
  pub merge_cong : (u v : ℕ) → f u ≡ f v → merge f a b u ≡ merge f a b v
  merge_cong u v e = ap (λ (x : ℕ). cond (eqb x (f a)) (f b) x) e

  pub merge_in : (v : ℕ) → f v ≡ f a → merge f a b v ≡ f b
  merge_in v e = rw (eq-eqb (f v) (f a) e)

  pub merge_out : (v : ℕ) → (f v ≡ f a → ⊥) → merge f a b v ≡ f v
  merge_out v n = rw (ne_eqb (f v) (f a) n)

  pub merge-late : merge f a b b ≡ f b
  merge-late = go (ℕ_discrete (f b) (f a))
    where
      go : Dec (f b ≡ f a) → merge f a b b ≡ f b
      go (yes e) = merge_in b e
      go (no n) = merge_out b n

  pub merge-same : f a ≡ f b → (v : ℕ) → merge f a b v ≡ f v
  merge-same e v = go (ℕ_discrete (f v) (f a))
    where
      go : Dec (f v ≡ f a) → merge f a b v ≡ f v
      go (yes q) = merge_in v q ∙ sym e ∙ sym q
      go (no n) = merge_out v n

  pub merge-below : (n : ℕ) → f b < n → (v : ℕ) → f v < n → merge f a b v < n
  merge-below n l v h = go (ℕ_discrete (f v) (f a))
    where
      go : Dec (f v ≡ f a) → merge f a b v < n
      go (yes e) = rw (eq-eqb (f v) (f a) e) l
      go (no m) = rw (ne_eqb (f v) (f a) m) h

  -- where every label is its own, a merge leaves it so
  pub merge-own : ((v : ℕ) → f (f v) ≡ f v) → (v : ℕ) → merge f a b (merge f a b v) ≡ merge f a b v
  merge-own own v = go (ℕ_discrete (f v) (f a))
    where
      go : Dec (f v ≡ f a) → merge f a b (merge f a b v) ≡ merge f a b v
      go (yes e) = ap (λ (x : ℕ). merge f a b x) (merge_in v e) ∙ merge_cong (f b) b (own b) ∙ merge-late ∙ sym (merge_in v e)
      go (no n) = ap (λ (x : ℕ). merge f a b x) (merge_out v n) ∙ merge_cong (f v) v (own v)
