-- Facts of every entry of a list that is made by index.
use Rattle.std.specs.Prelude.{◌≡◌, List, [], ◌∷◌, ◌++◌, Float, length, get_or}
use Rattle.std.proofs.Common.{ap, ◌∙◌, arith}
use Prim.Native.Nat.{ℕ, zero, suc, ◌<◌}
use Rattle.std.specs.Float.{nan}
use Rattle.list_laws.specs.Tabulate.{tabulate}
use Rattle.list_laws.proofs.Laws.Tabulate.{tabulate-at, tabulate-length}
use Rattle.transfer_matrix.specs.Job.{Edge}
use Rattle.transfer_matrix.specs.Checked.{All, SameEnds, Apart}
use Rattle.entry_correlations.specs.Correlations.{settled}

module _ {A : Type 0} (P : A → Type 0) where
  all_more : (xs : List A) (x : A) → All P xs → P x → All P (xs ++ (x ∷ []))
  all_more [] x h p = (p, tt)
  all_more (y ∷ xs) x h p = (h.0, all_more xs x h.1 p)

  pub all_made : (f : ℕ → A) (n : ℕ) → ((i : ℕ) → i < n → P (f i)) → All P (tabulate f n)
  unfolding tabulate
  all_made f zero h = tt
  all_made f (suc n) h = all_more (tabulate f n) (f n) (all_made f n (λ i l. h i (omega arith))) (h n (omega arith))

module _ {K : Type 0} where
  apart_more : (es : List (Edge K)) (e : Edge K) → Apart es → All (λ f. SameEnds f e → ⊥) es → Apart (es ++ (e ∷ []))
  apart_more [] e h k = (tt, tt)
  apart_more (f ∷ es) e h k = (all_more (λ x. SameEnds f x → ⊥) es e h.0 k.0, apart_more es e h.1 k.1)

  -- edges of which no earlier one joins the vertices of a later one
  pub apart-made : (f : ℕ → Edge K) (n : ℕ) → ((i j : ℕ) → i < j → j < n → SameEnds (f i) (f j) → ⊥) → Apart (tabulate f n)
  unfolding tabulate
  apart-made f zero h = tt
  apart-made f (suc n) h =
      apart_more (tabulate f n) (f n) (apart-made f n (λ i j k l. h i j k (omega arith))) (all_made (λ x. SameEnds x (f n) → ⊥) f n (λ i l. h i n l (omega arith)))

-- the list that an accepted call leaves, by index
pub settled_at : (refused : ℕ) (f : ℕ → Float) (size : ℕ) (old new : List Float) → refused ≡ 0 → new ≡ settled refused (tabulate f size) old
    → (k : ℕ) → k < size → get_or new k nan ≡ f k
unfolding settled
settled_at refused f size old new accepted is k l =
    ap (λ (x : List Float). get_or x k nan) (is ∙ ap (λ (r : ℕ). settled r (tabulate f size) old) accepted) ∙ tabulate-at f size k nan l

pub settled-length : (refused : ℕ) (f : ℕ → Float) (size : ℕ) (old new : List Float) → refused ≡ 0 → new ≡ settled refused (tabulate f size) old
    → length new ≡ size
unfolding settled
settled-length refused f size old new accepted is =
    ap length (is ∙ ap (λ (r : ℕ). settled r (tabulate f size) old) accepted) ∙ tabulate-length f size
