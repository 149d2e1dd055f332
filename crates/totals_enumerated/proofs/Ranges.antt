-- The betas of a chunk, each with its own part of the sums.
use mathlib.Core.Path.{◌≡◌, refl, sym, ap, ◌∙◌}
use mathlib.Core.Bool.{Bool, true, false, not, ◌||◌}
use mathlib.Core.List.{List, ◌++◌, append_assoc}
use mathlib.Core.Logic.{inl, dite}
use Prim.Native.Nat.{ℕ, zero, suc, ◌+◌, ◌*◌, ◌-◌, ◌≤◌, ◌<◌}
use native.Mathlib.Decide.{dec_lt}
use native.Mathlib.Omega.{arith}
use lib.Ieee.{Float, nan}
use lib.ListN.{length, get_or, take, drop}
use lib.Seq.{drop-drop}
use Rattle.list_laws.proofs.Laws.Search as Search
use Rattle.list_laws.specs.Search.{some}
use Rattle.list_laws.proofs.Laws.Search.{none_of}
use Rattle.list_laws.specs.Part.{put}
use Rattle.list_laws.proofs.Laws.Part.{put_out, part-put, part_at}
use Rattle.list_laws.proofs.Laws.Tabulate.{tabulated, tabulate-at}
use Rattle.transfer_matrix.specs.Arithmetic.{sum}
use Rattle.transfer_matrix.specs.Job.{Job}
use Rattle.transfer_matrix.specs.Rounded.{ieee}
use Rattle.transfer_matrix.specs.Totals.{square, fourth}
use Rattle.pair_correlations.specs.Sound.{unsound}
use Rattle.totals_configuration.proofs.Laws.Passing.{one-passed, one_failed}
use Rattle.totals_configuration.specs.Powers.{pair_at, correlation_at}
use Rattle.totals_configuration.proofs.Laws.Powers.{pair-numbered}
use Rattle.totals_configuration.specs.Sums.{Sums, sums_of}
use Rattle.totals_enumerated.specs.Configurations.{Summed}

-- ---- a search over two indexes, in either order

or_four : (a b c d : Bool) → ((a || b) || (c || d)) ≡ ((a || c) || (b || d))
or_four true b c d = refl
or_four false true true d = refl
or_four false false true d = refl
or_four false true false d = refl
or_four false false false d = refl

some_or : (f g : ℕ → Bool) (n : ℕ) → some (λ i. f i || g i) n ≡ (some f n || some g n)
unfolding some
some_or f g zero = refl
some_or f g (suc n) = ap (λ (x : Bool). x || (f n || g n)) (some_or f g n) ∙ or_four (some f n) (some g n) (f n) (g n)

pub swapped : (U : ℕ → ℕ → Bool) (m n : ℕ) → some (λ j. some (U j) n) m ≡ some (λ i. some (λ j. U j i) m) n
unfolding some
swapped U zero n = sym (none_of _ n (λ i l. refl))
swapped U (suc m) n = ap (λ (x : Bool). x || some (U m) n) (swapped U m n) ∙ sym (some_or (λ i. some (λ j. U j i) m) (U m) n)

-- ---- a beta more

-- a part that was lent and came back
pub came_back : (l s : List Float) (at k : ℕ) → length s ≡ k → take at l ++ (s ++ drop k (drop at l)) ≡ put l at s
unfolding put
came_back l s at k e =
    ap (λ (y : List Float). take at l ++ (s ++ y)) (drop-drop k at l ∙ ap (λ (n : ℕ). drop (at + n) l) (sym e))
    ∙ sym (append_assoc (take at l) s (drop (at + length s) l))

-- a part at `at`, laid over a list
module _ (l s : List Float) (at : ℕ) (fits : at + length s ≤ length l) where
  laid-before : (k : ℕ) → k < at → get_or (put l at s) k nan ≡ get_or l k nan
  laid-before k b = put_out l at s fits k nan (inl b)

  laid-at : (p : ℕ) → p < length s → get_or (put l at s) (at + p) nan ≡ get_or s p nan
  laid-at p b = sym (part_at (put l at s) at (length s) p nan b) ∙ ap (λ (y : List Float). get_or y p nan) (part-put l at s fits)

module _ (J : ℕ → ℕ → Job Float) (us vs : List ℕ) (size b : ℕ) where
  -- the sums so far, with those of beta b behind them
  part-more : (power : Float → Float) (l l' s : List Float) → l' ≡ put l (b * length us) s → b * length us + length us ≤ length l
      → s ≡ sums_of (λ j p. power (pair_at (J j b) us vs p)) size (length us) → length s ≡ length us
      → ((k : ℕ) → k < b * length us → get_or l k nan ≡ sum ieee size (λ j. power (correlation_at (J j) us vs k)))
      → (k : ℕ) → k < (b + 1) * length us → get_or l' k nan ≡ sum ieee size (λ j. power (correlation_at (J j) us vs k))
  part-more power l l' s e fits is full g k h =
      let at = b * length us in
      let F : ℕ → Float = λ p. sum ieee size (λ j. power (pair_at (J j b) us vs p)) in
      ap (λ (y : List Float). get_or y k nan) e
      ∙ dite (dec_lt k at)
      (λ c. laid-before l s at (omega arith) k c ∙ g k c)
      (λ c.
      let p = k - at in
      let q : k ≡ at + p = omega arith in
      let d : p < length us = omega arith in
      let there : (j : ℕ) → pair_at (J j b) us vs p ≡ correlation_at (J j) us vs (at + p) = λ j. pair-numbered (J j) us vs b p d in
      rw q
      (laid-at l s at (omega arith) p (omega arith) ∙ ap (λ (y : List Float). get_or y p nan) is ∙ tabulate-at F (length us) p nan d
      ∙ simp there))

  module _ (squares fourths : List Float) (r : Bool)
      (g : Summed (λ j i. unsound (J j i) us vs) (λ j. correlation_at (J j) us vs) size b (b * length us) squares fourths)
      (verdict : r ≡ not (some (λ j. unsound (J j b) us vs) size)) where
    pub summed-more : (squares' fourths' p q : List Float) → r ≡ true → Sums (λ j. pair_at (J j b) us vs) size (length us) p q
        → length p ≡ length us → length q ≡ length us → b * length us + length us ≤ length squares → b * length us + length us ≤ length fourths
        → squares' ≡ put squares (b * length us) p → fourths' ≡ put fourths (b * length us) q
        → Summed (λ j i. unsound (J j i) us vs) (λ j. correlation_at (J j) us vs) size (b + 1) ((b + 1) * length us) squares' fourths'
    summed-more squares' fourths' p q e s full full' fits fits' laid laid' = record {
      none = one-passed (λ i. some (λ j. unsound (J j i) us vs) size) b r verdict g.none e;
      squared = part-more (square ieee) squares squares' p laid fits s.squared full g.squared;
      fourthed = part-more (fourth ieee) fourths fourths' q laid' fits' s.fourthed full' g.fourthed;
    }

    pub not_summed : (betas : ℕ) → b < betas → r ≡ false → false ≡ not (some (λ j. some (λ i. unsound (J j i) us vs) betas) size)
    not_summed betas l e =
        one_failed (λ i. some (λ j. unsound (J j i) us vs) size) b r verdict betas l e
        ∙ ap not (sym (swapped (λ j i. unsound (J j i) us vs) size betas))

pub summed-none : (U : ℕ → ℕ → Bool) (c : ℕ → ℕ → Float) (size n : ℕ) (squares fourths : List Float) → n ≡ 0 → Summed U c size 0 n squares fourths
summed-none U c size n squares fourths z =
    record { none = Search.start _; squared = λ k b. absurd (omega arith); fourthed = λ k b. absurd (omega arith) }

pub summed-all : (U : ℕ → ℕ → Bool) (c : ℕ → ℕ → Float) (size betas n : ℕ) (squares fourths : List Float) → length squares ≡ n → length fourths ≡ n
    → Summed U c size betas n squares fourths → (true ≡ not (some (λ j. some (U j) betas) size)) × Sums c size n squares fourths
summed-all U c size betas n squares fourths p q g = (
  sym (ap not (swapped U size betas ∙ g.none)),
  record { squared = tabulated nan squares _ n p g.squared; fourthed = tabulated nan fourths _ n q g.fourthed },
)
