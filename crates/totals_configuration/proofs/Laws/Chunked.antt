-- Laws of what specs/Chunked defines.
use Rattle.std.specs.Prelude.{◌≡◌, Bool, true, false, not, List, ℕ, ◌+◌, ◌<◌, Float, get_or}
use Rattle.std.proofs.Common.{ap, ◌∙◌}
use Rattle.std.specs.Float.{nan, binary64}
use Rattle.std.specs.Float.Ieee.{add}
use Rattle.list_laws.proofs.Laws.Search as Search
use Rattle.list_laws.specs.Search.{some}
use Rattle.list_laws.specs.Tabulate.{tabulate}
use Rattle.list_laws.proofs.Laws.Tabulate.{tabulate-at, tabulate_ext}
use Rattle.transfer_matrix.specs.Arithmetic.{sum}
use Rattle.transfer_matrix.specs.Rounded.{ieee}
use Rattle.transfer_matrix.specs.Totals.{square, fourth}
use Rattle.totals_sums.specs.Added.{added_to}
use Rattle.totals_configuration.proofs.Laws.Passing.{one-passed, one_failed}
use Rattle.totals_configuration.specs.Sums.{sums_of, Sums}
use Rattle.totals_configuration.proofs.Laws.Sums.{sums_add, sums_none}

-- The sum of a power over the `size` configurations of chunk i, at k.
abbrev pub chunk_sum : (Float → Float) → (ℕ → ℕ → ℕ → Float) → (size i k : ℕ) → Float
chunk_sum power c size i k = sum ieee size (λ j. power (c i j k))

-- The first i chunks passed, and are added.
pub record Chunked (U : ℕ → ℕ → Bool) (c : ℕ → ℕ → ℕ → Float) (size i n : ℕ) (squares fourths : List Float) : Type 0 where
  pub none : some (λ k. some (U k) size) i ≡ false
  pub squared : squares ≡ sums_of (chunk_sum (square ieee) c size) i n
  pub fourthed : fourths ≡ sums_of (chunk_sum (fourth ieee) c size) i n

module _ (U : ℕ → ℕ → Bool) (c : ℕ → ℕ → ℕ → Float) (size n : ℕ) where
  pub chunked-none : (z : Float) (squares fourths : List Float) → z ≡ ieee.𝟘 → squares ≡ tabulate (λ _. z) n → fourths ≡ tabulate (λ _. z) n
      → Chunked U c size 0 n squares fourths
  chunked-none z squares fourths e p q =
      record { none = Search.start _; squared = sums_none _ n z squares e p; fourthed = sums_none _ n z fourths e q }

  -- a list of a chunk's sums, added
  adds : (power : Float → Float) (i : ℕ) (part total : List Float) → part ≡ sums_of (λ j k. power (c i j k)) size n
      → added_to total n (λ k. get_or part k nan) ≡ added_to total n (chunk_sum power c size i)
  adds power i part total p =
      tabulate_ext _ _ n
      (λ k b. ap (λ (x : Float). add binary64 (get_or total k nan) x)
      (ap (λ (y : List Float). get_or y k nan) p ∙ tabulate-at (λ k. sum ieee size (λ j. power (c i j k))) n k nan b))

  module _ (i : ℕ) (squares fourths : List Float) (g : Chunked U c size i n squares fourths) (r : Bool) (verdict : r ≡ not (some (U i) size)) where
    pub chunked-more : (p q squares' fourths' : List Float) → r ≡ true → Sums (c i) size n p q
        → squares' ≡ added_to squares n (λ k. get_or p k nan) → fourths' ≡ added_to fourths n (λ k. get_or q k nan) → Chunked U c size (i + 1) n squares' fourths'
    chunked-more p q squares' fourths' e s a b = record {
      none = one-passed (λ k. some (U k) size) i r verdict g.none e;
      squared = a ∙ adds (square ieee) i p squares s.squared ∙ sums_add (chunk_sum (square ieee) c size) i n squares g.squared;
      fourthed = b ∙ adds (fourth ieee) i q fourths s.fourthed ∙ sums_add (chunk_sum (fourth ieee) c size) i n fourths g.fourthed;
    }

    pub not_chunked : (chunks : ℕ) → i < chunks → r ≡ false → false ≡ not (some (λ k. some (U k) size) chunks)
    not_chunked chunks l e = one_failed (λ k. some (U k) size) i r verdict chunks l e
