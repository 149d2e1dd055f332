-- Laws of what specs/Sums defines.
use Rattle.std.specs.Prelude.{◌≡◌, Bool, true, false, not, List, ℕ, ◌+◌, ◌<◌, Float, get_or}
use Rattle.std.proofs.Common.{ap, ◌∙◌, add-one}
use Rattle.std.specs.Float.{nan, binary64}
use Rattle.std.specs.Float.Ieee.{add}
use Rattle.list_laws.proofs.Laws.Search as Search
use Rattle.list_laws.specs.Search.{some}
use Rattle.list_laws.specs.Tabulate.{tabulate}
use Rattle.list_laws.proofs.Laws.Tabulate.{tabulate-at, tabulate_ext}
use Rattle.transfer_matrix.specs.Arithmetic.{sum}
use Rattle.transfer_matrix.specs.Rounded.{ieee}
use Rattle.transfer_matrix.specs.Totals.{square, fourth}
use Rattle.totals_sums.specs.Added.{added_to}
use Rattle.totals_configuration.proofs.Laws.Passing.{one-passed, one_failed}
use Rattle.totals_configuration.specs.Powers.{AddedPowers}
use Rattle.totals_configuration.specs.Sums.{sums_of, Sums}

-- one term more
pub sums_add : (term : ℕ → ℕ → Float) (j n : ℕ) (l : List Float) → l ≡ sums_of term j n → added_to l n (term j) ≡ sums_of term (j + 1) n
unfolding sum
sums_add term j n l e =
    tabulate_ext _ _ n
    (λ k b. rw add-one
    (ap (λ (x : Float). add binary64 x (term j k)) (ap (λ (y : List Float). get_or y k nan) e ∙ tabulate-at (λ i. sum ieee j (λ i'. term i' i)) n k nan b)))

pub sums-more : (c : ℕ → ℕ → Float) (j n : ℕ) (squares squares' fourths fourths' : List Float) → Sums c j n squares fourths
    → AddedPowers (c j) n squares squares' fourths fourths' → Sums c (j + 1) n squares' fourths'
sums-more c j n squares squares' fourths fourths' g a = record {
  squared = a.squared ∙ sums_add (λ i k. square ieee (c i k)) j n squares g.squared;
  fourthed = a.fourthed ∙ sums_add (λ i k. fourth ieee (c i k)) j n fourths g.fourthed;
}

-- none yet: a list of zeros
pub sums_none : (term : ℕ → ℕ → Float) (n : ℕ) (z : Float) (l : List Float) → z ≡ ieee.𝟘 → l ≡ tabulate (λ _. z) n → l ≡ sums_of term 0 n
unfolding sum
sums_none term n z l e p = p ∙ tabulate_ext _ _ n (λ k b. e)

-- ---- a run through configurations: U says of each whether one of its Z is not finite and above zero

-- The first j configurations passed, and are summed.
pub record PassedSoFar (U : ℕ → Bool) (c : ℕ → ℕ → Float) (j n : ℕ) (squares fourths : List Float) : Type 0 where
  pub none : some U j ≡ false
  pub sums : Sums c j n squares fourths

module _ (U : ℕ → Bool) (c : ℕ → ℕ → Float) (n : ℕ) where
  pub passed_none : (z : Float) (squares fourths : List Float) → z ≡ ieee.𝟘 → squares ≡ tabulate (λ _. z) n → fourths ≡ tabulate (λ _. z) n
      → PassedSoFar U c 0 n squares fourths
  passed_none z squares fourths e p q =
      record { none = Search.start U; sums = record { squared = sums_none _ n z squares e p; fourthed = sums_none _ n z fourths e q } }

  module _ (j : ℕ) (squares fourths : List Float) (g : PassedSoFar U c j n squares fourths) (r : Bool) (verdict : r ≡ not (U j)) where
    pub passed-more : (squares' fourths' : List Float) → r ≡ true → AddedPowers (c j) n squares squares' fourths fourths' → PassedSoFar U c (j + 1) n squares' fourths'
    passed-more squares' fourths' e a = record { none = one-passed U j r verdict g.none e; sums = sums-more c j n squares squares' fourths fourths' g.sums a }

    pub not_passed : (size : ℕ) → j < size → r ≡ false → false ≡ not (some U size)
    not_passed size l e = one_failed U j r verdict size l e
