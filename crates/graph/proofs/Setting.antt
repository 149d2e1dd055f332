-- What the entries answer, from the refusal that was found.
use mathlib.Core.Path.{◌≡◌, ◌∙◌}
use mathlib.Core.Bool.{false}
use mathlib.Core.List.{List}
use Prim.Native.Nat.{ℕ, ◌<◌}
use lib.Dec.{leb}
use borrow.Author.Tests.{leb-false}
use Rattle.list_laws.proofs.Laws.Search.{or-false}
use Rattle.refusals.specs.Request.{outside}
use Rattle.std.specs.Prelude.{Option, Some, None, Ok, Err}
use Rattle.refusals.specs.declared.Refusal.{Refusal}
use Rattle.refusals.specs.Numbers.{number}
use Rattle.distance.specs.Walks.{Distance}
use Rattle.forest.specs.Lowest.{lowest_marks}
use Rattle.forest.proofs.Laws.Marks.{marks-lowest, marks-counted}
use Rattle.kept_edges.specs.Keep.{KeptEdges}
use Rattle.refusals.proofs.Laws.Answers.{number-not_zero, left_alone}
use Rattle.graph.specs.Graphs.{measure_of, ComponentMarks}
use Rattle.graph.specs.declared.graph.Measure.{Measure}
use Rattle.graph.specs.Reached.{Distanced}
use Rattle.graph.proofs.Building.{joined}

-- ---- the answer of `distance`
pub refused-distance : {K u v : ℕ} {early late : List ℕ} (e : Refusal) → number e ≡ K → Distanced K early late u v (Err e)
refused-distance e p = record { number = p; values = λ z. absurd (number-not_zero e (p ∙ z)) }

pub told-distance : {K u v : ℕ} {early late : List ℕ} (x : Option ℕ) → 0 ≡ K → Distance early late u v x → Distanced K early late u v (Ok x)
told-distance (Some k) e d = record { number = e; values = λ z joined length. d }
told-distance None e d = record { number = e; values = λ z joined length. d }

pub inside_both : (n u v : ℕ) → outside n u v ≡ false → (u < n) × (v < n)
inside_both n u v h = let p = or-false (leb n u) (leb n v) h in (leb-false n u p.0, leb-false n v p.1)

-- ---- a measure

-- where it is known which one it is
pub of_measure : (n : ℕ) (early late : List ℕ) (k k' : Measure) → k ≡ k' → (r : ℕ) → r ≡ measure_of k' n early late → r ≡ measure_of k n early late
of_measure n early late k k' e r h = rw e h

-- ---- the marks of `n_components`, from the number that was found

pub marks-alone : (K n : ℕ) (early late words : List ℕ) {r : ℕ} → r ≡ K → (r ≡ 0 → ⊥) → ComponentMarks K n early late words words
marks-alone K n early late words e z = record {
  words_are = left_alone K (lowest_marks n early late) words (λ k. z (e ∙ k));
  lowest = λ k. absurd (z (e ∙ k));
  counted = λ k. absurd (z (e ∙ k));
}

pub marks-set : (K n : ℕ) (early late words words' : List ℕ) {r : ℕ} → r ≡ K → r ≡ 0 → KeptEdges n early late → words' ≡ lowest_marks n early late
    → ComponentMarks K n early late words words'
marks-set K n early late words words' e z es is = record {
  words_are = rw (← e, z) is;
  lowest = λ k. rw is (marks-lowest n early late es.few);
  counted = λ k. rw is (marks-counted n early late (joined es) es.few);
}
