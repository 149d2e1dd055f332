-- What is known of an accepted call: its lists fit, and its columns are the means and the errors of document 01.
use Rattle.std.specs.Prelude.{◌≡◌, refl, true, false, not, ◌||◌, List, ℕ, ◌<◌, eqb, Float, length}
use Rattle.std.proofs.Common.{sym, ap, ◌∙◌, arith, eqb-true}
use Rattle.std.proofs.Math.Decide.{ℕ_discrete}
use Rattle.std.specs.declared.result.Result.{Result}
use Rattle.std.specs.declared.result.Result.TheVariants.{Ok}
use Rattle.std.specs.Float.{nan}
use Rattle.std.proofs.lemmas.Bool.{not-false}
use Rattle.list_laws.specs.Search.{some}
use Rattle.list_laws.proofs.Laws.Search.{none-at, or-false}
use Rattle.list_laws.proofs.Laws.Tabulate.{tabulate-at, tabulated}
use Rattle.refusals.specs.declared.Refusal.{Refusal}
use Rattle.refusals.proofs.Laws.First.{unless}
use Rattle.estimate.specs.declared.answer.Estimate.{Estimate}
use Rattle.estimate.specs.declared.answer.Estimate.TheVariants.{Estimated, TooFew}
use Rattle.estimate.specs.Estimates.{number, mean_of, error_of, mean_error_of, bad_count, is_in_order, mean_in, error_in}
use Rattle.estimate.proofs.Laws.Cases.{too_few, enough}
use Rattle.estimates.specs.Columns.{at, bad_sums, refusal_of, estimate_at, mean_column, error_column}

module _ (count : ℕ) (squares fourths : List Float) (means errors : ℕ) (z : refusal_of count squares fourths means errors ≡ 0) where
  passed : (length fourths ≡ length squares) × (means ≡ length squares) × (errors ≡ length squares) × (bad_sums count squares fourths ≡ false)
  passed =
      let two : 0 < 2 = omega arith in
      let twelve : 0 < 12 = omega arith in
      let eighteen : 0 < 18 = omega arith in
      let p = unless (not (eqb (length squares) (length fourths))) two z in
      let q = unless (not (eqb means (length squares)) || not (eqb errors (length squares))) twelve p.1 in
      let r = or-false (not (eqb means (length squares))) (not (eqb errors (length squares))) q.0 in (
        sym (eqb-true (length squares) (length fourths) (not-false _ p.0)),
        eqb-true means (length squares) (not-false _ r.0),
        eqb-true errors (length squares) (not-false _ r.1),
        (unless (bad_sums count squares fourths) eighteen q.1).0,
      )

  pub fitting : (length fourths ≡ length squares) × (means ≡ length squares) × (errors ≡ length squares)
  fitting = (passed.0, passed.1, passed.2)

  counted : bad_count count ≡ false
  counted = (or-false (bad_count count) (some (λ i. not (is_in_order (number count) (at squares i) (at fourths i))) (length squares)) passed.3).0

  ordered : (i : ℕ) → i < length squares → is_in_order (number count) (at squares i) (at fourths i) ≡ true
  ordered i h =
      not-false _ (none-at (λ i. not (is_in_order (number count) (at squares i) (at fourths i))) (length squares) i h
      (or-false (bad_count count) (some (λ i. not (is_in_order (number count) (at squares i) (at fourths i))) (length squares)) passed.3).1)

  estimated : (i : ℕ) → i < length squares → (count ≡ 1 → ⊥)
      → estimate_at count squares fourths i ≡ Ok (Estimated (mean_error_of (number count) (at squares i) (at fourths i)))
  estimated i h n = sym (enough count (at squares i) (at fourths i) counted (ordered i h) _ refl n)

  alone : (i : ℕ) → i < length squares → count ≡ 1 → estimate_at count squares fourths i ≡ Ok (TooFew (mean_of (number count) (at squares i)))
  alone i h e = sym (too_few count (at squares i) (at fourths i) counted (ordered i h) e)

  pub means_are : (old : List Float) (i : ℕ) → i < length squares
      → at (mean_column count squares fourths old) i ≡ mean_of (number count) (at squares i)
  means_are old i h = tabulate-at _ (length squares) i nan h ∙ go (ℕ_discrete count 1)
    where
      go : Dec (count ≡ 1) → mean_in (estimate_at count squares fourths i) (at old i) ≡ mean_of (number count) (at squares i)
      go (yes e) = ap (λ (x : Result Estimate Refusal). mean_in x (at old i)) (alone i h e)
      go (no n) = ap (λ (x : Result Estimate Refusal). mean_in x (at old i)) (estimated i h n)

  pub errors_are : (count ≡ 1 → ⊥) → (old : List Float) (i : ℕ) → i < length squares
      → at (error_column count squares fourths old) i ≡ error_of (number count) (at squares i) (at fourths i)
  errors_are n old i h = tabulate-at _ (length squares) i nan h ∙ ap (λ (x : Result Estimate Refusal). error_in x (at old i)) (estimated i h n)

  -- one configuration has no error
  pub errors-stay : count ≡ 1 → (old : List Float) → length old ≡ length squares → error_column count squares fourths old ≡ old
  errors-stay e old l =
      sym (tabulated nan old _ (length squares) l (λ i h. sym (ap (λ (x : Result Estimate Refusal). error_in x (at old i)) (alone i h e))))
