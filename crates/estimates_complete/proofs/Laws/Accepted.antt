-- What is known of an accepted call: its lists fit, and each row is what `estimate_complete` answers.
use Rattle.std.specs.Prelude.{◌≡◌, refl, true, false, not, ◌||◌, List, ℕ, ◌<◌, eqb, Float, length}
use Rattle.std.proofs.Common.{sym, ap, ◌∙◌, arith, eqb-true, eq-eqb}
use Rattle.std.specs.declared.result.Result.TheVariants.{Ok}
use Rattle.std.specs.Float.{nan, binary64}
use Rattle.std.proofs.lemmas.Bool.{not-false}
use Rattle.list_laws.specs.Search.{some}
use Rattle.list_laws.proofs.Laws.Search.{none-at, none_of, or-false}
use Rattle.list_laws.proofs.Laws.Tabulate.{tabulate-at}
use Rattle.rounding.specs.Powers.{Ordered}
use Rattle.refusals.proofs.Laws.First.{unless}
use Rattle.estimate.specs.declared.answer.Estimate.TheVariants.{Complete}
use Rattle.estimate.specs.Estimates.{+0·0, number, mean_of, bad_count, is_in_order}
use Rattle.estimate_complete.specs.Complete.{is_complete, Power, spread_of, complete_of}
use Rattle.estimate_complete.proofs.Laws.Accepted.{ordered-order}
use Rattle.estimate_complete.proofs.Laws.Cases.{complete}
use Rattle.estimate_complete.proofs.Laws.Counted.{power_complete, good_count}
use Rattle.estimates.specs.Columns.{at, bad_sums}
use Rattle.estimates_complete.specs.Columns.{refusal_of, mean_column, error_column, spread_column}

module _ (count : ℕ) (squares fourths : List Float) (means errors spreads : ℕ) (z : refusal_of count squares fourths means errors spreads ≡ 0) where
  passed : (length fourths ≡ length squares) × (means ≡ length squares) × (errors ≡ length squares) × (spreads ≡ length squares)
      × (is_complete count ≡ true) × (bad_sums count squares fourths ≡ false)
  passed =
      let two : 0 < 2 = omega arith in
      let twelve : 0 < 12 = omega arith in
      let eighteen : 0 < 18 = omega arith in
      let m = not (eqb means (length squares)) in
      let e = not (eqb errors (length squares)) in
      let s = not (eqb spreads (length squares)) in
      let p = unless (not (eqb (length squares) (length fourths))) two z in
      let q = unless (m || e || s) twelve p.1 in
      let t = or-false (m || e) s q.0 in
      let r = or-false m e t.0 in
      let w = or-false (not (is_complete count)) (bad_sums count squares fourths) (unless (not (is_complete count) || bad_sums count squares fourths) eighteen q.1).0 in (
        sym (eqb-true (length squares) (length fourths) (not-false _ p.0)),
        eqb-true means (length squares) (not-false _ r.0),
        eqb-true errors (length squares) (not-false _ r.1),
        eqb-true spreads (length squares) (not-false _ t.1),
        not-false _ w.0,
        w.1,
      )

  pub fitting : (length fourths ≡ length squares) × (means ≡ length squares) × (errors ≡ length squares) × (spreads ≡ length squares)
  fitting = (passed.0, passed.1, passed.2, passed.3)

  pub counted : is_complete count ≡ true
  counted = passed.4

  ordered : (i : ℕ) → i < length squares → is_in_order (number count) (at squares i) (at fourths i) ≡ true
  ordered i h =
      not-false _ (none-at (λ i. not (is_in_order (number count) (at squares i) (at fourths i))) (length squares) i h
      (or-false (bad_count count) (some (λ i. not (is_in_order (number count) (at squares i) (at fourths i))) (length squares)) passed.5).1)

  -- each row is the record that `estimate_complete` answers
  pub rows_are : (i : ℕ) → i < length squares
      → complete_of count (at squares i) (at fourths i)
      ≡ Ok (Complete (record {
        mean = at (mean_column (number count) squares) i;
        error = at (error_column squares) i;
        spread = at (spread_column (number count) squares fourths) i;
      }))
  rows_are i h =
      rw (
        tabulate-at (λ i. mean_of (number count) (at squares i)) (length squares) i nan h,
        tabulate-at (λ i. +0·0) (length squares) i nan h,
        tabulate-at (λ i. spread_of (number count) (at squares i) (at fourths i)) (length squares) i nan h,
      )
      (sym (complete count (at squares i) (at fourths i) counted _ refl (ordered i h)))

-- Totals of a power of two of configurations that are in order at every place are accepted, with columns that fit.
pub ordered-accepted : {count : ℕ} (squares fourths : List Float) (size : ℕ) → Power count → length squares ≡ size → length fourths ≡ size
    → ((i : ℕ) → i < size → Ordered binary64 (at fourths i) (at squares i) count) → refusal_of count squares fourths size size size ≡ 0
ordered-accepted {count} squares fourths size p s f o =
    let none : some (λ i. not (is_in_order (number count) (at squares i) (at fourths i))) (length squares) ≡ false =
    none_of (λ i. not (is_in_order (number count) (at squares i) (at fourths i))) (length squares)
    (λ i l. ap not (ordered-order count (at squares i) (at fourths i) (o i (omega arith)))) in
    rw (eq-eqb (length squares) (length fourths) (s ∙ sym f), eq-eqb size (length squares) (sym s), power_complete p, good_count p, none)
