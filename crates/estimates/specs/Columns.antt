-- What `estimates` answers and leaves: a sheet's columns of means and of errors, from the sums of every beta and pair.
use Rattle.std.specs.Prelude.{◌≡◌, Bool, not, ◌||◌, cond, List, ℕ, eqb, Float, length, get_or}
use Rattle.std.specs.declared.result.Result.{Result}
use Rattle.std.specs.Float.{nan}
use Rattle.list_laws.specs.Search.{some}
use Rattle.list_laws.specs.Tabulate.{tabulate}
use Rattle.refusals.specs.declared.Refusal.{Refusal}
use Rattle.refusals.specs.Answers.{left}
use Rattle.estimate.specs.declared.answer.Estimate.{Estimate}
use Rattle.estimate.specs.Estimates.{number, bad_count, is_in_order, estimate_of, mean_in, error_in}

-- place i of a list
abbrev pub at : List Float → ℕ → Float
at l i = get_or l i nan

-- 18: the count is bad, or some place's sums are out of order
abbrev pub bad_sums : ℕ → List Float → List Float → Bool
bad_sums count squares fourths = bad_count count || some (λ i. not (is_in_order (number count) (at squares i) (at fourths i))) (length squares)

-- The first that fits: 2 where the lists of sums differ in length, 12 where a column is not exactly as long as they are, 18; 0 where none does.
-- `means` and `errors` are the lengths of the columns.
abbrev pub refusal_of : ℕ → List Float → List Float → (means errors : ℕ) → ℕ
refusal_of count squares fourths means errors =
    cond (not (eqb (length squares) (length fourths))) 2
    (cond (not (eqb means (length squares)) || not (eqb errors (length squares))) 12
    (cond (bad_sums count squares fourths) 18 0))

-- the estimate of place i
abbrev pub estimate_at : ℕ → List Float → List Float → ℕ → Result Estimate Refusal
estimate_at count squares fourths i = estimate_of count (at squares i) (at fourths i)

-- the columns of an accepted call: each place's mean and error; where its estimate has no error, what was there
abbrev pub mean_column : ℕ → List Float → List Float → List Float → List Float
mean_column count squares fourths old = tabulate (λ i. mean_in (estimate_at count squares fourths i) (at old i)) (length squares)

abbrev pub error_column : ℕ → List Float → List Float → List Float → List Float
error_column count squares fourths old = tabulate (λ i. error_in (estimate_at count squares fourths i) (at old i)) (length squares)

-- The answer r of a call, and the columns after it.
pub record Columns (count : ℕ) (squares fourths : List Float) (r : ℕ) (means means' errors errors' : List Float) : Type 0 where
  pub answer : r ≡ refusal_of count squares fourths (length means) (length errors)
  pub mean-column : means' ≡ left r (mean_column count squares fourths means) means
  pub error-column : errors' ≡ left r (error_column count squares fourths errors) errors
