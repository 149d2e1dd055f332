-- What `estimates_complete` answers and leaves: a sheet's columns of means, errors and spreads, from the sums of every beta and pair over all configurations.
use Rattle.std.specs.Prelude.{◌≡◌, not, ◌||◌, cond, List, ℕ, eqb, Float, length}
use Rattle.list_laws.specs.Tabulate.{tabulate}
use Rattle.refusals.specs.Answers.{left}
use Rattle.estimate.specs.Estimates.{+0·0, number, mean_of}
use Rattle.estimate_complete.specs.Complete.{is_complete, spread_of}
use Rattle.estimates.specs.Columns.{at, bad_sums}

-- The first that fits: 2 where the lists of sums differ in length, 12 where a column is not exactly as long as they are, 18 where the count is no
-- power of two up to 2 ^ 34 or some place's sums are out of order; 0 where none does. `means`, `errors` and `spreads` are the lengths of the columns.
abbrev pub refusal_of : ℕ → List Float → List Float → (means errors spreads : ℕ) → ℕ
refusal_of count squares fourths means errors spreads =
    cond (not (eqb (length squares) (length fourths))) 2
    (cond (not (eqb means (length squares)) || not (eqb errors (length squares)) || not (eqb spreads (length squares))) 12
    (cond (not (is_complete count) || bad_sums count squares fourths) 18 0))

-- the columns of an accepted call, n being its count as a double: each place's mean, the error +0.0, and the spread
abbrev pub mean_column : Float → List Float → List Float
mean_column n squares = tabulate (λ i. mean_of n (at squares i)) (length squares)

abbrev pub error_column : List Float → List Float
error_column squares = tabulate (λ i. +0·0) (length squares)

abbrev pub spread_column : Float → List Float → List Float → List Float
spread_column n squares fourths = tabulate (λ i. spread_of n (at squares i) (at fourths i)) (length squares)

-- The answer r of a call, and the columns after it.
pub record CompleteColumns (count : ℕ) (squares fourths : List Float) (r : ℕ) (means means' errors errors' spreads spreads' : List Float) : Type 0 where
  pub answer : r ≡ refusal_of count squares fourths (length means) (length errors) (length spreads)
  pub mean-column : means' ≡ left r (mean_column (number count) squares) means
  pub error-column : errors' ≡ left r (error_column squares) errors
  pub spread-column : spreads' ≡ left r (spread_column (number count) squares fourths) spreads
