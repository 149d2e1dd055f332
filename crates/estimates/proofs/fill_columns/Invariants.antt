-- The rows so far are those of the columns.
use mathlib.Core.Path.{◌≡◌}
use mathlib.Core.List.{List}
use Prim.Native.Nat.{ℕ, ◌≤◌}
use lib.Ieee.{Float}
use lib.ListN.{length}
use Rattle.estimate.specs.Estimates.{mean_in, error_in}
use Rattle.estimates.specs.Columns.{estimate_at}
use Rattle.estimates.proofs.Laws.Rows.{rows}
use Rattle.estimates.proofs.fill_columns.Given as goal

abbrev pub mean_at : ℕ → List Float → List Float → ℕ → Float → Float
mean_at count squares fourths i = mean_in (estimate_at count squares fourths i)

abbrev pub error_at : ℕ → List Float → List Float → ℕ → Float → Float
error_at count squares fourths i = error_in (estimate_at count squares fourths i)

abbrev pub invariant-loop-i : goal.invariant-loop-i
invariant-loop-i l =
    (l.i ≤ length l.squares) × (l.means ≡ rows (mean_at l.count l.squares l.fourths) l.initial.means l.i) × (l.errors ≡ rows (error_at l.count l.squares l.fourths) l.initial.errors l.i)
