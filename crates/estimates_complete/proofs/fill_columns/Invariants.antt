-- The rows so far are those of the columns.
use mathlib.Core.Path.{◌≡◌}
use mathlib.Core.List.{List}
use Prim.Native.Nat.{ℕ, ◌≤◌}
use lib.Ieee.{Float}
use lib.ListN.{length}
use Rattle.estimate.specs.Estimates.{+0·0, mean_of}
use Rattle.estimate_complete.specs.Complete.{spread_of}
use Rattle.estimates.specs.Columns.{at}
use Rattle.estimates.proofs.Laws.Rows.{rows}
use Rattle.estimates_complete.proofs.fill_columns.Given as goal

-- what a row leaves, whatever stood there

abbrev pub mean_at : Float → List Float → ℕ → Float → Float
mean_at n squares i old = mean_of n (at squares i)

abbrev pub error_at : ℕ → Float → Float
error_at i old = +0·0

abbrev pub spread_at : Float → List Float → List Float → ℕ → Float → Float
spread_at n squares fourths i old = spread_of n (at squares i) (at fourths i)

abbrev pub invariant-loop-i : goal.invariant-loop-i
invariant-loop-i l =
    (l.i ≤ length l.squares) × (l.means ≡ rows (mean_at l.n l.squares) l.initial.means l.i) × (l.errors ≡ rows error_at l.initial.errors l.i) × (l.spreads ≡ rows (spread_at l.n l.squares l.fourths) l.initial.spreads l.i)
