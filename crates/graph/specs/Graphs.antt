-- What the entries answer.
use Rattle.std.specs.Prelude.{◌≡◌, List, ℕ, length}
use Rattle.limits.specs.Limits.{most_vertices}
use Rattle.list_laws.specs.Count.{count}
use Rattle.list_laws.specs.Tabulate.{tabulate}
use Rattle.forest.specs.Labels.{labels}
use Rattle.forest.specs.Components.{component_count}
use Rattle.forest.specs.FreeEdges.{free_count}
use Rattle.forest.specs.Lowest.{lowest_marks, marked, MarksLowest}
use Rattle.graph.specs.declared.graph.Measure.{Measure}
use Rattle.graph.specs.declared.graph.Measure.TheVariants.{Window, Free}
use Rattle.transfer_matrix.specs.Job.{window_of}
use Rattle.refusals.specs.Answers.{left}

-- for each of n vertices, the vertex that names its component
unfoldable pub component_names : ℕ → List ℕ → List ℕ → List ℕ
component_names n early late = tabulate (labels early late (length early)) n

-- what each measure is of the kept edges
abbrev pub measure_of : Measure → (n : ℕ) → (early late : List ℕ) → ℕ
measure_of (Window floor) n early late = window_of floor early late
measure_of Free n early late = free_count early late

-- The sixteen words that `n_components` leaves: refused, as they were; else a bit is set exactly where no path joins its vertex with a lower one, and
-- the count is the number of bits set.
pub record ComponentMarks (refused n : ℕ) (early late words words' : List ℕ) : Type 0 where
  pub words_are : words' ≡ left refused (lowest_marks n early late) words
  pub lowest : refused ≡ 0 → MarksLowest n early late words'
  pub counted : refused ≡ 0 → count (marked words') most_vertices ≡ component_count n early late
