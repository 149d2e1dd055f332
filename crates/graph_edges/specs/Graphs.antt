-- What `Graph::new` and `rotated` answer and leave.
use Rattle.std.specs.Prelude.{◌≡◌, Result, Bool, cond, ◌||◌, List, map, ℕ, ◌-◌, ltb, Float, length, get_or}
use Rattle.list_laws.specs.Tabulate.{tabulate}
use Rattle.list_laws.specs.Front.{over}
use Rattle.transfer_matrix.specs.Job.{window_of}
use Rattle.refusals.specs.declared.Refusal.{Refusal}
use Rattle.refusals.specs.Edges as Edges
use Rattle.refusals.specs.Edges.{early_ends, late_ends, magnitudes, places}
use Rattle.refusals.specs.Answers.{Answered, left}
use Rattle.graph_edges.specs.declared.Graph.{Graph}

-- k edges do not fit into four buffers
abbrev pub too_short : ℕ → List ℕ → List ℕ → List Float → List ℕ → Bool
too_short k early late mag raw = ltb (length early) k || ltb (length late) k || ltb (length mag) k || ltb (length raw) k

-- kept edges with their raw places at the fronts of four lists; or 12, and the lists as they were
pub record WrittenKept (es : List Edges.Kept) (r : ℕ) (early early' late late' : List ℕ) (mag mag' : List Float) (raw raw' : List ℕ) : Type 0 where
  pub refusal : r ≡ cond (too_short (length es) early late mag raw) 12 0
  pub earlies : early' ≡ left r (over (early_ends es) early) early
  pub lates : late' ≡ left r (over (late_ends es) late) late
  pub mags : mag' ≡ left r (over (magnitudes es) mag) mag
  pub raws : raw' ≡ left r (over (places es) raw) raw

-- What `Graph::new` answers and leaves: the graph, and the kept edges with their raw places at the fronts of the lists; refused, the lists as they were.
pub record Set (refused n floor : ℕ) (es : List Edges.Kept) (r : Result Graph Refusal) (early early' late late' : List ℕ) (mag mag' : List Float) (raw raw' : List ℕ) : Type 0 where
  pub answer : Answered refused (record { n = n; win = window_of floor (early_ends es) (late_ends es); edges = length es }) r
  pub earlies : early' ≡ left refused (over (early_ends es) early) early
  pub lates : late' ≡ left refused (over (late_ends es) late) late
  pub mags : mag' ≡ left refused (over (magnitudes es) mag) mag
  pub raws : raw' ≡ left refused (over (places es) raw) raw

-- A vertex v turned to n - 1 - v: the later end comes first. An edge keeps its magnitude, its order and its raw place.
abbrev pub turned : ℕ → ℕ → ℕ
turned n v = n - 1 - v

abbrev pub turned_edge : ℕ → Edges.Kept → Edges.Kept
turned_edge n e = record { early = turned n e.late; late = turned n e.early; magnitude = e.magnitude; place = e.place }

abbrev pub rotate : ℕ → List Edges.Kept → List Edges.Kept
rotate n es = map (turned_edge n) es

-- the first k of two lists of ends, turned and changed places
pub record Turned (n k : ℕ) (early early' late late' : List ℕ) : Type 0 where
  pub earlies : early' ≡ over (tabulate (λ e. turned n (get_or late e 0)) k) early
  pub lates : late' ≡ over (tabulate (λ e. turned n (get_or early e 0)) k) late
