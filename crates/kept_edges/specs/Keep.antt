-- The kept edges on their way into three buffers: what a loop over the raw edges knows.
use Rattle.std.specs.Prelude.{◌≡◌, List, [], ℕ, ◌≤◌, ◌<◌, Float, length, get_or, IfOk}
use Rattle.std.specs.declared.result.Result.{Result}
use Rattle.limits.specs.Limits.{most_vertices}
use Rattle.list_laws.specs.Front.{over}
use Rattle.refusals.specs.Edges.{kept_of, early_ends, late_ends, magnitudes, places}
use Rattle.refusals.specs.Request.{job_request}
use Rattle.refusals.specs.declared.Refusal.{Refusal}
use Rattle.refusals.specs.Numbers.{refused}
use Rattle.refusals.specs.Refusal as Refused
use Rattle.refusals.specs.Refusal.{of_raw_graph, of_graph}

-- the k kept ones of the first i raw edges were written to the fronts of three buffers; what lies past them stayed
pub record Written (a b : List ℕ) (m : List Float) (i k : ℕ) (early early' late late' : List ℕ) (mag mag' : List Float) : Type 0 where
  pub edges : k ≡ length (kept_of a b m i)
  pub earlies : early' ≡ over (early_ends (kept_of a b m i)) early
  pub lates : late' ≡ over (late_ends (kept_of a b m i)) late
  pub mags : mag' ≡ over (magnitudes (kept_of a b m i)) mag

-- the raw places of the kept ones of the first i raw edges: their ends do not matter
abbrev pub places_of : List Float → ℕ → List ℕ
places_of m i = places (kept_of [] [] m i)

-- these k places were written to the front of a buffer; what lies past them stayed
pub record Placed (m : List Float) (i k : ℕ) (raw raw' : List ℕ) : Type 0 where
  pub edges : k ≡ length (places_of m i)
  pub raws : raw' ≡ over (places_of m i) raw

-- the buffers hold at least k
pub record Holds (k : ℕ) (early late : List ℕ) (mag : List Float) : Type 0 where
  pub earlies : k ≤ length early
  pub lates : k ≤ length late
  pub mags : k ≤ length mag

-- r is the number of the first of the checks 1 to 4 and 21 that fits a graph with pairs and betas, 0 where none does
pub record CheckedRaw (n : ℕ) (a b : List ℕ) (m : List Float) (us vs : List ℕ) (betas : List Float) (r : ℕ) : Type 0 where
  pub refusal : r ≡ Refused.refusal of_raw_graph (job_request n 0 a b m us vs betas)

-- the answer of the checks 1 to 5, 21 among them, of a graph with pairs and betas; where none fits, how many edges are kept, and these are written
pub record CheckedGraph (n : ℕ) (a b : List ℕ) (m : List Float) (us vs : List ℕ) (betas : List Float) (answer : Result ℕ Refusal)
    (early early' late late' : List ℕ) (mag mag' : List Float) : Type 0 where
  pub refusal : refused answer ≡ Refused.refusal of_graph (job_request n 0 a b m us vs betas)
  pub written : IfOk answer (λ k. Written a b m (length a) k early early' late late' mag mag')

-- two lists of ends of one length, each edge's smaller end first
pub record Ordered (early late : List ℕ) : Type 0 where
  pub lengths : length late ≡ length early
  pub ends : (e : ℕ) → e < length early → get_or early e 0 < get_or late e 0

-- the kept edges of a graph of n vertices, their ends in two lists
pub record KeptEdges (n : ℕ) (early late : List ℕ) : Type 0 where
  pub few : n ≤ most_vertices
  pub ordered : Ordered early late
  pub inside : (e : ℕ) → e < length early → get_or late e 0 < n
