-- The kept edges that a plan is made of, and what a plan of them says: the steps of the definition.
use Rattle.std.specs.Prelude.{◌≡◌, List, ℕ, ◌+◌, ◌≤◌, ◌<◌, Float, length, get_or}
use Rattle.std.specs.Float.{nan}
use Rattle.transfer_matrix.specs.Job.{Manner, step_of}
use Rattle.transfer_matrix.specs.Configuration.{job_of}
use Rattle.plan_steps.specs.Layout.{step_in, Vertex}

-- kept edges of a graph of n vertices, their ends in two lists, smaller end first, none longer than the window
pub record Edges (early late : List ℕ) (n w : ℕ) : Type 0 where
  pub few : n ≤ 1024
  pub wide : 1 ≤ w
  pub narrow : w ≤ 24
  pub matched : length early ≡ length late
  pub ordered : (e : ℕ) → e < length early → get_or early e 0 < get_or late e 0
  pub inside : (e : ℕ) → e < length early → get_or late e 0 < n
  pub reached : (e : ℕ) → e < length early → get_or late e 0 ≤ get_or early e 0 + w

-- What the plan says of each vertex is the definition's step there, whatever the factors, and can be read.
pub record Steps (plan early late : List ℕ) (n w : ℕ) : Type 0 where
  pub vertex : (t : ℕ) → t < n → Vertex plan w (length early) t
  pub step : (x : List Float) (manner : Manner) (t : ℕ) → t < n → step_in plan x t ≡ step_of (job_of nan n w early late x manner) t
