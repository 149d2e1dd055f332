-- A graph's kept edges as a caller gets them.
use Rattle.std.specs.Prelude.{◌≡◌, List, ℕ, Float, length}
use Rattle.list_laws.specs.Front.{over}
use Rattle.transfer_matrix.specs.Job.{window_of}
use Rattle.refusals.specs.Edges.{Kept, early_ends, late_ends, magnitudes, places}
use Rattle.refusals.specs.Answers.{left}

-- The answer r, what it leaves in the lists, the window and the number of edges; refused, all as it was.
pub record Listed (refused floor : ℕ) (es : List Kept) (r : ℕ) (early early' late late' : List ℕ) (mag mag' : List Float)
    (raw raw' : List ℕ) (window window' edges edges' : ℕ) : Type 0 where
  pub answer : r ≡ refused
  pub earlies : early' ≡ left refused (over (early_ends es) early) early
  pub lates : late' ≡ left refused (over (late_ends es) late) late
  pub mags : mag' ≡ left refused (over (magnitudes es) mag) mag
  pub raws : raw' ≡ left refused (over (places es) raw) raw
  pub windowed : window' ≡ left refused (window_of floor (early_ends es) (late_ends es)) window
  pub counted : edges' ≡ left refused (length es) edges
