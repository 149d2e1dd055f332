-- The edges of a strip as a caller gets them.
use Rattle.std.specs.Prelude.{◌≡◌, List, ℕ, Float, length}
use Rattle.list_laws.specs.Front.{over}
use Rattle.refusals.specs.Answers.{left}
use Rattle.strip_bonds.specs.Edges.{edges, early_ends, late_ends}
use Rattle.strip.specs.declared.strip.Strip.{Strip}

-- The answer r of a call for a strip's edges with these magnitudes, what it leaves in the lists, and their number; refused, all as it was.
pub record StripEdges (refused : ℕ) (s : Strip) (magnitudes : List Float) (r : ℕ) (early early' late late' : List ℕ) (mag mag' : List Float)
    (count count' : ℕ) : Type 0 where
  pub answer : r ≡ refused
  pub earlies : early' ≡ left refused (over (early_ends (edges s)) early) early
  pub lates : late' ≡ left refused (over (late_ends (edges s)) late) late
  pub mags : mag' ≡ left refused (over magnitudes mag) mag
  pub counted : count' ≡ left refused (length (edges s)) count
