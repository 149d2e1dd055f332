-- The lower half of a pair's current vector, as it stands in the room.
use Rattle.std.specs.Prelude.{List, ℕ, ◌-◌, ◌<◌, Float}
use Rattle.transfer_matrix.specs.Job.{Job}
use Rattle.transfer_matrix.specs.Rounded.{ieee}
use Rattle.transfer_matrix.specs.Sweep as S
use Rattle.propagation.specs.Current.{CurrentKnown}
use Rattle.propagation.specs.declared.current.CurrentVector.{CurrentVector}
use Rattle.demands.specs.Mirror.{LowerHalfAlike}
use Rattle.demands.proofs.Mirror.{reached-half}

pub current_half : {J : Job Float} {r : List Float} {n w : ℕ} {current : CurrentVector} → CurrentKnown J r n w current → current.vertex < n
    → LowerHalfAlike r w current.place (S.propagated ieee J current.vertex (current.reached - current.vertex))
current_half g l = reached-half (g.reached l)
