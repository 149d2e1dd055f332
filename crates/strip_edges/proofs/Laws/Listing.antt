-- Laws of what specs/Listing defines.
use Rattle.std.specs.Prelude.{◌≡◌, Bool, false, List, ℕ, Float, length}
use Rattle.std.proofs.Common.{ltb-false}
use Rattle.list_laws.proofs.Laws.Search.{or-false}
use Rattle.strip.specs.declared.strip.Strip.{Strip}
use Rattle.strip_bonds.specs.Edges.{edges}
use Rattle.strip_edges.specs.Listing.{Holds, too_short}

pub short-passed : (k : ℕ) (early late : List ℕ) (mag : List Float) → too_short k early late mag ≡ false → Holds k early late mag
short-passed k early late mag h =
    let p = or-false _ _ h in
    let q = or-false _ _ p.0 in
    record { earlies = ltb-false _ _ q.0; lates = ltb-false _ _ q.1; mags = ltb-false _ _ p.1 }

-- the check of the buffers reads the number of edges that was counted
pub short-is : (s : Strip) (early late : List ℕ) (mag : List Float) {k : ℕ} {short : Bool} → k ≡ length (edges s) → short ≡ too_short k early late mag
    → short ≡ too_short (length (edges s)) early late mag
short-is s early late mag n r = rw (← n) r
