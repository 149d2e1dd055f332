-- Two calls that differ in the arrangement alone are refused alike, but by 13.
use Rattle.std.specs.Prelude.{◌≡◌, List}
use Rattle.transfer_matrix.specs.Room as Room
use Rattle.refusals.specs.Key.{Key}
use Rattle.refusals.specs.Request.{Request}
use Rattle.refusals.specs.Refusal.{checks, refusal}
use Rattle.refusals.proofs.Laws.Alike.{first_alike}
use Rattle.demands.proofs.Laws.Alike.{in_arrangement, checks_alike}

pub arrangements_alike : (concerned : List Key) (A B : Room.Arrangement) (r : Request) → (refusal concerned (in_arrangement A r) ≡ 13 → ⊥)
    → (refusal concerned (in_arrangement B r) ≡ 13 → ⊥) → refusal concerned (in_arrangement A r) ≡ refusal concerned (in_arrangement B r)
arrangements_alike concerned A B r h i = first_alike 13 (in_arrangement A r) (in_arrangement B r) concerned checks (checks_alike A B r) h i
