-- Two calls that differ in the arrangement alone: only 13 reads it.
use Rattle.std.specs.Prelude.{refl}
use Rattle.std.proofs.Common.{inl, inr}
use Rattle.transfer_matrix.specs.Room as Room
use Rattle.refusals.specs.Request.{Request}
use Rattle.refusals.specs.Refusal.{checks}
use Rattle.refusals.proofs.Laws.Alike.{called_by, AllAlike}

-- the same call in another arrangement
abbrev pub in_arrangement : Room.Arrangement → Request → Request
in_arrangement arrangement r = called_by r.caller arrangement r

pub checks_alike : (A B : Room.Arrangement) (r : Request) → AllAlike 13 (in_arrangement A r) (in_arrangement B r) checks
checks_alike A B r = (inr refl, (inr refl, (inr refl, (inr refl, (inr refl, (inr refl, (inr refl, (inr refl, (inr refl, (inr refl, (inr refl, (inr refl, (inr refl, (inr refl, (inr refl, (inr refl, (inr refl, (inr refl, (inr refl, (inr refl, (inr refl, (inr refl, (inr refl, (inl refl, (inr refl, tt)))))))))))))))))))))))))
