-- Cylinders of eight neighbours, two columns: of width 3, whose window is 5, a wider floor leaves the last vertex with five shorter edges back; width 12
-- is accepted and 13 is not.
use Rattle.std.specs.Prelude.{◌≡◌, refl, true, [], ◌∷◌, ℕ, ◌*◌}
use Rattle.std.specs.Float.Ieee.{eq, le, neg, of_bits}
use Rattle.list_laws.specs.Search.{some}
use Rattle.transfer_matrix.specs.Configuration.{edges_with}
use Rattle.transfer_matrix.specs.Job.{window_of, too_many_near}
use Rattle.refusals.specs.Edges.{kept_of}
use Rattle.refusals.specs.Refusal.{refusal, of_room}
use Rattle.refusals.specs.Request.{room_request}
use Rattle.strip_bonds.specs.Edges.{across, wrap, along, rising, falling, edges_below, edges, early_ends, late_ends, unit_magnitudes}
use Rattle.strip_bonds.proofs.Laws.Eight.{eight}

-- what refuses a call of `room` for the pair 0-1
abbrev refused : (w floor : ℕ) → ℕ
refused w floor =
    let es = edges (eight w true) in
    refusal of_room (room_request (w * 2) floor (early_ends es) (late_ends es) (unit_magnitudes es) (0 ∷ []) (1 ∷ []))

pub floors-of-three : (refused 3 5 ≡ 0) × (refused 3 6 ≡ 7)
unfolding edges_below across wrap along rising falling some kept_of eq le neg of_bits window_of too_many_near edges_with
floors-of-three = (refl, refl)

pub twelve_and_thirteen : (refused 12 0 ≡ 0) × (refused 13 0 ≡ 6)
unfolding edges_below across wrap along rising falling some kept_of eq le neg of_bits window_of too_many_near edges_with
twelve_and_thirteen = (refl, refl)
