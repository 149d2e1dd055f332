-- It stays, or the vector of k is kept.
use mathlib.Core.Path.{refl}
use mathlib.Core.Logic.{inl, inr}
use native.Mathlib.Omega.{arith}
use Rattle.sweep_places.proofs.Frames.{place_of}
use Rattle.pair_sums.proofs.Laws.Stored.{stored_if}
use Rattle.sweep_backward.proofs.go_on_from.Goals as goal

pub returns-then-newest-c : goal.returns-then-newest-c
returns-then-newest-c c = inl (record { vertex = refl; place = refl; entry = refl })

pub returns-then-newest-k : goal.returns-then-newest-k
returns-then-newest-k c = inl (record { vertex = refl; place = refl; entry = refl })

pub half_stored-largest-requires : goal.half_stored-largest-requires
half_stored-largest-requires c =
    let s = c in
    let from = c.kept_from-k.ensures in
    let placed = from.placed (omega (arith, s.requires)) in
    place_of s.requires.0 _ (rw c.backward_place-place.ensures (s.requires.0.backward.fits _ from.below placed))

pub returns : goal.returns
returns c =
    let s = c in
    let from = c.kept_from-k.ensures in
    inr
    (record {
      from = from.from (omega (arith, s.requires));
      below = omega arith;
      placed = from.placed (omega (arith, s.requires));
      place = c.backward_place-place.ensures;
      taken = stored_if _ 0 _ _ c.is_due.ensures c.half_stored-largest.ensures;
    })
