-- One rule after the other; the buffers keep their lengths, so there is room for each.
use mathlib.Core.Path.{ap}
use lib.ListN.{length}
use Rattle.strip_edges.proofs.Writing.{sized-then, sized-holds, holds_less}
use native.Mathlib.Omega.{arith}
use Rattle.strip_edges.proofs.listing.place_site.Goals as goal

pub place-a-requires : goal.place-a-requires
place-a-requires c = holds_less _ c.requires.1 (omega (arith, ap length c.across.ensures))

pub wrap-requires : goal.wrap-requires
wrap-requires c = c.requires.0

pub place-b-requires : goal.place-b-requires
place-b-requires c = holds_less _ (sized-holds c.place-a.ensures.sized c.requires.1) (omega (arith, c.place-a.ensures.number, ap length c.across.ensures, ap length c.wrap.ensures))

pub along-requires : goal.along-requires
along-requires c = c.requires.0

pub place-c-requires : goal.place-c-requires
place-c-requires c = holds_less _ (sized-holds c.place-b.ensures.sized (sized-holds c.place-a.ensures.sized c.requires.1)) (omega (arith, c.place-a.ensures.number, ap length c.across.ensures, c.place-b.ensures.number, ap length c.wrap.ensures, ap length c.along.ensures))

pub rising-requires : goal.rising-requires
rising-requires c = c.requires.0

pub place-d-requires : goal.place-d-requires
place-d-requires c = holds_less _ (sized-holds c.place-c.ensures.sized (sized-holds c.place-b.ensures.sized (sized-holds c.place-a.ensures.sized c.requires.1))) (omega (arith, c.place-a.ensures.number, ap length c.across.ensures, c.place-b.ensures.number, ap length c.wrap.ensures, c.place-c.ensures.number, ap length c.along.ensures, ap length c.rising.ensures))

pub falling-requires : goal.falling-requires
falling-requires c = c.requires.0

pub place-requires : goal.place-requires
place-requires c = holds_less _ (sized-holds c.place-d.ensures.sized (sized-holds c.place-c.ensures.sized (sized-holds c.place-b.ensures.sized (sized-holds c.place-a.ensures.sized c.requires.1)))) (omega (arith, c.place-a.ensures.number, ap length c.across.ensures, c.place-b.ensures.number, ap length c.wrap.ensures, c.place-c.ensures.number, ap length c.along.ensures, c.place-d.ensures.number, ap length c.rising.ensures, ap length c.falling.ensures))

pub shape_of-early : goal.shape_of-early
shape_of-early c = (sized-then (sized-then (sized-then (sized-then c.place-a.ensures.sized c.place-b.ensures.sized) c.place-c.ensures.sized) c.place-d.ensures.sized) c.place.ensures.sized).earlies

pub shape_of-late : goal.shape_of-late
shape_of-late c = (sized-then (sized-then (sized-then (sized-then c.place-a.ensures.sized c.place-b.ensures.sized) c.place-c.ensures.sized) c.place-d.ensures.sized) c.place.ensures.sized).lates

pub shape_of-mag : goal.shape_of-mag
shape_of-mag c = (sized-then (sized-then (sized-then (sized-then c.place-a.ensures.sized c.place-b.ensures.sized) c.place-c.ensures.sized) c.place-d.ensures.sized) c.place.ensures.sized).mags

pub returns : goal.returns
returns c = λ es early₀ late₀ mag₀ w. rw c.falling.ensures at (c.place.ensures.then _ _ _ _ (rw c.rising.ensures at (c.place-d.ensures.then _ _ _ _ (rw c.along.ensures at (c.place-c.ensures.then _ _ _ _ (rw c.wrap.ensures at (c.place-b.ensures.then _ _ _ _ (rw c.across.ensures at (c.place-a.ensures.then _ _ _ _ (w))))))))))
