use Rattle.strip_edges.proofs.Writing.{none_written, site_room, sites-sized, all-written}
use Rattle.strip.proofs.Laws.Sides.{site}
use Rattle.strip_bonds.proofs.Laws.Sites.{edges_more}
use native.Mathlib.Omega.{arith}
use Rattle.strip_edges.proofs.listing.write_edges.Goals as goal

pub loop-v-init : goal.loop-v-init
loop-v-init c = (none_written _ _ _ _, omega arith)

pub place_site-k-requires : goal.place_site-k-requires
place_site-k-requires c = let t = rw c.vertex_count-sites.ensures at c.loop-v-test.true in (site _ c.requires.0 c.loop-v.v t, site_room _ _ c.loop-v.invariant.0 c.requires.1 t)

pub loop-v-preserved : goal.loop-v-preserved
loop-v-preserved c = (rw (edges_more c.args.s c.loop-v.v) (c.place_site-k.ensures _ _ _ _ c.loop-v.invariant.0), omega arith)

pub shape_of-early : goal.shape_of-early
shape_of-early c = (sites-sized _ _ c.loop-v.invariant.0 c.requires.1 c.loop-v.invariant.1).earlies

pub shape_of-late : goal.shape_of-late
shape_of-late c = (sites-sized _ _ c.loop-v.invariant.0 c.requires.1 c.loop-v.invariant.1).lates

pub shape_of-mag : goal.shape_of-mag
shape_of-mag c = (sites-sized _ _ c.loop-v.invariant.0 c.requires.1 c.loop-v.invariant.1).mags

pub returns : goal.returns
returns c = all-written _ _ c.loop-v.invariant.0 c.requires.1 (rw c.vertex_count-sites.ensures at c.loop-v-test.false) c.loop-v.invariant.1
