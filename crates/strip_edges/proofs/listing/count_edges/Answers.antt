use mathlib.Core.Path.{◌≡◌, sym}
use Prim.Native.Nat.{◌*◌}
use Rattle.strip.proofs.Laws.Sides.{site}
use Rattle.strip_bonds.proofs.Laws.Sites.{no_edges, count-more}
use native.Mathlib.Omega.{arith}
use Rattle.strip_edges.proofs.listing.count_edges.Goals as goal

pub loop-v-init : goal.loop-v-init
loop-v-init c = (sym (no_edges c.args.s), omega arith, omega arith)

pub count_site-k-requires : goal.count_site-k-requires
count_site-k-requires c = site _ c.requires c.loop-v.v (rw c.vertex_count-sites.ensures at c.loop-v-test.true)

pub loop-v-preserved : goal.loop-v-preserved
loop-v-preserved c = (count-more c.args.s c.loop-v.v _ _ c.loop-v.invariant.0 c.count_site-k.ensures.0, omega arith, omega arith)

pub returns : goal.returns
returns c = let e : c.loop-v.v ≡ c.args.s.w * c.args.s.l = omega arith in rw e at c.loop-v.invariant.0
