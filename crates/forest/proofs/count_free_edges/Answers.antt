-- The bits lie in a list that is made here.
use mathlib.Core.Path.{sym}
use native.Mathlib.Omega.{arith}
use lib.Seq.{length-take-le}
use Rattle.forest.proofs.count_free_edges.Goals as goal

pub slice_bounds-number_free_edges-end : goal.slice_bounds-number_free_edges-end
slice_bounds-number_free_edges-end c = sym (length-take-le _ _ (omega arith))

pub number_free_edges-requires : goal.number_free_edges-requires
number_free_edges-requires c = let p = c.requires in (p.0, p.1, length-take-le _ _ (omega arith))
