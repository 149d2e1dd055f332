-- The roots are the lowest vertices, and trees and components together are as many as the vertices.
use mathlib.Core.Path.{sym, ◌∙◌}
use native.Mathlib.Omega.{arith}
use lib.Seq.{length-take-le}
use Rattle.forest.proofs.Laws.Components.{trees_and_components}
use Rattle.forest.proofs.Laws.Growth.{edges-of, labelled-of}
use Rattle.components.proofs.Words.{roots-marked}
use Rattle.components.proofs.mark_components.Goals as goal

pub slice_bounds-p-end : goal.slice_bounds-p-end
slice_bounds-p-end c = sym (length-take-le _ _ (omega arith))

pub join_ends-trees-requires : goal.join_ends-trees-requires
join_ends-trees-requires c = edges-of (length-take-le _ _ (omega arith)) c.requires.0

pub overflow_sub-result : goal.overflow_sub-result
overflow_sub-result c =
    let s = c in
    omega (arith, c.join_ends-trees.ensures.0, trees_and_components s.requires.0)

pub returns : goal.returns
returns c =
    let s = c in
    let joined = c.join_ends-trees.ensures in (
      omega (arith, joined.0, trees_and_components s.requires.0),
      c.mark_roots-marks.ensures ∙ roots-marked _ _ _ (labelled-of (length-take-le _ _ (omega arith)) joined.1),
    )
