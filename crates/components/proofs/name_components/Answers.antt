use mathlib.Core.Path.{◌≡◌, sym, ◌∙◌}
use native.Mathlib.Omega.{arith}
use lib.Seq.{length-take-le}
use lib.ListN.{length}
use Rattle.forest.proofs.Laws.Growth.{labels-none, union_takes, union_labels, found-label, found-keeps}
use Rattle.union_find.proofs.Laws.Filled.{filled_none, filled_more, filled_all}
use Rattle.components.proofs.name_components.Goals as goal

pub slice_bounds-p-end : goal.slice_bounds-p-end
slice_bounds-p-end c = sym (length-take-le _ _ (omega arith))

pub loop-e-init : goal.loop-e-init
loop-e-init c =
    let s = c.start in
    (labels-none _ _ (s.auto.p ∙ length-take-le _ _ (omega arith)) s.ensures, omega arith)

pub union-requires : goal.union-requires
union-requires c =
    let l = c in
    let s = l in
    union_takes l.loop-e.invariant.0 s.requires.0 _ (omega arith)

pub loop-e-preserved : goal.loop-e-preserved
loop-e-preserved c =
    let l = c in
    let s = l in
    (union_labels s.requires.0 _ (omega arith) l.loop-e.invariant.0 c.union.ensures, omega arith)

pub loop-v-init : goal.loop-v-init
loop-v-init c =
    let s = c in
    let all : c.loop-e.e ≡ length s.args.early.now = omega arith in
    (rw all at c.loop-e.invariant.0, filled_none _ s.requires.2)

pub find-requires : goal.find-requires
find-requires c = let L = c.loop-v.invariant.0 in (L.forest, rw L.len (omega arith))

pub loop-v-preserved : goal.loop-v-preserved
loop-v-preserved c =
    let l = c.loop-v in
    let F = c.find.ensures in
    (found-keeps l.invariant.0 F, filled_more l.invariant.1 (omega arith) (found-label l.invariant.0 (omega arith) F))

pub returns : goal.returns
returns c = filled_all c.loop-v.invariant.1 c.loop-v-test.false
