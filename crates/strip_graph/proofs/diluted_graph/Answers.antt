-- The strip's edges are drawn, as `diluted` has it; where it accepts them, the kept ones make the graph.
use Rattle.std.proofs.lemmas.Result.{err_from_is_err_and}
use native.Mathlib.Omega.{arith}
use Rattle.strip_dilution.specs.Diluted.{dilution}
use Rattle.strip_graph.proofs.Diluting.{Drawn, drawn, drawn-few, drawn-ordered, drawn-sizes, first_part, second-part, size-part, first_fits, second_fits, size_fits, drawn-set, refused-drawn}
use Rattle.strip_graph.proofs.diluted_graph.Goals as goal

pub vertex_count-n-requires : goal.vertex_count-n-requires
vertex_count-n-requires c =
    let x = c.args in
    let last = c.diluted.new in
    let e = c.in_ok-k.ensures in
    let D : Drawn x.s (dilution x.keep x.mlo x.mhi) x.seed c.in_ok-k.k last.early last.late last.mag = drawn _ _ _ _ _ _ _ e.value e.early_after e.late_after e.mag_after in
    D.accepted.sides.few

pub slice_bounds-first-end : goal.slice_bounds-first-end
slice_bounds-first-end c =
    let x = c.args in
    let last = c.diluted.new in
    let e = c.in_ok-k.ensures in
    let D : Drawn x.s (dilution x.keep x.mlo x.mhi) x.seed c.in_ok-k.k last.early last.late last.mag = drawn _ _ _ _ _ _ _ e.value e.early_after e.late_after e.mag_after in
    first_fits D

pub slice_bounds-graph_of-end : goal.slice_bounds-graph_of-end
slice_bounds-graph_of-end c =
    let x = c.args in
    let last = c.diluted.new in
    let e = c.in_ok-k.ensures in
    let D : Drawn x.s (dilution x.keep x.mlo x.mhi) x.seed c.in_ok-k.k last.early last.late last.mag = drawn _ _ _ _ _ _ _ e.value e.early_after e.late_after e.mag_after in
    first_part D

pub slice_bounds-second-end : goal.slice_bounds-second-end
slice_bounds-second-end c =
    let x = c.args in
    let last = c.diluted.new in
    let e = c.in_ok-k.ensures in
    let D : Drawn x.s (dilution x.keep x.mlo x.mhi) x.seed c.in_ok-k.k last.early last.late last.mag = drawn _ _ _ _ _ _ _ e.value e.early_after e.late_after e.mag_after in
    second_fits D

pub slice_bounds-graph_of-end-2 : goal.slice_bounds-graph_of-end-2
slice_bounds-graph_of-end-2 c =
    let x = c.args in
    let last = c.diluted.new in
    let e = c.in_ok-k.ensures in
    let D : Drawn x.s (dilution x.keep x.mlo x.mhi) x.seed c.in_ok-k.k last.early last.late last.mag = drawn _ _ _ _ _ _ _ e.value e.early_after e.late_after e.mag_after in
    second-part D

pub slice_bounds-size-end : goal.slice_bounds-size-end
slice_bounds-size-end c =
    let x = c.args in
    let last = c.diluted.new in
    let e = c.in_ok-k.ensures in
    let D : Drawn x.s (dilution x.keep x.mlo x.mhi) x.seed c.in_ok-k.k last.early last.late last.mag = drawn _ _ _ _ _ _ _ e.value e.early_after e.late_after e.mag_after in
    size_fits D

pub slice_bounds-graph_of-end-3 : goal.slice_bounds-graph_of-end-3
slice_bounds-graph_of-end-3 c =
    let x = c.args in
    let last = c.diluted.new in
    let e = c.in_ok-k.ensures in
    let D : Drawn x.s (dilution x.keep x.mlo x.mhi) x.seed c.in_ok-k.k last.early last.late last.mag = drawn _ _ _ _ _ _ _ e.value e.early_after e.late_after e.mag_after in
    size-part D

pub graph_of-requires : goal.graph_of-requires
graph_of-requires c =
    let x = c.args in
    let last = c.diluted.new in
    let e = c.in_ok-k.ensures in
    let D : Drawn x.s (dilution x.keep x.mlo x.mhi) x.seed c.in_ok-k.k last.early last.late last.mag = drawn _ _ _ _ _ _ _ e.value e.early_after e.late_after e.mag_after in
    (drawn-ordered D, drawn-sizes D, drawn-few D)

pub returns : goal.returns
returns c =
    let x = c.args in
    let last = c.diluted.new in
    let e = c.in_ok-k.ensures in
    let D : Drawn x.s (dilution x.keep x.mlo x.mhi) x.seed c.in_ok-k.k last.early last.late last.mag = drawn _ _ _ _ _ _ _ e.value e.early_after e.late_after e.mag_after in
    drawn-set _ _ _ _ _ D c.vertex_count-n.ensures c.graph_of.ensures

pub returns-in_err-k : goal.returns-in_err-k
returns-in_err-k c =
    let p = err_from_is_err_and c.from_residual.result c.from_residual.ensures.1 in
    rw (p.1, p.2) (refused-drawn _ _ _ _ _ _ _ _ _ _ _ (omega arith) (omega arith) (omega arith) c.in_err-k.ensures.value.0)
