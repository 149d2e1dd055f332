-- The checks of the lists as they are lent, and of the kept edges at the fronts of the buffers.
use Rattle.std.proofs.lemmas.Result.{err_from_is_err_and}
use Rattle.graph_build.proofs.Building.{room_for, early-part, late-part, early-fits, late-fits, few, ends_low}
use Rattle.graph_build.proofs.Building.{raw-accepted, raw-refused, twice-refused, none-refused}
use mathlib.Core.Path.{sym, refl, ◌∙◌}
use Rattle.refusals.proofs.Laws.Dropping.{dropping-length}
use Rattle.graph_build.proofs.check_graph_dropping.Goals as goal

pub returns-in_err-check_raw : goal.returns-in_err-check_raw
returns-in_err-check_raw c =
    let p = err_from_is_err_and c.from_residual.result c.from_residual.ensures.1 in
    rw (p.1, p.2) (raw-refused c.in_err-check_raw.ensures refl)

pub keep_dropping-edges-requires : goal.keep_dropping-edges-requires
keep_dropping-edges-requires c =
    let raw = raw-accepted c.in_ok-check_raw.ensures refl in
    let x = c.args in
    (raw.lists.others, sym (dropping-length x.dropped x.m.now) ∙ raw.lists.magnitudes, room_for raw.lists c.requires)

pub slice_bounds-joined_twice-end : goal.slice_bounds-joined_twice-end
slice_bounds-joined_twice-end c = early-fits c.keep_dropping-edges.ensures

pub slice_bounds-joined_twice-end-2 : goal.slice_bounds-joined_twice-end-2
slice_bounds-joined_twice-end-2 c = early-part c.keep_dropping-edges.ensures

pub slice_bounds-joined_twice-end-3 : goal.slice_bounds-joined_twice-end-3
slice_bounds-joined_twice-end-3 c = late-fits c.keep_dropping-edges.ensures

pub slice_bounds-joined_twice-end-4 : goal.slice_bounds-joined_twice-end-4
slice_bounds-joined_twice-end-4 c = late-part c.keep_dropping-edges.ensures

pub joined_twice-requires : goal.joined_twice-requires
joined_twice-requires c =
    let w = c.keep_dropping-edges.ensures in
    let raw = raw-accepted c.in_ok-check_raw.ensures refl in
    record { late_len = (sym (late-part w) ∙ early-part w, rw (← (early-part w)) (few w raw.lists)); by_index = ends_low w _ raw.few-vertices raw.edges }

pub returns-then-joined_twice : goal.returns-then-joined_twice
returns-then-joined_twice c =
    twice-refused c.in_ok-check_raw.ensures refl c.keep_dropping-edges.ensures c.joined_twice.ensures c.if-joined_twice.true

pub returns : goal.returns
returns c =
    none-refused c.in_ok-check_raw.ensures refl c.keep_dropping-edges.ensures c.joined_twice.ensures c.if-joined_twice.false
