-- A job that no check refuses has the window and the room of its kept edges, and their free edges.
use Rattle.std.proofs.lemmas.Result.{err_from_is_err_and}
use Rattle.preview.proofs.Laws.Costing.{joined, few_fronts, costed}
use Rattle.kept_edges.proofs.Laws.Fronts.{early-part, late-part, early-fits, late-fits}
use Rattle.preview.proofs.cost_dropping.Goals as goal

pub returns-in_err-job : goal.returns-in_err-job
returns-in_err-job c =
    let p = err_from_is_err_and c.from_residual.result c.from_residual.ensures.1 in
    rw (p.1, p.2) (c.in_err-job.ensures.refusal, tt)

pub slice_bounds-early-end : goal.slice_bounds-early-end
slice_bounds-early-end c = early-fits c.in_ok-job.ensures.ready.written

pub slice_bounds-count_free_edges-end : goal.slice_bounds-count_free_edges-end
slice_bounds-count_free_edges-end c = early-part c.in_ok-job.ensures.ready.written

pub slice_bounds-late-end : goal.slice_bounds-late-end
slice_bounds-late-end c = late-fits c.in_ok-job.ensures.ready.written

pub slice_bounds-count_free_edges-end-2 : goal.slice_bounds-count_free_edges-end-2
slice_bounds-count_free_edges-end-2 c = late-part c.in_ok-job.ensures.ready.written

pub count_free_edges-free-requires : goal.count_free_edges-free-requires
count_free_edges-free-requires c =
    let job = c.in_ok-job.ensures.ready in
    (joined job, job.edges.few, few_fronts job)

pub room_needed-room-requires : goal.room_needed-room-requires
room_needed-room-requires c =
    let job = c.in_ok-job.ensures.ready in
    (job.pairs, job.edges.few, job.edges.narrow, job.few-edges)

pub returns : goal.returns
returns c = costed c.in_ok-job.ensures _ _ c.takes_less-less.ensures _ _ c.count_free_edges-free.ensures c.room_needed-room.ensures
