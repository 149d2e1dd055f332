-- The answer of each measure's own function.
use Rattle.graph.proofs.Building.{joined}
use Rattle.graph.proofs.Setting.{of_measure}
use Rattle.graph.specs.declared.graph.Measure.TheVariants.{Free}
use Rattle.graph.proofs.graph.measure_kept.Goals as goal

pub count_free_edges-requires : goal.count_free_edges-requires
count_free_edges-requires c = let es = c.requires in (joined es.0, es.0.few, es.1)

pub returns-in-Window : goal.returns-in-Window
returns-in-Window c =
    let x = c.args in
    of_measure x.n x.early.now x.late.now _ _ c.in-Window.is _ c.window_of.ensures

pub returns-in-Free : goal.returns-in-Free
returns-in-Free c =
    let x = c.args in
    of_measure x.n x.early.now x.late.now _ Free c.in-Free.is _ c.count_free_edges.ensures
