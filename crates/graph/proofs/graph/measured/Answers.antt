-- The measure of the kept edges, if the graph is accepted.
use Rattle.std.proofs.lemmas.Result.{err_from_is_err_and}
use Rattle.graph.specs.Graphs.{measure_of}
use Rattle.graph.proofs.Building.{early-fits, early-part, kept_fronts, of-kept}
use mathlib.Core.Path.{refl}
use native.Mathlib.Omega.{arith}
use Rattle.graph.proofs.graph.measured.Goals as goal

pub returns-in_err-edges : goal.returns-in_err-edges
returns-in_err-edges c =
    let p = err_from_is_err_and c.from_residual.result c.from_residual.ensures.1 in
    rw (p.1, p.2) (c.in_err-edges.ensures.refusal, tt)

pub measure_kept-requires : goal.measure_kept-requires
measure_kept-requires c =
    let g = c.in_ok-edges.ensures in
    (kept_fronts g refl, omega (arith, early-fits g.written, early-part g.written))

pub returns : goal.returns
returns c =
    let g = c.in_ok-edges.ensures in
    (g.refusal, of-kept g.written (measure_of c.args.measure c.args.n) c.measure_kept.ensures)
