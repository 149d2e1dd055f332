-- The checks of the graph and the betas, of the results, and the couplings.
use Rattle.std.proofs.lemmas.Result.{err_from_is_err_and}
use Rattle.couplings.proofs.Calls.{refused-graph, few-couplings, misfitting, fitting, done}
use native.Mathlib.Omega.{arith}
use Rattle.couplings.proofs.couplings.Goals as goal

pub returns-in_err-edges : goal.returns-in_err-edges
returns-in_err-edges c =
    let p = err_from_is_err_and c.from_residual.result c.from_residual.ensures.1 in
    rw (p.1, p.2) (refused-graph c.args.results.now c.in_err-edges.ensures)

pub overflow_mul-betas : goal.overflow_mul-betas
overflow_mul-betas c = omega (arith, few-couplings c.args.results.now c.in_ok-edges.ensures)

pub returns-then-results-betas : goal.returns-then-results-betas
returns-then-results-betas c = misfitting c.args.results.now c.in_ok-edges.ensures (λ e. omega arith)

pub couple-requires : goal.couple-requires
couple-requires c = fitting c.args.results.now c.in_ok-edges.ensures c.if-results-betas.false

pub returns : goal.returns
returns c = done c.args.results.now c.in_ok-edges.ensures c.if-results-betas.false _ c.couple.ensures
