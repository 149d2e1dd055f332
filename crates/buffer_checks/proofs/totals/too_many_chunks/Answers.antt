-- No chunk or no sample, or else the quotient tells.
use Rattle.refusals.proofs.Laws.AcceptedTotals.{chunks-over, no_chunks, no_samples}
use native.Mathlib.Omega.{arith}
use Rattle.buffer_checks.proofs.totals.too_many_chunks.Goals as goal

pub returns-then-end-start : goal.returns-then-end-start
returns-then-end-start c = no_chunks _ _ _ c.if-end-start.true

pub returns-then-samples-eq0 : goal.returns-then-samples-eq0
returns-then-samples-eq0 c = no_samples c.args.start c.args.end _ c.if-samples-eq0.true

pub returns : goal.returns
returns c =
    let x = c.args in
    chunks-over x.start x.end x.samples (omega (arith, c.if-end-start.false)) (omega (arith, c.if-samples-eq0.false))
