-- The tests, one after the other; the factors are few enough to be counted.
use Rattle.buffer_checks.proofs.Checking.{few-factors, retold}
use Rattle.refusals.proofs.Laws.First.{here, past, told}
use native.Mathlib.Omega.{arith}
use Rattle.buffer_checks.proofs.totals.check_sampling.Goals as goal

pub overflow_mul-betas : goal.overflow_mul-betas
overflow_mul-betas c =
    let start = c in
    omega (arith, few-factors start.args.betas start.args.edges start.requires.4 start.requires.3)

pub overflow_mul-betas-2 : goal.overflow_mul-betas-2
overflow_mul-betas-2 c =
    let start = c in
    omega (arith, few-factors start.args.betas start.args.edges start.requires.4 start.requires.3)

pub returns-then-bad_factors : goal.returns-then-bad_factors
returns-then-bad_factors c = here _ _ _ (told c.bad_factors.ensures c.if-bad_factors.true)

pub returns-then-too_many_chunks : goal.returns-then-too_many_chunks
returns-then-too_many_chunks c =
    let counted = c in
    past _ _ _ _ (told counted.bad_factors.ensures counted.if-bad_factors.false) (here _ _ _ (told c.too_many_chunks.ensures c.if-too_many_chunks.true))

pub returns : goal.returns
returns c =
    let few = c in
    let counted = few in
    past _ _ _ _ (told counted.bad_factors.ensures counted.if-bad_factors.false)
    (past _ _ _ _ (told few.too_many_chunks.ensures few.if-too_many_chunks.false) (retold _ _ _ _ _ c.misfit-misfit.ensures c.check_buffers.ensures))
