-- The tests, one after the other; the factors are few enough to be counted.
use Rattle.buffer_checks.proofs.Checking.{few-factors, retold}
use Rattle.refusals.proofs.Laws.First.{here, past, told}
use borrow.Author.Tests.{lt-ltb, le-ltb}
use native.Mathlib.Omega.{arith}
use Rattle.buffer_checks.proofs.totals.check_enumeration.Goals as goal

pub returns-then-most-free : goal.returns-then-most-free
returns-then-most-free c = here _ _ _ (lt-ltb _ _ c.if-most-free.true)

pub returns-then-over_limit : goal.returns-then-over_limit
returns-then-over_limit c = past _ _ _ _ (le-ltb _ _ c.if-most-free.false) (here _ _ _ (told c.over_limit.ensures c.if-over_limit.true))

pub overflow_mul-betas : goal.overflow_mul-betas
overflow_mul-betas c =
    let start = c in
    omega (arith, few-factors start.args.betas start.args.edges start.requires.4 start.requires.3)

pub overflow_mul-betas-2 : goal.overflow_mul-betas-2
overflow_mul-betas-2 c =
    let start = c in
    omega (arith, few-factors start.args.betas start.args.edges start.requires.4 start.requires.3)

pub returns-then-bad_factors : goal.returns-then-bad_factors
returns-then-bad_factors c =
    let within = c in
    past _ _ _ _ (le-ltb _ _ within.if-most-free.false)
    (past _ _ _ _ (told within.over_limit.ensures within.if-over_limit.false) (here _ _ _ (told c.bad_factors.ensures c.if-bad_factors.true)))

pub returns : goal.returns
returns c =
    let counted = c in
    let within = counted in
    past _ _ _ _ (le-ltb _ _ within.if-most-free.false)
    (past _ _ _ _ (told within.over_limit.ensures within.if-over_limit.false)
    (past _ _ _ _ (told counted.bad_factors.ensures counted.if-bad_factors.false) (retold _ _ _ _ _ c.misfit-misfit.ensures c.check_buffers.ensures)))
