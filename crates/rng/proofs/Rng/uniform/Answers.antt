-- The product by 2 ^ -53 is one rounding of the quotient, which is exact.
use Rattle.std.proofs.Common.{◌/◌, ◌^◌, ap, arith, rules}
use Rattle.rounding.proofs.Laws.Scaled.{times-ulp, castable}
use Rattle.rng.specs.Uniform.{unit}
use Rattle.rng.proofs.Laws.Uniform.{unit-exact, top_lt}
use Rattle.rng.proofs.Rng.uniform.Goals as goal

pub next_u64-drawn-requires : goal.next_u64-drawn-requires
next_u64-drawn-requires c = search rules

pub int_to_float-result : goal.int_to_float-result
int_to_float-result c = castable (omega arith)

pub returns : goal.returns
unfolding unit
returns c =
    let w = c.next_u64-drawn in
    let is = times-ulp (w.result.word / 2 ^ 11) (top_lt (search rules)) in
    record { fact = (rw is (ap unit w.ensures.0), w.ensures.1); exactly = rw (is, ← w.ensures.0) (unit-exact w.result.word (search rules)) }
