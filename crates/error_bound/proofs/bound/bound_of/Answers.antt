-- What the steps and the sum round comes to far less than 2 ^ 53, so each whole number is exact, and so is the quotient.
use Prim.Native.Nat.{◌+◌, ◌*◌}
use native.Mathlib.Omega.{arith}
use Rattle.accuracy.specs.Stated.{units}
use Rattle.error_bound.proofs.Laws.Margin.{counted}
use Rattle.rounding.proofs.Laws.Scaled.{times-ulp, castable}
use Rattle.error_bound.proofs.bound.bound_of.Goals as goal

pub overflow_mul-roundings-2 : goal.overflow_mul-roundings-2
overflow_mul-roundings-2 c = let k = counted c.args.n c.args.w c.args.near c.requires.0 c.requires.1 c.requires.2 in omega arith

pub overflow_mul-roundings-3 : goal.overflow_mul-roundings-3
overflow_mul-roundings-3 c = let s = c in let k = counted s.args.n s.args.w s.args.near s.requires.0 s.requires.1 s.requires.2 in omega arith

pub overflow_add-roundings-2 : goal.overflow_add-roundings-2
overflow_add-roundings-2 c = let s = c in let k = counted s.args.n s.args.w s.args.near s.requires.0 s.requires.1 s.requires.2 in omega arith

pub overflow_add-roundings-3 : goal.overflow_add-roundings-3
overflow_add-roundings-3 c = let s = c in let k = counted s.args.n s.args.w s.args.near s.requires.0 s.requires.1 s.requires.2 in omega arith

pub int_to_float-result : goal.int_to_float-result
int_to_float-result c =
    let s = c in
    let k = counted s.args.n s.args.w s.args.near s.requires.0 s.requires.1 s.requires.2 in
    castable (omega arith)

pub returns : goal.returns
unfolding units
returns c =
    let s = c in
    let k = counted s.args.n s.args.w s.args.near s.requires.0 s.requires.1 s.requires.2 in
    let e = c.pow2.ensures in
    rw (← e) (times-ulp (2 * (s.args.near + 5) * s.args.n + 2 * c.pow2.result + 6) (omega arith))
