-- The lowest bits that either step reads past what a run may see.
use mathlib.Core.Path.{◌≡◌}
use Prim.Native.Nat.{◌+◌, ◌-◌}
use native.Mathlib.Omega.{arith}
use borrow.Author.Rules.{rules}
use Rattle.step_runs.proofs.Laws.Patterns.{sparse_less}
use Rattle.step_runs.proofs.runs.runs_of.Goals as goal

pub run_bit-e-requires : goal.run_bit-e-requires
run_bit-e-requires c = search rules

pub run_bit-requires : goal.run_bit-requires
run_bit-requires c = search rules

pub returns : goal.returns
returns c =
    let first = c.run_bit-e.ensures in
    let second = c.run_bit.ensures in
    let e : c.run_bit.result - 1 + 1 ≡ c.run_bit.result = omega arith in
    (omega arith, omega arith, sparse_less _ (omega arith) first.sparse, rw e second.sparse)
