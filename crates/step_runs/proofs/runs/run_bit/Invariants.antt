-- None of the bits so far is from `low` up to e.
use Prim.Native.Nat.{◌≤◌}
use Rattle.step_runs.specs.Rule.{Sparse}
use Rattle.step_runs.proofs.runs.run_bit.Given as goal

abbrev pub invariant-loop-i : goal.invariant-loop-i
invariant-loop-i l = (l.i ≤ l.n) × (l.low ≤ l.e) × (l.e ≤ l.h) × Sparse l.bits l.i l.low l.e
