-- The loop builds the pattern from its top bit down: what it has is the pattern by the bits from i on.
use mathlib.Core.Path.{◌≡◌}
use Prim.Native.Nat.{◌-◌, ◌≤◌}
use Rattle.step_tables.specs.Step.{pattern_from}
use Rattle.step_tables.proofs.pattern.pattern_of.Given as goal

abbrev pub invariant-loop-i : goal.invariant-loop-i
invariant-loop-i l = (l.i ≤ l.n) × (l.m ≡ pattern_from l.bits l.i (l.n - l.i) l.k)
