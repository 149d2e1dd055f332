-- The ends of as many pairs as the index says, which goes up to the number copied.
use Rattle.std.proofs.Common.{◌≡◌, ◌-◌, ◌≤◌}
use Rattle.c_pair_records.specs.Columns.{ends_of}
use Rattle.c_pair_records.proofs.gather.Given as goal

abbrev pub invariant-loop-i : goal.invariant-loop-i
invariant-loop-i l = (l.e ≡ ends_of l.pairs l.i) × (l.i ≤ l.n)
