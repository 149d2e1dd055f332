-- The reading has reached a place from which it tells what the whole tells.
use Prim.Native.Nat.{◌-◌}
use lib.ListN.{length}
use Rattle.job_sheet.proofs.Laws.Counts.{Reached}
use Rattle.job_sheet.proofs.counts.count_records.Given as goal

abbrev pub invariant-loop-kind : goal.invariant-loop-kind
invariant-loop-kind l = Reached l.sheet l.at

abbrev pub decreases-loop-kind : goal.decreases-loop-kind
decreases-loop-kind l = length l.sheet - l.at.place
