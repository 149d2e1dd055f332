-- The powers and the pattern, one by one.
use Rattle.step_runs.proofs.Laws.AtRun.{readable}
use borrow.Author.Rules.{rules}
use Rattle.step_runs.proofs.runs.step_runs.Goals as goal

pub pow2-end-requires : goal.pow2-end-requires
pow2-end-requires c = search rules

pub run_bit-e-requires : goal.run_bit-e-requires
run_bit-e-requires c = search rules

pub pow2-size-requires : goal.pow2-size-requires
pow2-size-requires c = search rules

pub pattern_of-one-requires : goal.pattern_of-one-requires
pattern_of-one-requires c = let both = (let p = c.requires in readable p.2 p.1) in record { n_bound = both.0; by_index = both.1 }
