-- A call with the ends that were gathered is one with all pairs.
use Rattle.c_pair_records.proofs.Laws.Uncopied.{answered}
use Rattle.refusals.specs.Numbers.{refused}
use Rattle.c_values.specs.Options.{options_numbered}
use Rattle.export_jobs.proofs.pair_records.copperhook_correlations_of.Goals as goal

pub returns : goal.returns
returns c =
    let args = c.args in
    let asked = options_numbered args.options in
    let between = c.correlations_between-answer in
    rw c.refused.ensures
    (answered args.n args.floor args.a.now args.b.now args.m.now args.factors.now asked.manner asked.arrangement asked.caller
    (refused between.result) args.results.now between.new.results args.work.now between.new.work
    args.pairs.now c.gather.result c.gather.ensures between.ensures)
