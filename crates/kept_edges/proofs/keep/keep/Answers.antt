-- Past the end no magnitude is dropped.
use Rattle.refusals.proofs.Laws.Dropping.{dropping-none}
use Rattle.kept_edges.proofs.keep.keep.Goals as goal

pub keep_dropping-requires : goal.keep_dropping-requires
keep_dropping-requires c =
    let given = c.before.before.before.before.before.before.before.before.before in
    rw (dropping-none given.args.m.now) given.requires

pub returns : goal.returns
returns c = rw (dropping-none c.args.m.now) at c.keep_dropping.ensures
