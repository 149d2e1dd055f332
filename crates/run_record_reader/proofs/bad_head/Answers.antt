-- By the tests in turn.
use mathlib.Core.Path.{◌∙◌}
use Rattle.run_record.proofs.Laws.Cases.{many-betas, many-pairs, backwards, by_samples}
use Rattle.run_record_reader.proofs.bad_head.Goals as goal

pub returns-then-h-gt-BETAS : goal.returns-then-h-gt-BETAS
returns-then-h-gt-BETAS c = many-betas c.args.h c.if-h-gt-BETAS.true

pub returns-then-h-gt-PAIRS : goal.returns-then-h-gt-PAIRS
returns-then-h-gt-PAIRS c = many-pairs c.args.h c.if-h-gt-BETAS.false c.if-h-gt-PAIRS.true

pub returns-then-h : goal.returns-then-h
returns-then-h c = backwards c.args.h c.if-h-gt-BETAS.false c.if-h-gt-PAIRS.false c.if-h.true

pub returns : goal.returns
returns c = c.too_many_chunks.ensures ∙ by_samples c.args.h c.if-h-gt-BETAS.false c.if-h-gt-PAIRS.false c.if-h.false
