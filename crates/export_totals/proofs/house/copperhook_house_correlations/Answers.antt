-- The options that the number names, and the entry with it.
use mathlib.Core.Path.{ap}
use borrow.Author.Rules.{rules}
use Rattle.c_values.specs.declared.options.Options.{Options}
use Rattle.export_totals.proofs.house.copperhook_house_correlations.Goals as goal

pub options_numbered-asked-requires : goal.options_numbered-asked-requires
options_numbered-asked-requires c = search rules

pub house_correlations-answer-requires : goal.house_correlations-answer-requires
house_correlations-answer-requires c = search rules

pub returns : goal.returns
returns c =
    let asked = c.options_numbered-asked.ensures in
    rw (c.refused.ensures, ← (ap (λ (o : Options). o.manner) asked), ← (ap (λ (o : Options). o.arrangement) asked), ← (ap (λ (o : Options). o.caller) asked)) c.house_correlations-answer.ensures
