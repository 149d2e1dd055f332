-- The options that the number names, and the entry with it.
use mathlib.Core.Path.{ap}
use Rattle.c_values.specs.declared.options.Options.{Options}
use Rattle.export_recordings.proofs.recordings.copperhook_sample_record.Goals as goal

pub returns : goal.returns
returns c =
    let asked = c.options_numbered-asked.ensures in
    rw (c.refused.ensures, ← (ap (λ (o : Options). o.manner) asked), ← (ap (λ (o : Options). o.arrangement) asked)) c.sample_record-answer.ensures
