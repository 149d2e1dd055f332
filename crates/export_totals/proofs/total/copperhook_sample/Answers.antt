-- The options that the number names, and what the answer that was told says.
use Rattle.export_totals.proofs.Told.{sampled-told}
use Rattle.export_totals.proofs.total.copperhook_sample.Goals as goal

pub returns : goal.returns
returns c = let both = (sampled-told c.options_numbered-asked.ensures c.sample-answer.ensures c.tell_number.ensures) in record { sampled = both.0; count_unchanged = both.1 }
