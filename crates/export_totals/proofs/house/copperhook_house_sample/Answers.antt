-- The options that the number names, and what the answer that was told says.
use Rattle.export_totals.proofs.Told.{house-sampled-told}
use Rattle.export_totals.proofs.house.copperhook_house_sample.Goals as goal

pub returns : goal.returns
returns c = let both = (house-sampled-told c.options_numbered-asked.ensures c.house_sample-answer.ensures c.tell_number.ensures) in record { house_sampled = both.0; count_unchanged = both.1 }
