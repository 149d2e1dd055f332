-- Each lane starts at +0.0.
use Rattle.step_tables.proofs.Laws.Constants.{zero_is}
use Rattle.largest_entry.proofs.no_entries.Goals as goal

pub returns : goal.returns
returns c = (zero_is, zero_is, zero_is, zero_is)
