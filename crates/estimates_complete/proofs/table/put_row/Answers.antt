-- Three stores.
use mathlib.Core.Path.{refl}
use Rattle.estimates_complete.proofs.table.put_row.Goals as goal

pub returns : goal.returns
returns c = record { means_after = refl; errors_after = refl; spreads_after = refl }
