-- The table's entries are computed from the rule, all at once, and compared with the code's.
use mathlib.Core.Path.{refl}
use lib.Ieee.{of_bits}
use Rattle.house_table.specs.House.{house_table}
use Rattle.house_table.proofs.table.Goals as goal

-- src/lib.rt:1033:1
pub returns : goal.returns
unfolding house_table of_bits
returns c = refl
