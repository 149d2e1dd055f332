-- The table's rule, carried to the entry at a place.
use Rattle.std.specs.Prelude.{◌≡◌, List, ℕ, ◌<◌, Float, get_or}
use Rattle.std.proofs.Common.{ap, ◌∙◌}
use Rattle.std.specs.Float.{nan}
use Rattle.list_laws.proofs.Laws.Tabulate.{tabulate-at}
use Rattle.house_table.specs.House.{house, entry_at, house_table}

pub table_at : (t : List Float) (p : ℕ) → t ≡ house_table → p < 1025 → get_or t p nan ≡ house (entry_at p)
unfolding house_table
table_at t p e h = ap (λ (l : List Float). get_or l p nan) e ∙ tabulate-at (λ q. house (entry_at q)) 1025 p nan h
