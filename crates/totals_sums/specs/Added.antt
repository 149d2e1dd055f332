-- Terms added to the numbers of a list.
use Rattle.std.specs.Prelude.{List, ℕ, ◌+◌, Float, get_or}
use Rattle.std.specs.Float.{nan, binary64}
use Rattle.std.specs.Float.Ieee.{add}
use Rattle.list_laws.specs.Part.{put}
use Rattle.list_laws.specs.Tabulate.{tabulate}

-- The n numbers of a list from `at` on, each with a term added.
abbrev pub added_at : List Float → ℕ → ℕ → (ℕ → Float) → List Float
added_at l at n term = put l at (tabulate (λ i. add binary64 (get_or l (at + i) nan) (term i)) n)

-- All numbers of a list, each with a term added.
abbrev pub added_to : List Float → ℕ → (ℕ → Float) → List Float
added_to l n term = tabulate (λ k. add binary64 (get_or l k nan) (term k)) n
