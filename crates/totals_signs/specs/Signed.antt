-- The factors of a configuration's signs.
use Rattle.std.specs.Prelude.{Bool, false, List, ℕ, Float, get_or}
use Rattle.std.specs.Float.{nan}
use Rattle.list_laws.specs.Tabulate.{tabulate}
use Rattle.transfer_matrix.specs.Configuration.{lent_at}

-- The factors in use at beta b of m edges: of each edge the one for its sign.
abbrev pub factors_in_use : List Float → ℕ → ℕ → List Bool → List Float
factors_in_use factors m b signs = tabulate (λ e. get_or factors (lent_at m b e (get_or signs e false)) nan) m
