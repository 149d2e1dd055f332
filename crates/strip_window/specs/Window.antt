-- The window of a strip.
use Rattle.std.specs.Prelude.{ℕ, ◌-◌, max, length, get_or}
use Rattle.list_laws.specs.Most.{most}
use Rattle.strip.specs.declared.strip.Strip.{Strip}
use Rattle.strip_bonds.specs.Edges.{edges, early_ends, late_ends}

-- the largest of 1 and the longest edge
abbrev pub window_of : Strip → ℕ
window_of s = max 1 (most (λ i. get_or (late_ends (edges s)) i 0 - get_or (early_ends (edges s)) i 0) (length (edges s)))
