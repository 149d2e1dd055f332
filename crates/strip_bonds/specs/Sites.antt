-- The sites of a strip, one after the other, and how many edges they give.
use Rattle.std.specs.Prelude.{ℕ, ◌+◌, length}
use Rattle.strip.specs.declared.strip.Strip.{Strip}
use Rattle.strip_bonds.specs.Edges.{across, wrap, along, rising, falling}

-- how many edges the rules give at a site
abbrev pub site_count : Strip → ℕ → ℕ → ℕ
site_count s x y = length (across s x y) + length (wrap s x y) + length (along s x y) + length (rising s x y) + length (falling s x y)
