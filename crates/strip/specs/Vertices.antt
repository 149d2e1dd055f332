-- The vertex at a site, and as a caller is told it.
use Rattle.std.specs.Prelude.{Option, Some, None, cond, ◌&&◌, ℕ, ◌+◌, ◌*◌, ltb}
use Rattle.strip.specs.declared.strip.Strip.{Strip}

-- Vertex (x, y), x along the strip and y across.
abbrev pub vertex : ℕ → ℕ → ℕ → ℕ
vertex w x y = x * w + y

-- the vertex where the site is one of the strip's, else none
abbrev pub sited : Strip → ℕ → ℕ → Option ℕ
sited s x y = cond (ltb x s.l && ltb y s.w) (Some (vertex s.w x y)) None
