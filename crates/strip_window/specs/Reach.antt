-- How far the edges of a strip go: what each rule gives at a site lies inside the strip, smaller end first, no longer than the strip's reach,
-- and has a key of its own, which rises along the list.
use Rattle.std.specs.Prelude.{cond, not, ◌&&◌, ℕ, ◌+◌, ◌-◌, ◌*◌, ltb}
use Rattle.strip.specs.Kinds.{is_honey, is_eight}
use Rattle.strip_bonds.specs.Edges.{rises}
use Rattle.strip.specs.declared.strip.Strip.{Strip}

-- The reach: with two columns or more it is the width, and one more where a diagonal rises in a strip wider than 1, or twice the width less 1 where
-- one falls round a cylinder wider than 2; in one column it is the edge that goes round a cylinder wider than 2, which a honeycomb has not, and 1 otherwise.
unfoldable pub reach : Strip → ℕ
reach s =
    cond (ltb 1 s.l)
    (cond (is_eight s.kind && s.periodic && ltb 2 s.w) (2 * s.w - 1) (cond (rises s && ltb 1 s.w) (s.w + 1) s.w))
    (cond (not (is_honey s.kind) && s.periodic && ltb 2 s.w) (s.w - 1) 1)
