-- The left edge is the number less one.
use native.Mathlib.Omega.{arith}
use Rattle.totals_reuse.proofs.left_may_change.Goals as goal

pub left_edge-k-requires : goal.left_edge-k-requires
left_edge-k-requires c = c.requires.holds

pub returns-then-k-eq0 : goal.returns-then-k-eq0
returns-then-k-eq0 c = λ _ p. absurd (omega (arith, c.left_edge-k.ensures))

pub may_change-requires : goal.may_change-requires
may_change-requires c =
    let s = c in
    let e = c.left_edge-k.ensures in
    omega (arith, e, (s.requires.reads s.args.t (omega arith)).left (omega (arith, e)))

pub returns : goal.returns
returns c = λ z p. rw c.left_edge-k.ensures at (c.may_change.ensures z)
