-- By cases of whether the vertex is kept.
use native.Mathlib.Omega.{arith}
use Rattle.pair_places.proofs.kept.give_place.Goals as goal

pub returns-then-kept : goal.returns-then-kept
returns-then-kept c = (rw c.if-kept.true, rw c.if-kept.true)

pub returns : goal.returns
returns c = (rw c.if-kept.false (omega arith), rw c.if-kept.false)
