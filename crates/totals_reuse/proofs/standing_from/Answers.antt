-- The first configuration of a run, or a later one.
use native.Mathlib.Omega.{arith}
use borrow.Author.Rules.{rules}
use Rattle.totals_reuse.proofs.standing_from.Goals as goal

pub returns-then-j-eq0 : goal.returns-then-j-eq0
returns-then-j-eq0 c = record { first = λ z. omega arith; then = λ p. absurd (omega arith) }

pub changed_vertex-requires : goal.changed_vertex-requires
changed_vertex-requires c = search rules
