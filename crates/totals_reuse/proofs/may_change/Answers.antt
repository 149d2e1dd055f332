-- The two ways in which an edge is settled.
use mathlib.Core.Path.{sym, ◌∙◌}
use native.Mathlib.Omega.{arith}
use Rattle.totals_reuse.proofs.may_change.Goals as goal

pub returns-then-e-last : goal.returns-then-e-last
returns-then-e-last c = λ _ h. absurd (omega arith)

pub returns : goal.returns
returns c = λ h _. sym c.has_bit.ensures ∙ h
