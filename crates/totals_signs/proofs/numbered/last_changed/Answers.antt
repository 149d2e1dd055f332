-- The four cases.
use mathlib.Core.Path.{refl, sym, ◌∙◌}
use mathlib.Core.Logic.{inl, inr}
use Rattle.totals_signs.proofs.numbered.last_changed.Goals as goal

pub returns-then-minus : goal.returns-then-minus
returns-then-minus c = inr (refl, c.if-minus.true ∙ sym c.if-before.true)

pub returns-then-before : goal.returns-then-before
returns-then-before c = inl refl

pub returns-then-minus-2 : goal.returns-then-minus-2
returns-then-minus-2 c = inl refl

pub returns-else-minus-2 : goal.returns-else-minus-2
returns-else-minus-2 c = inr (refl, c.if-minus-2.false ∙ sym c.if-before.false)
