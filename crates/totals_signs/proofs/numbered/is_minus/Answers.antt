use mathlib.Core.Path.{sym, ◌∙◌}
use Rattle.totals_signs.proofs.numbered.is_minus.Goals as goal

pub overflow_shr-result : goal.overflow_shr-result
overflow_shr-result c = c.requires (sym c.has_bit.ensures ∙ c.if-has_bit.true)

pub returns-then-has_bit : goal.returns-then-has_bit
returns-then-has_bit c = rw (sym c.has_bit.ensures ∙ c.if-has_bit.true)

pub returns : goal.returns
returns c = rw (sym c.has_bit.ensures ∙ c.if-has_bit.false)
