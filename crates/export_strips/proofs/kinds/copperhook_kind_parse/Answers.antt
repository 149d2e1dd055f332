-- What the answer holds, taken apart.
use mathlib.Core.Path.{refl, sym, ◌∙◌}
use Rattle.export_strips.proofs.kinds.copperhook_kind_parse.Goals as goal

pub returns-in-Some : goal.returns-in-Some
returns-in-Some c = rw (sym c.parse-answer.ensures ∙ c.in-Some.is) (refl, c.number_of.ensures)

pub returns-in-None : goal.returns-in-None
returns-in-None c = rw (sym c.parse-answer.ensures ∙ c.in-None.is) (refl, refl)
