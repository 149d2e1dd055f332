-- By the sign.
use mathlib.Core.Path.{sym, ap, ◌∙◌}
use mathlib.Core.Bool.{true, false}
use native.Mathlib.Omega.{arith}
use Rattle.house_factors.specs.Factors.{factor_of}
use Rattle.house_factors.proofs.Laws.Entries.{entry-is}
use Rattle.house_factors.proofs.entry_place.Goals as goal

pub returns-then-minus : goal.returns-then-minus
returns-then-minus c =
    let a = c.args in
    let p = c.place-p in
    (omega arith, entry-is a.x p.result true p.ensures.0 p.ensures.1 ∙ ap (factor_of a.x) (sym c.if-minus.true))

pub returns-else-minus : goal.returns-else-minus
returns-else-minus c =
    let a = c.args in
    let p = c.place-p in
    (p.ensures.1, entry-is a.x p.result false p.ensures.0 p.ensures.1 ∙ ap (factor_of a.x) (sym c.if-minus.false))
