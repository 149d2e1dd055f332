-- By the answer's case.
use mathlib.Core.Path.{refl, sym, ◌∙◌}
use Rattle.export_shares.proofs.copperhook_shares.Goals as goal

pub returns-in-Ok : goal.returns-in-Ok
returns-in-Ok c =
    let a = c in
    let e = sym a.shares-answer.ensures ∙ a.in-Ok.is in
    rw e record { value = refl; words_after = c.words_of-told.ensures }

pub returns-in-Err : goal.returns-in-Err
returns-in-Err c =
    let a = c in
    let e = sym a.shares-answer.ensures ∙ a.in-Err.is in
    rw e record { value = c.number.ensures; words_after = refl }
