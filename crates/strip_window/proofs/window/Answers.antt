-- The checks in order; the window is the reach.
use mathlib.Core.Path.{refl, sym, ◌∙◌}
use Rattle.strip.proofs.Laws.Sides.{sides_passed}
use Rattle.strip_window.proofs.WindowLaw.{window-is}
use Rattle.refusals.proofs.Laws.First.{here, past, told}
use borrow.Author.Rules.{rules}
use Rattle.strip_window.proofs.window.Goals as goal

pub bad_sides-requires : goal.bad_sides-requires
bad_sides-requires c = search rules

pub returns-then-bad_sides : goal.returns-then-bad_sides
returns-then-bad_sides c = (here _ _ _ (told c.bad_sides.ensures c.if-bad_sides.true), tt)

pub odd_cylinder-requires : goal.odd_cylinder-requires
odd_cylinder-requires c = search rules

pub returns-then-odd_cylinder : goal.returns-then-odd_cylinder
returns-then-odd_cylinder c =
    (past _ _ _ _ (told c.bad_sides.ensures c.if-bad_sides.false) (here _ _ _ (told c.odd_cylinder.ensures c.if-odd_cylinder.true)), tt)

pub reach-requires : goal.reach-requires
reach-requires c = sides_passed _ _ (told c.bad_sides.ensures c.if-bad_sides.false)

pub returns : goal.returns
returns c =
    let sides = told c.bad_sides.ensures c.if-bad_sides.false in
    let odd = told c.odd_cylinder.ensures c.if-odd_cylinder.false in
    (past _ _ _ _ sides (past _ _ _ _ odd refl), c.reach.ensures ∙ sym (window-is _ (sides_passed _ _ sides) odd))
