use mathlib.Core.Path.{refl}
use Rattle.refusals.proofs.Laws.First.{here, past, told}
use Rattle.strip.proofs.Laws.Sides.{sides_passed}
use borrow.Author.Rules.{rules}
use Rattle.strip.proofs.vertices.check_sides.Goals as goal

pub bad_sides-requires : goal.bad_sides-requires
bad_sides-requires c = search rules

pub returns-then-bad_sides : goal.returns-then-bad_sides
returns-then-bad_sides c = record { refusal = here _ _ _ (told c.bad_sides.ensures c.if-bad_sides.true); sides = tt }

pub returns : goal.returns
returns c =
    let passed = told c.bad_sides.ensures c.if-bad_sides.false in
    record { refusal = past _ _ _ _ passed refl; sides = sides_passed _ _ passed }
