-- The checks in order; then the list is written.
use Rattle.strip.proofs.Laws.Sides.{sides_passed}
use Rattle.strip_edges.proofs.Laws.Listing.{short-passed}
use Rattle.strip_edges.proofs.Calls.{raw-15, raw-16, raw-12, raw-0}
use Rattle.refusals.proofs.Laws.First.{told}
use mathlib.Core.Path.{refl}
use Rattle.strip_edges.proofs.raw.raw_edges.Goals as goal

pub returns-then-bad_sides : goal.returns-then-bad_sides
returns-then-bad_sides c = rw (← (raw-15 _ _ _ _ c.bad_sides.ensures c.if-bad_sides.true)) record { value = (refl, tt); early_after = refl; late_after = refl; mag_after = refl }

pub returns-then-odd_cylinder : goal.returns-then-odd_cylinder
returns-then-odd_cylinder c = let a = c.args in rw (← (raw-16 a.s a.early.now a.late.now a.mag.now c.bad_sides.ensures c.if-bad_sides.false c.odd_cylinder.ensures c.if-odd_cylinder.true)) record { value = (refl, tt); early_after = refl; late_after = refl; mag_after = refl }

pub count_edges-k-requires : goal.count_edges-k-requires
count_edges-k-requires c = sides_passed _ _ (told c.bad_sides.ensures c.if-bad_sides.false)

pub returns-then-too_short : goal.returns-then-too_short
returns-then-too_short c = let a = c.args in rw (← (raw-12 a.s a.early.now a.late.now a.mag.now c.bad_sides.ensures c.if-bad_sides.false c.odd_cylinder.ensures c.if-odd_cylinder.false c.count_edges-k.ensures c.too_short.ensures c.if-too_short.true)) record { value = (refl, tt); early_after = refl; late_after = refl; mag_after = refl }

pub write_edges-requires : goal.write_edges-requires
write_edges-requires c = (sides_passed _ _ (told c.bad_sides.ensures c.if-bad_sides.false), rw (← c.count_edges-k.ensures) (short-passed _ _ _ _ (told c.too_short.ensures c.if-too_short.false)))

pub returns : goal.returns
returns c = let a = c.args in let w = c.write_edges.ensures in rw (← (raw-0 a.s a.early.now a.late.now a.mag.now c.bad_sides.ensures c.if-bad_sides.false c.odd_cylinder.ensures c.if-odd_cylinder.false c.count_edges-k.ensures c.too_short.ensures c.if-too_short.false)) record { value = (refl, c.count_edges-k.ensures); early_after = w.earlies; late_after = w.lates; mag_after = w.mags }
