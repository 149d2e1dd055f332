-- The checks in order; then the list is written, and its magnitudes are drawn.
use Rattle.strip_bonds.specs.Edges.{edges}
use native.Mathlib.Omega.{arith}
use native.Mathlib.Nat.{le_trans}
use Rattle.strip.proofs.Laws.Sides.{sides_passed}
use Rattle.strip_edges.proofs.Laws.Listing.{short-passed}
use Rattle.strip_dilution.proofs.Calls.{diluted_15, diluted_16, diluted_17, diluted_12, diluted_0}
use Rattle.strip_dilution.proofs.Drawing.{drawn-over}
use Rattle.strip_dilution.specs.Diluted.{dilution}
use Rattle.refusals.proofs.Laws.First.{told}
use mathlib.Core.Path.{refl}
use Rattle.strip_dilution.proofs.dilute.diluted.Goals as goal

pub returns-then-bad_sides : goal.returns-then-bad_sides
returns-then-bad_sides c = let a = c.args in rw (← (diluted_15 a.s (dilution a.keep a.mlo a.mhi) a.early.now a.late.now a.mag.now c.bad_sides.ensures c.if-bad_sides.true)) record { value = (refl, tt); early_after = refl; late_after = refl; mag_after = refl }

pub returns-then-odd_cylinder : goal.returns-then-odd_cylinder
returns-then-odd_cylinder c = let a = c.args in rw (← (diluted_16 a.s (dilution a.keep a.mlo a.mhi) a.early.now a.late.now a.mag.now c.bad_sides.ensures c.if-bad_sides.false c.odd_cylinder.ensures c.if-odd_cylinder.true)) record { value = (refl, tt); early_after = refl; late_after = refl; mag_after = refl }

pub returns-then-bad_dilution : goal.returns-then-bad_dilution
returns-then-bad_dilution c = let a = c.args in rw (← (diluted_17 a.s (dilution a.keep a.mlo a.mhi) a.early.now a.late.now a.mag.now c.bad_sides.ensures c.if-bad_sides.false c.odd_cylinder.ensures c.if-odd_cylinder.false c.bad_dilution.ensures c.if-bad_dilution.true)) record { value = (refl, tt); early_after = refl; late_after = refl; mag_after = refl }

pub count_edges-k-requires : goal.count_edges-k-requires
count_edges-k-requires c = sides_passed _ _ (told c.bad_sides.ensures c.if-bad_sides.false)

pub returns-then-too_short : goal.returns-then-too_short
returns-then-too_short c = let a = c.args in rw (← (diluted_12 a.s (dilution a.keep a.mlo a.mhi) a.early.now a.late.now a.mag.now c.bad_sides.ensures c.if-bad_sides.false c.odd_cylinder.ensures c.if-odd_cylinder.false c.bad_dilution.ensures c.if-bad_dilution.false c.count_edges-k.ensures c.too_short.ensures c.if-too_short.true)) record { value = (refl, tt); early_after = refl; late_after = refl; mag_after = refl }

pub write_edges-requires : goal.write_edges-requires
write_edges-requires c = (sides_passed _ _ (told c.bad_sides.ensures c.if-bad_sides.false), rw (← c.count_edges-k.ensures) (short-passed _ _ _ _ (told c.too_short.ensures c.if-too_short.false)))

pub draw_magnitudes-requires : goal.draw_magnitudes-requires
draw_magnitudes-requires c = let a = c.args in let h = short-passed c.count_edges-k.result a.early.now a.late.now a.mag.now (told c.too_short.ensures c.if-too_short.false) in le_trans h.mags (omega (arith, c.write_edges.auto.mag))

pub returns : goal.returns
returns c = let a = c.args in let n = c.count_edges-k.ensures in let w = c.write_edges.ensures in rw (← (diluted_0 a.s (dilution a.keep a.mlo a.mhi) a.early.now a.late.now a.mag.now c.bad_sides.ensures c.if-bad_sides.false c.odd_cylinder.ensures c.if-odd_cylinder.false c.bad_dilution.ensures c.if-bad_dilution.false n c.too_short.ensures c.if-too_short.false)) record { value = (refl, n); early_after = w.earlies; late_after = w.lates; mag_after = drawn-over (dilution a.keep a.mlo a.mhi) a.seed _ (edges a.s) a.mag.now n w.mags c.draw_magnitudes.ensures }
