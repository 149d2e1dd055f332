-- The checks in order; then the pairs are written.
use Rattle.strip.proofs.Laws.Sides.{sides_passed}
use Rattle.strip_pairs.proofs.Calls.{pairs-15, pairs-12, pairs-0, pairs-room}
use Rattle.refusals.proofs.Laws.First.{told}
use mathlib.Core.Path.{refl}
use Rattle.strip_pairs.proofs.standard.pairs.Goals as goal

pub returns-then-bad_sides : goal.returns-then-bad_sides
returns-then-bad_sides c = rw (← (pairs-15 _ _ _ _ c.bad_sides.ensures c.if-bad_sides.true)) record { value = (refl, tt); us_after = refl; vs_after = refl; labels_after = refl }

pub count_pairs-need-requires : goal.count_pairs-need-requires
count_pairs-need-requires c = sides_passed _ _ (told c.bad_sides.ensures c.if-bad_sides.false)

pub returns-then-pairs_too_short : goal.returns-then-pairs_too_short
returns-then-pairs_too_short c = let a = c.args in let n = c.count_pairs-need.ensures in rw (← (pairs-12 a.s a.us.now a.vs.now a.labels.now c.bad_sides.ensures c.if-bad_sides.false n.0 n.1 c.pairs_too_short.ensures c.if-pairs_too_short.true)) record { value = (refl, tt); us_after = refl; vs_after = refl; labels_after = refl }

pub write_pairs-requires : goal.write_pairs-requires
write_pairs-requires c = let a = c.args in let n = c.count_pairs-need.ensures in (sides_passed _ _ (told c.bad_sides.ensures c.if-bad_sides.false), pairs-room a.s a.us.now a.vs.now a.labels.now c.bad_sides.ensures c.if-bad_sides.false n.0 n.1 c.pairs_too_short.ensures c.if-pairs_too_short.false)

pub returns : goal.returns
returns c = let a = c.args in let n = c.count_pairs-need.ensures in let w = c.write_pairs.ensures in rw (← (pairs-0 a.s a.us.now a.vs.now a.labels.now c.bad_sides.ensures c.if-bad_sides.false n.0 n.1 c.pairs_too_short.ensures c.if-pairs_too_short.false)) record { value = (refl, n.0); us_after = w.firsts; vs_after = w.seconds; labels_after = w.bytes }
