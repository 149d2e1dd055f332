use mathlib.Core.Path.{◌≡◌, sym, ap, ◌∙◌}
use mathlib.Core.Bool.{false, not}
use native.Mathlib.Omega.{arith}
use lib.ListN.{length}
use Rattle.rounding.proofs.Laws.Scaled.{castable}
use Rattle.list_laws.proofs.Laws.Search.{start, hit, miss, none}
use Rattle.estimate.specs.Estimates.{bad_count}
use Rattle.estimate.proofs.Laws.Counted.{few-enough}
use Rattle.estimates.proofs.Sums.{disordered, of-count, of_places}
use Rattle.estimates.proofs.order.bad_sums.Goals as goal

pub returns-then-bad_count : goal.returns-then-bad_count
returns-then-bad_count c = let a = c.args in of-count a.count a.squares.now a.fourths.now (sym c.bad_count.ensures ∙ c.if-bad_count.true)

pub int_to_float-n : goal.int_to_float-n
int_to_float-n c = castable (few-enough c.args.count ((let it : bad_count c.args.count ≡ false = sym c.bad_count.ensures ∙ c.if-bad_count.false in it)))

pub loop-i-init : goal.loop-i-init
loop-i-init c = (omega arith, start _)

pub returns-then-not-in_order : goal.returns-then-not-in_order
returns-then-not-in_order c =
    let a = c.args in
    of_places a.count a.squares.now a.fourths.now ((let it : bad_count c.args.count ≡ false = sym c.bad_count.ensures ∙ c.if-bad_count.false in it)) _
    (hit (disordered a.count a.squares.now a.fourths.now) (length a.squares.now) c.loop-i.i (omega arith) _
    (ap not c.in_order.ensures) c.if-not-in_order.true-raw)

pub loop-i-preserved : goal.loop-i-preserved
loop-i-preserved c =
    let a = c.args in
    let l = c.loop-i in (
      omega arith,
      miss (disordered a.count a.squares.now a.fourths.now) l.i l.invariant.1 _ (ap not c.in_order.ensures) c.if-not-in_order.false-raw,
    )

pub returns : goal.returns
returns c =
    let a = c.args in
    let l = c.loop-i in
    of_places a.count a.squares.now a.fourths.now ((let it : bad_count c.args.count ≡ false = sym c.bad_count.ensures ∙ c.if-bad_count.false in it)) _
    (none (disordered a.count a.squares.now a.fourths.now) (length a.squares.now) l.i l.invariant.1 c.loop-i-test.false l.invariant.0)
