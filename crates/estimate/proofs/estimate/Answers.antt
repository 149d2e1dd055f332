-- Each `return` is a law of Cases.
use mathlib.Core.Path.{◌≡◌, sym, ◌∙◌}
use mathlib.Core.Bool.{true, false}
use Rattle.rounding.proofs.Laws.Scaled.{castable}
use borrow.Author.Tests.{not-true, not-false}
use Rattle.estimate.specs.Estimates.{number, bad_count, is_in_order}
use Rattle.estimate.proofs.Laws.Counted.{few-enough}
use Rattle.estimate.proofs.Laws.Cases.{refused-count, refused-order, too_few, enough}
use Rattle.estimate.proofs.estimate.Goals as goal

pub returns-then-bad_count : goal.returns-then-bad_count
returns-then-bad_count c =
    let s = c.args in
    refused-count s.count s.squares s.fourths (sym c.bad_count.ensures ∙ c.if-bad_count.true)

pub int_to_float-n : goal.int_to_float-n
int_to_float-n c = castable (few-enough c.args.count ((let it : bad_count c.args.count ≡ false = sym c.bad_count.ensures ∙ c.if-bad_count.false in it)))

pub returns-then-not-in_order : goal.returns-then-not-in_order
returns-then-not-in_order c =
    let e = c in
    let s = e.args in
    refused-order s.count s.squares s.fourths ((let it : bad_count c.args.count ≡ false = sym c.bad_count.ensures ∙ c.if-bad_count.false in it)) (sym c.in_order.ensures ∙ not-true _ c.if-not-in_order.true-raw)

pub returns-then-count-eq1 : goal.returns-then-count-eq1
returns-then-count-eq1 c =
    let e = c in
    let s = e.args in
    too_few s.count s.squares s.fourths ((let it : bad_count c.args.count ≡ false = sym c.bad_count.ensures ∙ c.if-bad_count.false in it)) ((let it : (let s = c.args in is_in_order (number s.count) s.squares s.fourths ≡ true) = sym c.in_order.ensures ∙ not-false _ c.if-not-in_order.false-raw in it)) c.if-count-eq1.true

pub returns : goal.returns
returns c =
    let e = c in
    let s = e.args in
    enough s.count s.squares s.fourths ((let it : bad_count c.args.count ≡ false = sym c.bad_count.ensures ∙ c.if-bad_count.false in it)) ((let it : (let s = c.args in is_in_order (number s.count) s.squares s.fourths ≡ true) = sym c.in_order.ensures ∙ not-false _ c.if-not-in_order.false-raw in it)) _ c.mean_error.ensures c.if-count-eq1.false
