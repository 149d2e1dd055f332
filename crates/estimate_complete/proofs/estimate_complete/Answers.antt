-- Each `return` is a law of Cases.
use mathlib.Core.Path.{◌≡◌, sym, ◌∙◌}
use mathlib.Core.Bool.{true}
use Rattle.rounding.proofs.Laws.Scaled.{castable}
use borrow.Author.Tests.{not-true, not-false}
use Rattle.estimate_complete.specs.Complete.{is_complete}
use Rattle.estimate_complete.proofs.Laws.Counted.{complete_power, few-enough}
use Rattle.estimate_complete.proofs.Laws.Cases.{refused-count, refused-order, complete}
use Rattle.estimate_complete.proofs.estimate_complete.Goals as goal

pub returns-then-not-is_complete : goal.returns-then-not-is_complete
returns-then-not-is_complete c =
    let s = c.args in
    refused-count s.count s.squares s.fourths (sym c.is_complete.ensures ∙ not-true _ c.if-not-is_complete.true-raw)

pub int_to_float-n : goal.int_to_float-n
int_to_float-n c = castable (few-enough (complete_power c.args.count ((let it : is_complete c.args.count ≡ true = sym c.is_complete.ensures ∙ not-false _ c.if-not-is_complete.false-raw in it))))

pub returns-then-not-in_order : goal.returns-then-not-in_order
returns-then-not-in_order c =
    let e = c in
    let s = e.args in
    refused-order s.count s.squares s.fourths ((let it : is_complete c.args.count ≡ true = sym c.is_complete.ensures ∙ not-false _ c.if-not-is_complete.false-raw in it)) (sym c.in_order.ensures ∙ not-true _ c.if-not-in_order.true-raw)

pub returns : goal.returns
returns c =
    let e = c in
    let s = e.args in
    complete s.count s.squares s.fourths ((let it : is_complete c.args.count ≡ true = sym c.is_complete.ensures ∙ not-false _ c.if-not-is_complete.false-raw in it)) _ c.mean_spread.ensures
    (sym c.in_order.ensures ∙ not-false _ c.if-not-in_order.false-raw)
