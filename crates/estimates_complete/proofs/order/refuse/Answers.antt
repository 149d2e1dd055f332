-- Each `return` is a law of Refusals.
use mathlib.Core.Path.{sym, ◌∙◌}
use borrow.Author.Tests.{not-true, not-false}
use Rattle.estimates_complete.proofs.Refusals.{sums_apart, means-misfit, errors-misfit, spreads-misfit, incomplete, sums-bad, accepted}
use Rattle.estimates_complete.proofs.order.refuse.Goals as goal

pub returns-then-squares-fourths : goal.returns-then-squares-fourths
returns-then-squares-fourths c = let a = c.args in sums_apart a.count a.squares.now a.fourths.now a.means a.errors a.spreads c.if-squares-fourths.true

pub returns-then-means-squares : goal.returns-then-means-squares
returns-then-means-squares c =
    let a = c.args in
    means-misfit a.count a.squares.now a.fourths.now a.means a.errors a.spreads c.if-squares-fourths.false c.if-means-squares.true

pub returns-then-errors-squares : goal.returns-then-errors-squares
returns-then-errors-squares c =
    let a = c.args in
    errors-misfit a.count a.squares.now a.fourths.now a.means a.errors a.spreads c.if-squares-fourths.false c.if-means-squares.false c.if-errors-squares.true

pub returns-then-spreads-squares : goal.returns-then-spreads-squares
returns-then-spreads-squares c =
    let a = c.args in
    spreads-misfit a.count a.squares.now a.fourths.now a.means a.errors a.spreads
    c.if-squares-fourths.false c.if-means-squares.false c.if-errors-squares.false c.if-spreads-squares.true

pub returns-then-not-is_complete : goal.returns-then-not-is_complete
returns-then-not-is_complete c =
    let e = c in
    let a = e.args in
    incomplete a.count a.squares.now a.fourths.now a.means a.errors a.spreads
    e.if-squares-fourths.false e.if-means-squares.false e.if-errors-squares.false e.if-spreads-squares.false
    (sym c.is_complete.ensures ∙ not-true _ c.if-not-is_complete.true-raw)

pub returns-then-bad_sums : goal.returns-then-bad_sums
returns-then-bad_sums c =
    let d = c in
    let e = d in
    let a = e.args in
    sums-bad a.count a.squares.now a.fourths.now a.means a.errors a.spreads
    e.if-squares-fourths.false e.if-means-squares.false e.if-errors-squares.false e.if-spreads-squares.false
    (sym d.is_complete.ensures ∙ not-false _ d.if-not-is_complete.false-raw) (sym c.bad_sums.ensures ∙ c.if-bad_sums.true)

pub returns : goal.returns
returns c =
    let d = c in
    let e = d in
    let a = e.args in
    accepted a.count a.squares.now a.fourths.now a.means a.errors a.spreads
    e.if-squares-fourths.false e.if-means-squares.false e.if-errors-squares.false e.if-spreads-squares.false
    (sym d.is_complete.ensures ∙ not-false _ d.if-not-is_complete.false-raw) (sym c.bad_sums.ensures ∙ c.if-bad_sums.false)
