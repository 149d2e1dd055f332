-- Each `return` is a law of Refusals.
use mathlib.Core.Path.{sym, ◌∙◌}
use borrow.Author.Rules.{rules}
use Rattle.estimates.proofs.Refusals.{sums_apart, means-misfit, errors-misfit, sums-bad, accepted}
use Rattle.estimates.proofs.order.refuse.Goals as goal

pub returns-then-squares-fourths : goal.returns-then-squares-fourths
returns-then-squares-fourths c = let a = c.args in sums_apart a.count a.squares.now a.fourths.now a.means a.errors c.if-squares-fourths.true

pub returns-then-means-squares : goal.returns-then-means-squares
returns-then-means-squares c =
    let a = c.args in
    means-misfit a.count a.squares.now a.fourths.now a.means a.errors c.if-squares-fourths.false c.if-means-squares.true

pub returns-then-errors-squares : goal.returns-then-errors-squares
returns-then-errors-squares c =
    let a = c.args in
    errors-misfit a.count a.squares.now a.fourths.now a.means a.errors c.if-squares-fourths.false c.if-means-squares.false c.if-errors-squares.true

pub bad_sums-requires : goal.bad_sums-requires
bad_sums-requires c = search rules

pub returns-then-bad_sums : goal.returns-then-bad_sums
returns-then-bad_sums c =
    let e = c in
    let a = e.args in
    sums-bad a.count a.squares.now a.fourths.now a.means a.errors e.if-squares-fourths.false e.if-means-squares.false e.if-errors-squares.false
    (sym c.bad_sums.ensures ∙ c.if-bad_sums.true)

pub returns : goal.returns
returns c =
    let e = c in
    let a = e.args in
    accepted a.count a.squares.now a.fourths.now a.means a.errors e.if-squares-fourths.false e.if-means-squares.false e.if-errors-squares.false
    (sym c.bad_sums.ensures ∙ c.if-bad_sums.false)
