-- The test of the factors, then the bound if they are near enough to one.
use mathlib.Core.Path.{sym, ◌∙◌}
use Rattle.error_bound.proofs.Laws.Near.{near-four}
use Rattle.error_bound.proofs.Laws.Parts.{ten_refused, within-is, unknown-is}
use Rattle.error_bound.proofs.entry.bound_kept.Goals as goal

pub returns-then-bad_factors : goal.returns-then-bad_factors
returns-then-bad_factors c = ten_refused _ _ _ _ _ (sym c.bad_factors.ensures ∙ c.if-bad_factors.true)

pub most_bits-requires : goal.most_bits-requires
most_bits-requires c =
    let p = c.requires in
    let e = c.most_near-near.ensures in
    (p.0.narrow, rw e (near-four _ _ _ p.1))

pub bound_of-requires : goal.bound_of-requires
bound_of-requires c =
    let p = c.requires in
    let e = c.most_near-near.ensures in
    (p.0.few, p.0.narrow, rw e (near-four _ _ _ p.1))

pub returns-then-near_one : goal.returns-then-near_one
returns-then-near_one c =
    let t = c in
    within-is _ _ _ _ _ (sym t.bad_factors.ensures ∙ t.if-bad_factors.false)
    t.most_near-near.ensures t.most_bits.ensures t.near_one.ensures t.if-near_one.true c.bound_of.ensures

pub returns : goal.returns
returns c =
    let t = c in
    unknown-is _ _ _ _ _ (sym t.bad_factors.ensures ∙ t.if-bad_factors.false)
    t.most_near-near.ensures t.most_bits.ensures t.near_one.ensures t.if-near_one.false
