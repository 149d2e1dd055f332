-- The tables are read, and one step or two are taken by them, as `last` says.
use mathlib.Core.Path.{sym, ap, ◌∙◌}
use native.Mathlib.Omega.{arith}
use lib.ListN.{drop}
use Rattle.plan_steps.specs.Layout.{step_in}
use Rattle.step_tables.proofs.Laws.Constants.{one-is}
use Rattle.pair_sums.specs.Stored.{most_if}
use Rattle.vertex_step.proofs.Laws.Through.{second-of, through-one, through-two}
use Rattle.vertex_step.proofs.Folds.{half-to}
use Rattle.vertex_step.proofs.through.forward_through.Goals as goal

pub half_forward-most-requires : goal.half_forward-most-requires
half_forward-most-requires c =
    (c.requires.0.places, rw c.near_count-n.ensures c.tables_at-ep.ensures.rising)

pub returns-then-taken : goal.returns-then-taken
unfolding most_if
returns-then-taken c =
    let step = c.half_forward-most.ensures in record { room_after = step.room_after _ _ (rw (c.near_count-n.ensures, one-is) c.tables_at-ep.ensures.tabled) ∙ ap (half-to _ _ _ _) (sym (through-one _ _ _ _ _ _ c.if-last-t.true)); value = rw c.if-taken.true step.value }

pub returns-else-taken : goal.returns-else-taken
unfolding most_if
returns-else-taken c =
    let step = c.half_forward-most.ensures in record { room_after = step.room_after _ _ (rw (c.near_count-n.ensures, one-is) c.tables_at-ep.ensures.tabled) ∙ ap (half-to _ _ _ _) (sym (through-one _ _ _ _ _ _ c.if-last-t.true)); value = rw c.if-taken.false one-is }

pub tables_at-ep2-requires : goal.tables_at-ep2-requires
tables_at-ep2-requires c =
    ((second-of c.requires.1 c.if-last-t.false).reads, omega arith, omega arith, omega arith)

pub near_count-n2-requires : goal.near_count-n2-requires
near_count-n2-requires c = (second-of c.requires.1 c.if-last-t.false).reads.holds

pub half_stride_forward-requires : goal.half_stride_forward-requires
half_stride_forward-requires c =
    let p = c.requires in (
      (second-of p.1 c.if-last-t.false).wide,
      p.0.places,
      rw c.near_count-n.ensures c.tables_at-ep.ensures.rising,
      rw c.near_count-n2.ensures c.tables_at-ep2.ensures.rising,
    )

pub half_stored-requires : goal.half_stored-requires
half_stored-requires c = rw c.half_stride_forward.auto.room c.requires.0.places.to

pub returns : goal.returns
returns c =
    let a = c.args in
    let x = drop a.factors a.room.now in
    let both = c.half_stride_forward.ensures (step_in a.plan.now x a.t) a.scale (step_in a.plan.now x a.last) a.then (rw (c.near_count-n.ensures, one-is) c.tables_at-ep.ensures.tabled)
    (rw (c.near_count-n2.ensures, one-is) c.tables_at-ep2.ensures.tabled) in
    record { room_after = both ∙ ap (half-to _ _ _ _) (sym (through-two _ _ _ _ _ _ c.if-last-t.false)); value = c.half_stored.ensures }
