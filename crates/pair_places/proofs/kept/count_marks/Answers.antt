use mathlib.Core.Path.{◌≡◌, sym, ap, ◌∙◌}
use mathlib.Core.Bool.{false}
use Prim.Native.Nat.{ℕ, ◌+◌}
use native.Mathlib.Omega.{arith}
use lib.ListN.{get_or}
use Rattle.list_laws.proofs.Laws.Count.{count_zero, count_hit, count_miss, count_most}
use Rattle.pair_places.proofs.kept.count_marks.Goals as goal
use Rattle.pair_places.proofs.kept.count_marks.Goals.{then-marks-t, else-marks-t}

pub loop-t-init : goal.loop-t-init
loop-t-init c = (omega arith, sym (count_zero _))

pub overflow_add-c : goal.overflow_add-c
overflow_add-c c =
    let at = c in
    let s = at in
    omega (arith, at.loop-t.invariant.1, count_most (λ u. get_or s.args.marks.now u false) at.loop-t.t)

pub loop-t-preserved : goal.loop-t-preserved
loop-t-preserved c = let i = c.loop-t.invariant in
    elim c.if-marks-t.branch [
      | then-marks-t w ↦ (omega arith, w.c-is ∙ ap (λ (x : ℕ). x + 1) i.1 ∙ sym (count_hit _ _ w.if-marks-t.true))
      | else-marks-t w ↦ (omega arith, w.c-is ∙ i.1 ∙ sym (count_miss _ _ w.if-marks-t.false))
    ]

pub returns : goal.returns
returns c = let e : c.loop-t.t ≡ c.args.n = omega arith in rw e at c.loop-t.invariant.1
