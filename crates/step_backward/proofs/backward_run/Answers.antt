use mathlib.Core.Path.{◌≡◌, refl, ◌∙◌}
use Prim.Native.Nat.{◌+◌, ◌<◌}
use lib.ListN.{length-set}
use Rattle.step_tables.specs.Rule.{mix}
use Rattle.largest_entry.proofs.Laws.Lanes.{lanes_none}
use Rattle.step_backward.proofs.Laws.Ends.{ends-none}
use Rattle.step_backward.proofs.BackwardIteration.{run_iteration, run_lanes, run_most}
use native.Mathlib.Omega.{arith}
use Rattle.step_backward.proofs.backward_run.Goals as goal
use Rattle.step_backward.proofs.backward_run.Goals.{else-loop-i-test, then-loop-i-test+else-n-i-gt2}

pub no_entries-m-requires : goal.no_entries-m-requires
no_entries-m-requires c = tt

pub loop-i-init : goal.loop-i-init
loop-i-init c =
    let z = c.no_entries-m.ensures in
    (refl, omega arith, omega arith, ends-none _ _ _ _ _, lanes_none _ _ z.0 z.1 z.3 z.2)

pub bounds-v-s-in-loop-i-3 : goal.bounds-v-s-in-loop-i-3
bounds-v-s-in-loop-i-3 c = omega (arith, (let it : c.loop-i.i + 1 < c.args.n = omega arith in it))

pub bounds-v-lo-in-loop-i : goal.bounds-v-lo-in-loop-i
bounds-v-lo-in-loop-i c = simp length-set (omega (arith, (let it : c.loop-i.i + 1 < c.args.n = omega arith in it)))

pub bounds-v-hi : goal.bounds-v-hi
bounds-v-hi c = simp length-set (omega (arith, (let it : c.loop-i.i + 1 < c.args.n = omega arith in it)))

pub bounds-v-hi-in-loop-i : goal.bounds-v-hi-in-loop-i
bounds-v-hi-in-loop-i c = simp length-set (omega (arith, (let it : c.loop-i.i + 1 < c.args.n = omega arith in it)))

pub joined-m-requires : goal.joined-m-requires
joined-m-requires c = tt

pub loop-i-preserved : goal.loop-i-preserved
unfolding mix
loop-i-preserved c =
    let iteration = c in
    let at = iteration in
    let pre = at.requires in (
      simp length-set at.loop-i.invariant.0,
      omega arith,
      omega (arith, (let it : c.loop-i.i + 1 < c.args.n = omega arith in it)),
      run_iteration _ _ _ _ _ _ _ _ _ _ _ _ _ pre.1 pre.2 pre.3 at.loop-i.invariant.3 ((let it : c.loop-i.i + 1 < c.args.n = omega arith in it)) at.loop-i.invariant.1,
      run_lanes _ _ _ _ _ _ _ _ _ _ _ _ _ pre.1 pre.2 pre.3 at.loop-i.invariant.3 ((let it : c.loop-i.i + 1 < c.args.n = omega arith in it)) at.loop-i.invariant.1 at.loop-i.invariant.4 c.joined-m.ensures,
    )

pub larger_of-requires : goal.larger_of-requires
larger_of-requires c = tt

pub larger_of-requires-2 : goal.larger_of-requires-2
larger_of-requires-2 c = tt

pub larger_of-requires-3 : goal.larger_of-requires-3
larger_of-requires-3 c = tt

pub returns : goal.returns
unfolding mix
returns c =
    let g = c.args in
    let pre = c.requires in
    let inv = c.loop-i.invariant in
    let m = c.loop-i-test.m in
    let most = run_most g.ep g.em g.p0 g.q0 g.p1 g.q1 g.s g.lo g.hi g.n g.v.now c.loop-i-test.v c.loop-i.i pre.1 pre.2 pre.3 {ma = m.a} {mb = m.b} {mc = m.c} {md = m.d} pre.0 in
    elim c.loop-i-test.branch [
      | else-loop-i-test w ↦
          let e : c.loop-i.i ≡ g.n = omega arith in
          record { v_after = w.v-is ∙ rw e at inv.3; value = most (rw w.m-is (rw e at inv.4)) c.larger_of.ensures c.larger_of-2.ensures c.larger_of-3.ensures }
      | then-loop-i-test+else-n-i-gt2 w ↦
          let h : c.loop-i.i + 1 < g.n = omega arith in
          let e : c.loop-i.i + 2 ≡ g.n = omega arith in
          let filled = run_iteration _ _ _ _ _ _ _ _ _ _ _ _ _ pre.1 pre.2 pre.3 inv.3 h inv.1 in
          let lanes = run_lanes _ _ _ _ _ _ _ _ _ _ _ _ _ pre.1 pre.2 pre.3 inv.3 h inv.1 inv.4 w.joined-m.ensures in
          record { v_after = w.v-is ∙ rw e at filled; value = most (rw w.m-is (rw e at lanes)) c.larger_of.ensures c.larger_of-2.ensures c.larger_of-3.ensures }
    ]
