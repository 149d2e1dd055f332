use mathlib.Core.Path.{◌≡◌, refl, ◌∙◌}
use Prim.Native.Nat.{◌+◌, ◌^◌, ◌<◌}
use Rattle.step_runs.proofs.Laws.AtRun.{readable, first_run, run_size, run_even, run_ends, run_16, next_run}
use Rattle.step_tables.proofs.Laws.Constants.{zero_is}
use Rattle.largest_entry.proofs.Laws.Top.{tops_none}
use Rattle.step_backward.proofs.Laws.Ends.{ends-none}
use Rattle.step_backward.proofs.BackwardIteration.{backward_fit, run_apart, runs_iteration, runs-most, ends-most}
use native.Mathlib.Omega.{arith}
use Rattle.step_backward.proofs.backward_runs.Goals as goal

pub step_runs-end-requires : goal.step_runs-end-requires
step_runs-end-requires c = let p = c.requires in (p.0, p.1, p.3)

pub overflow_mul-past : goal.overflow_mul-past
overflow_mul-past c = omega (arith, c.step_runs-end.ensures.ends)

pub overflow_add-past : goal.overflow_add-past
overflow_add-past c = omega (arith, c.step_runs-end.ensures.ends)

pub loop-k-init : goal.loop-k-init
loop-k-init c =
    let s = c in (
      refl,
      s.requires.2,
      c.step_runs-end.ensures,
      first_run _ _,
      ends-none _ _ _ _ _,
      zero_is ∙ tops_none _ _,
    )

pub pattern_of-m-requires : goal.pattern_of-m-requires
pattern_of-m-requires c = let both = (readable c.requires.3 c.requires.1) in record { n_bound = both.0; by_index = both.1 }

pub overflow_add-j : goal.overflow_add-j
overflow_add-j c = omega (arith, (let it : c.pattern_of-m.result + c.step_runs-end.result.one < 16 = let i = c.loop-k.invariant in run_16 i.2 i.3 c.loop-k-test.true _ c.pattern_of-m.ensures.value in it))

pub offset_bounds-up-j : goal.offset_bounds-up-j
offset_bounds-up-j c = omega (arith, (let it : c.pattern_of-m.result + c.step_runs-end.result.one < 16 = let i = c.loop-k.invariant in run_16 i.2 i.3 c.loop-k-test.true _ c.pattern_of-m.ensures.value in it))

pub bounds-up-j : goal.bounds-up-j
bounds-up-j c = (let it : c.pattern_of-m.result + c.step_runs-end.result.one < 16 = let i = c.loop-k.invariant in run_16 i.2 i.3 c.loop-k-test.true _ c.pattern_of-m.ensures.value in it)

pub offset_bounds-down-j : goal.offset_bounds-down-j
offset_bounds-down-j c = omega (arith, (let it : c.pattern_of-m.result + c.step_runs-end.result.one < 16 = let i = c.loop-k.invariant in run_16 i.2 i.3 c.loop-k-test.true _ c.pattern_of-m.ensures.value in it))

pub bounds-down-j : goal.bounds-down-j
bounds-down-j c = (let it : c.pattern_of-m.result + c.step_runs-end.result.one < 16 = let i = c.loop-k.invariant in run_16 i.2 i.3 c.loop-k-test.true _ c.pattern_of-m.ensures.value in it)

pub backward_run-r-requires : goal.backward_run-r-requires
backward_run-r-requires c =
    let iteration = c in
    let i = iteration.loop-k.invariant in
    let f = run_apart i.2 i.3 iteration.loop-k-test.true _ _ _ i.1 in
    (run_even i.2, f.0, rw i.0 f.1, rw i.0 f.2)

pub larger_of-most-requires : goal.larger_of-most-requires
larger_of-most-requires c = tt

pub loop-k-smaller : goal.loop-k-smaller
loop-k-smaller c =
    let iteration = c in
    omega (arith, run_size iteration.loop-k.invariant.2, iteration.loop-k-test.true)

pub loop-k-preserved : goal.loop-k-preserved
loop-k-preserved c =
    let m = c.pattern_of-m.ensures.value in
    let iteration = c in
    let under = iteration.loop-k-test.true in
    let at = iteration in
    let i = at.loop-k.invariant in
    let a = at.args in
    let run = c.backward_run-r in (
      run.auto.v ∙ i.0,
      i.1,
      i.2,
      next_run i.2 i.3 under,
      runs_iteration i.2 i.3 under _ _ a.up.now a.down.now _ _ _ a.v.now at.loop-k.v i.1 m i.4 _ run.ensures.v_after,
      runs-most i.2 i.3 under _ _ a.up.now a.down.now _ _ _ a.v.now at.loop-k.v i.1 m i.4 i.5 run.ensures.value c.larger_of-most.ensures,
    )

pub returns : goal.returns
returns c =
    let at = c in
    let i = at.loop-k.invariant in
    let s = at in
    let e : at.loop-k.k ≡ 2 ^ s.args.g = omega (arith, i.2.ends, i.3.within) in
    let filled = rw (e, i.2.ends) at i.4 in
    record { v_after = filled; value = ends-most _ _ _ _ _ _ _ (backward_fit _ _ _ _ _) (backward_fit _ _ _ _ _) refl s.requires.2.to filled (rw e at i.5) }

pub returns-2 : goal.returns-2
returns-2 c =
    let m = c.pattern_of-m.ensures.value in
    let under = c.loop-k-test.true in
    let i = c.loop-k.invariant in
    let a = c.args in
    let run = c.backward_run-r in
    let e : c.loop-k.k + c.step_runs-end.result.size ≡ 2 ^ a.g = omega (arith, i.2.ends, run_ends i.2 i.3 under) in
    let filled = rw (e, i.2.ends) at (runs_iteration i.2 i.3 under _ _ a.up.now a.down.now _ _ _ a.v.now c.loop-k.v i.1 m i.4 _ run.ensures.v_after) in
    let most = rw e at (runs-most i.2 i.3 under _ _ a.up.now a.down.now _ _ _ a.v.now c.loop-k.v i.1 m i.4 i.5 run.ensures.value c.larger_of-most.ensures) in
    record { v_after = filled; value = ends-most _ _ _ _ _ _ _ (backward_fit _ _ _ _ _) (backward_fit _ _ _ _ _) refl c.requires.2.to filled most }
