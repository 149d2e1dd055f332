use mathlib.Core.Path.{◌≡◌, refl, ◌∙◌}
use Prim.Native.Nat.{◌+◌, ◌*◌, ◌-◌, ◌^◌, ◌≤◌, ◌<◌}
use native.Mathlib.Omega.{arith}
use Rattle.step_runs.proofs.Laws.AtRun.{readable, first_run, next_run, run_size, run_even, run_ends, second-16}
use Rattle.step_runs.proofs.Laws.Opposite.{opposed_16}
use Rattle.two_steps_backward.proofs.Laws.Inward.{inward-none}
use Rattle.two_steps_backward.proofs.BackwardRuns.{run_targets, run_apart, runs_iteration}
use Rattle.two_steps_backward.proofs.backward_runs.Goals as goal

pub two_step_runs-end-requires : goal.two_step_runs-end-requires
two_step_runs-end-requires c = let p = c.requires in (p.0, p.1, p.3, p.4)

pub overflow_add-o : goal.overflow_add-o
overflow_add-o c = omega (arith, c.requires.2.to, c.two_step_runs-end.ensures.0.whole, c)

pub loop-k-init : goal.loop-k-init
loop-k-init c =
    let s = c in (
      refl,
      s.requires.2,
      c.two_step_runs-end.ensures.0,
      first_run _ _,
      inward-none _ _ _ _ _ _ _ _ _,
      c.two_step_runs-end.ensures.1,
    )

pub overflow_sub-t : goal.overflow_sub-t
overflow_sub-t c = let r = (let it : (let at = c in
    let r = at.two_step_runs-end.result in
    let a = at.args in
    (a.src + 2 * 2 ^ a.h < 18446744073709551616) × (a.dst + 2 * 2 ^ a.h < 18446744073709551616) × (at.loop-k.k + r.size ≤ r.end)
    × (r.quarter ≡ 2 * r.end) × (r.quarter ≡ 2 ^ a.h)) = let i = c.loop-k.invariant in
    omega (arith, i.1, i.2.whole, i.5, run_ends i.2.first i.3 c.loop-k-test.true, c) in it) in omega arith

pub overflow_sub-t-in-loop-k : goal.overflow_sub-t-in-loop-k
overflow_sub-t-in-loop-k c = let r = (let it : (let at = c in
    let r = at.two_step_runs-end.result in
    let a = at.args in
    (a.src + 2 * 2 ^ a.h < 18446744073709551616) × (a.dst + 2 * 2 ^ a.h < 18446744073709551616) × (at.loop-k.k + r.size ≤ r.end)
    × (r.quarter ≡ 2 * r.end) × (r.quarter ≡ 2 ^ a.h)) = let i = c.loop-k.invariant in
    omega (arith, i.1, i.2.whole, i.5, run_ends i.2.first i.3 c.loop-k-test.true, c) in it) in omega arith

pub pattern_of-m-requires : goal.pattern_of-m-requires
pattern_of-m-requires c = let both = (let p = c.requires in readable p.3 p.1) in record { n_bound = both.0; by_index = both.1 }

pub pattern_of-r-requires : goal.pattern_of-r-requires
pattern_of-r-requires c = let both = (let p = c.requires in readable p.3 p.1) in record { n_bound = both.0; by_index = both.1 }

pub overflow_mul-k : goal.overflow_mul-k
overflow_mul-k c = omega (
  arith,
  (let it : (let at = c in
      let r = at.two_step_runs-end.result in
      let a = at.args in
      (a.src + 2 * 2 ^ a.h < 18446744073709551616) × (a.dst + 2 * 2 ^ a.h < 18446744073709551616) × (at.loop-k.k + r.size ≤ r.end)
      × (r.quarter ≡ 2 * r.end) × (r.quarter ≡ 2 ^ a.h)) = let i = c.loop-k.invariant in
      omega (arith, i.1, i.2.whole, i.5, run_ends i.2.first i.3 c.loop-k-test.true, c) in it),
)

pub pattern_of-j-requires : goal.pattern_of-j-requires
pattern_of-j-requires c = let both = (let p = c.requires in readable p.4 p.1) in record { n_bound = both.0; by_index = both.1 }

pub opposed-p-requires : goal.opposed-p-requires
opposed-p-requires c =
    let iteration = c in
    let i = iteration.loop-k.invariant in
    opposed_16 i.2 i.3 iteration.loop-k-test.true _ _ c.pattern_of-m.ensures.value c.pattern_of-r.ensures.value

pub opposed-q-requires : goal.opposed-q-requires
opposed-q-requires c =
    let iteration = c in
    let i = iteration.loop-k.invariant in
    opposed_16 i.2 i.3 iteration.loop-k-test.true _ _ c.pattern_of-m.ensures.value c.pattern_of-r.ensures.value

pub four_at-f-requires : goal.four_at-f-requires
four_at-f-requires c =
    let iteration = c in
    let i = iteration.loop-k.invariant in
    second-16 i.2 i.3 iteration.loop-k-test.true _ c.pattern_of-j.ensures.value

pub four_at-g-requires : goal.four_at-g-requires
four_at-g-requires c =
    let iteration = c in
    let i = iteration.loop-k.invariant in
    second-16 i.2 i.3 iteration.loop-k-test.true _ c.pattern_of-j.ensures.value

pub overflow_mul-k-in-loop-k : goal.overflow_mul-k-in-loop-k
overflow_mul-k-in-loop-k c = omega (
  arith,
  (let it : (let at = c in
      let r = at.two_step_runs-end.result in
      let a = at.args in
      (a.src + 2 * 2 ^ a.h < 18446744073709551616) × (a.dst + 2 * 2 ^ a.h < 18446744073709551616) × (at.loop-k.k + r.size ≤ r.end)
      × (r.quarter ≡ 2 * r.end) × (r.quarter ≡ 2 ^ a.h)) = let i = c.loop-k.invariant in
      omega (arith, i.1, i.2.whole, i.5, run_ends i.2.first i.3 c.loop-k-test.true, c) in it),
)

pub overflow_add-src : goal.overflow_add-src
overflow_add-src c = omega (
  arith,
  (let it : (let at = c in
      let r = at.two_step_runs-end.result in
      let a = at.args in
      (a.src + 2 * 2 ^ a.h < 18446744073709551616) × (a.dst + 2 * 2 ^ a.h < 18446744073709551616) × (at.loop-k.k + r.size ≤ r.end)
      × (r.quarter ≡ 2 * r.end) × (r.quarter ≡ 2 ^ a.h)) = let i = c.loop-k.invariant in
      omega (arith, i.1, i.2.whole, i.5, run_ends i.2.first i.3 c.loop-k-test.true, c) in it),
)

pub overflow_add-dst : goal.overflow_add-dst
overflow_add-dst c = omega (
  arith,
  (let it : (let at = c in
      let r = at.two_step_runs-end.result in
      let a = at.args in
      (a.src + 2 * 2 ^ a.h < 18446744073709551616) × (a.dst + 2 * 2 ^ a.h < 18446744073709551616) × (at.loop-k.k + r.size ≤ r.end)
      × (r.quarter ≡ 2 * r.end) × (r.quarter ≡ 2 ^ a.h)) = let i = c.loop-k.invariant in
      omega (arith, i.1, i.2.whole, i.5, run_ends i.2.first i.3 c.loop-k-test.true, c) in it),
)

pub overflow_add-dst-in-loop-k : goal.overflow_add-dst-in-loop-k
overflow_add-dst-in-loop-k c = omega (
  arith,
  (let it : (let at = c in
      let r = at.two_step_runs-end.result in
      let a = at.args in
      (a.src + 2 * 2 ^ a.h < 18446744073709551616) × (a.dst + 2 * 2 ^ a.h < 18446744073709551616) × (at.loop-k.k + r.size ≤ r.end)
      × (r.quarter ≡ 2 * r.end) × (r.quarter ≡ 2 ^ a.h)) = let i = c.loop-k.invariant in
      omega (arith, i.1, i.2.whole, i.5, run_ends i.2.first i.3 c.loop-k-test.true, c) in it),
)

pub overflow_add-o-in-loop-k : goal.overflow_add-o-in-loop-k
overflow_add-o-in-loop-k c = omega (
  arith,
  (let it : (let at = c in
      let r = at.two_step_runs-end.result in
      let a = at.args in
      (a.src + 2 * 2 ^ a.h < 18446744073709551616) × (a.dst + 2 * 2 ^ a.h < 18446744073709551616) × (at.loop-k.k + r.size ≤ r.end)
      × (r.quarter ≡ 2 * r.end) × (r.quarter ≡ 2 ^ a.h)) = let i = c.loop-k.invariant in
      omega (arith, i.1, i.2.whole, i.5, run_ends i.2.first i.3 c.loop-k-test.true, c) in it),
)

pub overflow_add-o-in-loop-k-2 : goal.overflow_add-o-in-loop-k-2
overflow_add-o-in-loop-k-2 c = omega (
  arith,
  (let it : (let at = c in
      let r = at.two_step_runs-end.result in
      let a = at.args in
      (a.src + 2 * 2 ^ a.h < 18446744073709551616) × (a.dst + 2 * 2 ^ a.h < 18446744073709551616) × (at.loop-k.k + r.size ≤ r.end)
      × (r.quarter ≡ 2 * r.end) × (r.quarter ≡ 2 ^ a.h)) = let i = c.loop-k.invariant in
      omega (arith, i.1, i.2.whole, i.5, run_ends i.2.first i.3 c.loop-k-test.true, c) in it),
)

pub backward_run-requires : goal.backward_run-requires
backward_run-requires c =
    let iteration = c in
    let i = iteration.loop-k.invariant in
    let under = iteration.loop-k-test.true in
    let g = run_targets i.2 i.3 under i.5 _ _ _ i.1 in
    let f = run_apart i.2 i.3 under i.5 _ _ _ i.1 in
    (run_even i.2.first, rw i.0 g, rw i.0 f.0, rw i.0 f.1, rw i.0 f.2, rw i.0 f.3)

pub overflow_add-k : goal.overflow_add-k
overflow_add-k c = omega (
  arith,
  (let it : (let at = c in
      let r = at.two_step_runs-end.result in
      let a = at.args in
      (a.src + 2 * 2 ^ a.h < 18446744073709551616) × (a.dst + 2 * 2 ^ a.h < 18446744073709551616) × (at.loop-k.k + r.size ≤ r.end)
      × (r.quarter ≡ 2 * r.end) × (r.quarter ≡ 2 ^ a.h)) = let i = c.loop-k.invariant in
      omega (arith, i.1, i.2.whole, i.5, run_ends i.2.first i.3 c.loop-k-test.true, c) in it),
)

pub loop-k-smaller : goal.loop-k-smaller
loop-k-smaller c =
    let iteration = c in
    omega (arith, run_size iteration.loop-k.invariant.2.first, iteration.loop-k-test.true)

pub loop-k-preserved : goal.loop-k-preserved
loop-k-preserved c =
    let iteration = c in
    let under = iteration.loop-k-test.true in
    let at = iteration in
    let i = at.loop-k.invariant in
    let a = at.args in
    let run = c.backward_run in (
      run.auto.v ∙ i.0,
      i.1,
      i.2,
      next_run i.2.first i.3 under,
      runs_iteration i.2 i.3 under i.5 _ _ _ _ a.up.now a.down.now a.up2.now a.down2.now _ _ _ _ _ _ _ _ _ a.v.now
          at.loop-k.v c.pattern_of-m.ensures.value c.pattern_of-r.ensures.value c.pattern_of-j.ensures.value
          c.opposed-p.ensures c.opposed-q.ensures c.four_at-f.ensures c.four_at-g.ensures i.1 i.4 _ run.ensures,
      i.5,
    )

pub returns : goal.returns
returns c =
    let at = c in
    let i = at.loop-k.invariant in
    let a = at.args in
    let w = i.2.whole in
    let e : at.loop-k.k ≡ 2 ^ (a.h - 1) = omega (arith, i.2.first.ends, i.3.within) in
    let z : 2 ^ a.h - 2 ^ (a.h - 1) ≡ 2 ^ (a.h - 1) = omega (arith, i.2.first.ends, i.5) in
    rw (e, z) at i.4
