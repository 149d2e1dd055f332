-- The runs fill what the rules of both steps say, and that is the one at the earlier vertex of the one at the later.
use mathlib.Core.Path.{◌≡◌}
use Prim.Native.Nat.{◌+◌, ◌-◌}
use native.Mathlib.Omega.{arith}
use Rattle.list_laws.proofs.Laws.Power.{pow_double}
use Rattle.list_laws.proofs.Laws.Part.{apart-within}
use Rattle.step_tables.proofs.Laws.Place.{places-apart}
use Rattle.step_runs.proofs.Laws.Quarter.{whole_is}
use Rattle.two_steps_backward.proofs.Laws.BackwardTwice.{backward_twice_filled}
use Rattle.two_steps_backward.proofs.half_stride_backward.Goals as goal

pub overflow_mul-src : goal.overflow_mul-src
overflow_mul-src c = rw c.pow2-size.ensures (omega (arith, c.requires.1.from.inside))

pub overflow_mul-dst : goal.overflow_mul-dst
overflow_mul-dst c = rw c.pow2-size.ensures (omega (arith, c.requires.1.to.inside))

pub overflow_sub-w : goal.overflow_sub-w
overflow_sub-w c = omega (arith, c.requires.0)

pub backward_runs-requires : goal.backward_runs-requires
backward_runs-requires c =
    let s = c in
    let w = s.args.w in
    let p = s.requires.1 in
    let wide = s.requires.0 in
    let one : w - 2 + 1 ≡ w - 1 = omega arith in
    let all = whole_is w (omega arith) in (
      omega arith,
      omega (arith, p.from.narrow),
      rw c.pow2-size.ensures (apart-within _ _ _ _ (places-apart p) (omega arith) (omega arith) (omega arith) (omega arith)),
      rw one s.requires.2,
      rw one s.requires.3,
    )

pub returns : goal.returns
returns c = λ s sc s' sc' a a'.
    let start = c in
    let w = start.args.w in
    let wide = start.requires.0 in
    let all = pow_double w (omega arith) in
    backward_twice_filled s sc _ a s' sc' _ a' w start.args.room.now _ (omega arith) _ _ (omega (arith, start.requires.1.to.inside))
    (rw c.pow2-size.ensures at c.backward_runs.ensures)
