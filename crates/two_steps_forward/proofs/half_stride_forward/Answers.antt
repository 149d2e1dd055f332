-- The runs fill what the rule of both steps says, and that is the second of the first.
use mathlib.Core.Path.{◌≡◌}
use Prim.Native.Nat.{◌+◌, ◌-◌}
use native.Mathlib.Omega.{arith}
use Rattle.list_laws.proofs.Laws.Part.{apart-within}
use Rattle.step_tables.proofs.Laws.Place.{places-apart}
use Rattle.step_runs.proofs.Laws.Quarter.{whole_is}
use Rattle.two_steps_forward.proofs.Laws.ForwardTwice.{forward_twice_filled}
use Rattle.two_steps_forward.proofs.half_stride_forward.Goals as goal

pub overflow_mul-src : goal.overflow_mul-src
overflow_mul-src c = rw c.pow2-size.ensures (omega (arith, c.requires.1.from.inside))

pub overflow_mul-dst : goal.overflow_mul-dst
overflow_mul-dst c = rw c.pow2-size.ensures (omega (arith, c.requires.1.to.inside))

pub overflow_sub-w : goal.overflow_sub-w
overflow_sub-w c = omega (arith, c.requires.0)

pub forward_runs-requires : goal.forward_runs-requires
forward_runs-requires c =
    let s = c in
    let w = s.args.w in
    let p = s.requires.1 in
    let wide = s.requires.0 in
    let one : w - 2 + 1 ≡ w - 1 = omega arith in
    let all = whole_is w (omega arith) in (
      omega arith,
      omega (arith, p.from.narrow),
      rw c.pow2-size.ensures (apart-within _ _ _ _ (places-apart p) (omega arith) (omega arith) (omega arith) (omega arith)),
      rw one s.requires.2,
      rw one s.requires.3,
    )

pub returns : goal.returns
returns c = λ s sc s' sc' a a'.
    let start = c in
    let room = start.args.room.now in
    forward_twice_filled s sc _ a s' sc' _ a' _ _ room _ (omega (arith, start.requires.0)) _ _
    (rw (c.pow2-size.ensures, c.negated_if-sem.ensures, c.negated_if-sep.ensures, c.negated_if-sem2.ensures, c.negated_if-sep2.ensures) at
    c.forward_runs.ensures)
