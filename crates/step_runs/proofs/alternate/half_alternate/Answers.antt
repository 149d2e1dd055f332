-- Two entries an iteration, or the only one.
use mathlib.Core.Path.{◌≡◌}
use Prim.Native.Nat.{◌-◌, ◌^◌}
use lib.Pow.{pow_pos}
use Rattle.list_laws.proofs.Laws.Power.{pow_even}
use Rattle.step_runs.proofs.Laws.Halves.{halves-apart}
use Rattle.step_runs.proofs.AlternateIteration.{alternate-one}
use native.Mathlib.Omega.{arith}
use Rattle.step_runs.proofs.alternate.half_alternate.Goals as goal

pub overflow_mul-s : goal.overflow_mul-s
overflow_mul-s c = rw c.pow2-size.ensures (omega (arith, c.requires.from.inside))

pub overflow_mul-o : goal.overflow_mul-o
overflow_mul-o c = rw c.pow2-size.ensures (omega (arith, c.requires.to.inside))

pub alternate_run-requires : goal.alternate_run-requires
alternate_run-requires c =
    let s = c in
    (rw c.pow2.ensures (pow_even (s.args.w - 1) (omega arith)), rw (c.pow2-size.ensures, c.pow2.ensures) (halves-apart s.requires))

pub returns-then-w-gt1 : goal.returns-then-w-gt1
returns-then-w-gt1 c = rw (c.pow2-size.ensures, c.pow2.ensures) at c.alternate_run.ensures

pub offset_bounds-room-s : goal.offset_bounds-room-s
offset_bounds-room-s c = let p = c.requires.from in rw c.pow2-size.ensures (omega (arith, p.inside))

pub bounds-room-s : goal.bounds-room-s
bounds-room-s c = let s = c in rw c.pow2-size.ensures (omega (arith, s.requires.from.inside, pow_pos s.args.w))

pub offset_bounds-room-o : goal.offset_bounds-room-o
offset_bounds-room-o c = let p = c.requires.to in rw c.pow2-size.ensures (omega (arith, p.inside))

pub bounds-room-o : goal.bounds-room-o
bounds-room-o c = let s = c in rw c.pow2-size.ensures (omega (arith, s.requires.to.inside, pow_pos s.args.w))

pub returns : goal.returns
returns c =
    let s = c in
    let one : s.args.w - 1 ≡ 0 = omega arith in
    let half : 2 ^ (s.args.w - 1) ≡ 1 = rw one in
    rw c.pow2-size.ensures (alternate-one _ _ s.args.room.now _ half (halves-apart s.requires).to)
