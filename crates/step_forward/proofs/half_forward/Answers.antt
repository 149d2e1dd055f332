-- The runs, or the few entries of a short half, are what the rule over the tables says, and that is the rule of the laws of halves.
use mathlib.Core.Path.{◌≡◌, sym, ap, ◌∙◌}
use Prim.Native.Nat.{◌+◌, ◌*◌, ◌-◌, ◌^◌}
use lib.Pow.{pow_pos}
use Rattle.list_laws.specs.Part.{put}
use Rattle.step_tables.specs.Rule.{blend}
use Rattle.step_runs.proofs.Laws.Quarter.{half_is}
use Rattle.half_vectors.specs.Half.{negated_if}
use Rattle.step_forward.proofs.Laws.ForwardIs.{forward_filled, few-is}
use Rattle.step_runs.proofs.Laws.Halves.{halves-apart, short-half}
use native.Mathlib.Omega.{arith}
use Rattle.step_forward.proofs.half_forward.Goals as goal

pub overflow_mul-s : goal.overflow_mul-s
overflow_mul-s c = rw c.pow2-size.ensures (omega (arith, c.requires.0.from.inside))

pub overflow_mul-o : goal.overflow_mul-o
overflow_mul-o c = rw c.pow2-size.ensures (omega (arith, c.requires.0.to.inside))

pub forward_runs-requires : goal.forward_runs-requires
forward_runs-requires c =
    let s = c in
    let w = s.args.w in
    let p = s.requires.0 in
    let one : w - 2 + 1 ≡ w - 1 = omega arith in
    let half : 2 * 2 ^ (w - 2) ≡ 2 ^ (w - 1) = sym (half_is w (omega arith)) in
    (omega arith, omega (arith, p.from.narrow), rw (c.pow2-size.ensures, half) (halves-apart p), rw one s.requires.1)

pub returns-then-w-gt2 : goal.returns-then-w-gt2
returns-then-w-gt2 c =
    let s = c in
    let w = s.args.w in
    let room = s.args.room.now in
    let size = c.pow2-size.ensures in
    let half : 2 * 2 ^ (w - 2) ≡ 2 ^ (w - 1) = sym (half_is w (omega arith)) in
    let runs = c.forward_runs.ensures in record {
      room_after = λ l sc t.
          forward_filled l sc _ t _ (negated_if s.args.antisymmetric) room _ _ _
          (rw (size, c.negated_if-sem.ensures, c.negated_if-sep.ensures, half) at runs.v_after);
      value = rw (size, half) at runs.value;
    }

pub offset_bounds-room-s : goal.offset_bounds-room-s
offset_bounds-room-s c = let s = c in rw c.pow2-size.ensures (omega (arith, s.requires.0.from.inside))

pub bounds-room-s : goal.bounds-room-s
bounds-room-s c = let s = c in rw c.pow2-size.ensures (omega (arith, s.requires.0.from.inside, pow_pos s.args.w))

pub overflow_add-b : goal.overflow_add-b
overflow_add-b c = let s = c in rw (c.pow2-size.ensures, c.pow2-half.ensures) (omega (arith, (halves-apart s.requires.0).from))

pub overflow_sub-b : goal.overflow_sub-b
overflow_sub-b c = let s = c in rw (c.pow2-size.ensures, c.pow2-half.ensures) (omega (arith, pow_pos (s.args.w - 1)))

pub offset_bounds-room-s-2 : goal.offset_bounds-room-s-2
offset_bounds-room-s-2 c = let s = c in rw (c.pow2-size.ensures, c.pow2-half.ensures) (omega (arith, (halves-apart s.requires.0).from))

pub bounds-room-s-2 : goal.bounds-room-s-2
bounds-room-s-2 c =
    let s = c in
    rw (c.pow2-size.ensures, c.pow2-half.ensures) (omega (arith, (halves-apart s.requires.0).from, pow_pos (s.args.w - 1)))

pub store_few-requires : goal.store_few-requires
store_few-requires c =
    let s = c in
    let w = s.args.w in
    rw (c.pow2-size.ensures, c.pow2-half.ensures)
    (omega (arith, pow_pos (w - 1)), short-half w (omega arith), (halves-apart s.requires.0).to)

pub returns : goal.returns
unfolding blend
returns c =
    let s = c in
    let room = s.args.room.now in
    let negated-if = c.negated_if-sem.ensures in
    let negated-if2 = c.negated_if-sep.ensures in
    let size = c.pow2-size.ensures in
    let half = c.pow2-half.ensures in
    let few = c.store_few.ensures in record {
      room_after = λ l sc t.
          rw (size, half) at few.v_after
          ∙ ap (put room _) (few-is l sc _ t _ (negated_if s.args.antisymmetric) room _ _ _ negated-if negated-if2 (short-half s.args.w (omega arith)));
      value = rw (size, half) at few.value;
    }
