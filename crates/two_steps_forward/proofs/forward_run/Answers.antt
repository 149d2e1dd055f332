use mathlib.Core.Path.{◌≡◌, refl, ◌∙◌}
use Prim.Native.Nat.{◌+◌, ◌*◌, ◌-◌, ◌^◌, ◌<◌}
use native.Mathlib.Omega.{arith}
use lib.ListN.{length}
use Rattle.list_laws.proofs.Laws.Part.{fill_none}
use borrow.Author.Rules.{scaled_Fits}
use Rattle.step_tables.specs.Rule.{blend}
use Rattle.step_runs.proofs.Laws.Fours.{after_one, after_two, after-three, after-four, after_five, after_six, after_seven, same-eight}
use Rattle.step_runs.proofs.Laws.OpposedIteration.{Last, last_of, held}
use Rattle.step_runs.proofs.Laws.Iteration.{Iteration, iteration_of, word, less_by_two, even_next, two-more}
use Rattle.two_steps_forward.proofs.ForwardIteration.{run_iteration}
use Rattle.two_steps_forward.proofs.forward_run.Goals as goal

pub loop-i-init : goal.loop-i-init
loop-i-init c = (refl, omega arith, omega arith, fill_none _ _ _)

pub overflow_sub-r : goal.overflow_sub-r
overflow_sub-r c = omega (arith, (let it : c.loop-i.i + 1 < c.args.n = omega arith in it))

pub overflow_add-a0 : goal.overflow_add-a0
overflow_add-a0 c = let t = (let it : (let s = c.args in
    Iteration (length c.loop-i.v) s.a s.b s.c s.d s.o c.loop-i.i) = let p = c.requires in
    let l = c.loop-i.invariant.0 in
    iteration_of _ _ _ _ _ _ _ _ ((let it : c.loop-i.i + 1 < c.args.n = omega arith in it)) (rw l p.1.from) (rw l p.2.from) (rw l p.3.from) (rw l p.4.from) (rw l p.1.to) ((let it : length c.loop-i.v * 8 < 2 ^ 63 = omega arith in it)) in it) in word t.first.at t.bytes

pub offset_bounds-v-a : goal.offset_bounds-v-a
offset_bounds-v-a c = let t = (let it : (let s = c.args in
    Iteration (length c.loop-i.v) s.a s.b s.c s.d s.o c.loop-i.i) = let p = c.requires in
    let l = c.loop-i.invariant.0 in
    iteration_of _ _ _ _ _ _ _ _ ((let it : c.loop-i.i + 1 < c.args.n = omega arith in it)) (rw l p.1.from) (rw l p.2.from) (rw l p.3.from) (rw l p.4.from) (rw l p.1.to) ((let it : length c.loop-i.v * 8 < 2 ^ 63 = omega arith in it)) in it) in scaled_Fits _ _ 8 t.first.at t.bytes

pub bounds-v-a : goal.bounds-v-a
bounds-v-a c = ((let it : (let s = c.args in
    Iteration (length c.loop-i.v) s.a s.b s.c s.d s.o c.loop-i.i) = let p = c.requires in
    let l = c.loop-i.invariant.0 in
    iteration_of _ _ _ _ _ _ _ _ ((let it : c.loop-i.i + 1 < c.args.n = omega arith in it)) (rw l p.1.from) (rw l p.2.from) (rw l p.3.from) (rw l p.4.from) (rw l p.1.to) ((let it : length c.loop-i.v * 8 < 2 ^ 63 = omega arith in it)) in it)).first.at

pub overflow_add-a1 : goal.overflow_add-a1
overflow_add-a1 c = let t = (let it : (let s = c.args in
    Iteration (length c.loop-i.v) s.a s.b s.c s.d s.o c.loop-i.i) = let p = c.requires in
    let l = c.loop-i.invariant.0 in
    iteration_of _ _ _ _ _ _ _ _ ((let it : c.loop-i.i + 1 < c.args.n = omega arith in it)) (rw l p.1.from) (rw l p.2.from) (rw l p.3.from) (rw l p.4.from) (rw l p.1.to) ((let it : length c.loop-i.v * 8 < 2 ^ 63 = omega arith in it)) in it) in word t.first.at t.bytes

pub overflow_add-a1-in-loop-i : goal.overflow_add-a1-in-loop-i
overflow_add-a1-in-loop-i c = let t = (let it : (let s = c.args in
    Iteration (length c.loop-i.v) s.a s.b s.c s.d s.o c.loop-i.i) = let p = c.requires in
    let l = c.loop-i.invariant.0 in
    iteration_of _ _ _ _ _ _ _ _ ((let it : c.loop-i.i + 1 < c.args.n = omega arith in it)) (rw l p.1.from) (rw l p.2.from) (rw l p.3.from) (rw l p.4.from) (rw l p.1.to) ((let it : length c.loop-i.v * 8 < 2 ^ 63 = omega arith in it)) in it) in word t.first.next t.bytes

pub offset_bounds-v-a-in-loop-i : goal.offset_bounds-v-a-in-loop-i
offset_bounds-v-a-in-loop-i c = let t = (let it : (let s = c.args in
    Iteration (length c.loop-i.v) s.a s.b s.c s.d s.o c.loop-i.i) = let p = c.requires in
    let l = c.loop-i.invariant.0 in
    iteration_of _ _ _ _ _ _ _ _ ((let it : c.loop-i.i + 1 < c.args.n = omega arith in it)) (rw l p.1.from) (rw l p.2.from) (rw l p.3.from) (rw l p.4.from) (rw l p.1.to) ((let it : length c.loop-i.v * 8 < 2 ^ 63 = omega arith in it)) in it) in scaled_Fits _ _ 8 t.first.next t.bytes

pub bounds-v-a-in-loop-i : goal.bounds-v-a-in-loop-i
bounds-v-a-in-loop-i c = ((let it : (let s = c.args in
    Iteration (length c.loop-i.v) s.a s.b s.c s.d s.o c.loop-i.i) = let p = c.requires in
    let l = c.loop-i.invariant.0 in
    iteration_of _ _ _ _ _ _ _ _ ((let it : c.loop-i.i + 1 < c.args.n = omega arith in it)) (rw l p.1.from) (rw l p.2.from) (rw l p.3.from) (rw l p.4.from) (rw l p.1.to) ((let it : length c.loop-i.v * 8 < 2 ^ 63 = omega arith in it)) in it)).first.next

pub overflow_add-b0 : goal.overflow_add-b0
overflow_add-b0 c = held ((let it : Last (length c.loop-i.v) c.args.b (c.args.n - c.loop-i.i) = last_of _ _ _ _ ((let it : c.loop-i.i + 1 < c.args.n = omega arith in it)) (rw c.loop-i.invariant.0 c.requires.2.from) in it)).within ((let it : length c.loop-i.v * 8 < 2 ^ 63 = omega arith in it))

pub overflow_sub-b0 : goal.overflow_sub-b0
overflow_sub-b0 c = ((let it : Last (length c.loop-i.v) c.args.b (c.args.n - c.loop-i.i) = last_of _ _ _ _ ((let it : c.loop-i.i + 1 < c.args.n = omega arith in it)) (rw c.loop-i.invariant.0 c.requires.2.from) in it)).one

pub offset_bounds-v-b : goal.offset_bounds-v-b
offset_bounds-v-b c = scaled_Fits _ _ 8 ((let it : Last (length c.loop-i.v) c.args.b (c.args.n - c.loop-i.i) = last_of _ _ _ _ ((let it : c.loop-i.i + 1 < c.args.n = omega arith in it)) (rw c.loop-i.invariant.0 c.requires.2.from) in it)).at ((let it : length c.loop-i.v * 8 < 2 ^ 63 = omega arith in it))

pub bounds-v-b : goal.bounds-v-b
bounds-v-b c = ((let it : Last (length c.loop-i.v) c.args.b (c.args.n - c.loop-i.i) = last_of _ _ _ _ ((let it : c.loop-i.i + 1 < c.args.n = omega arith in it)) (rw c.loop-i.invariant.0 c.requires.2.from) in it)).at

pub overflow_add-b1 : goal.overflow_add-b1
overflow_add-b1 c = held ((let it : Last (length c.loop-i.v) c.args.b (c.args.n - c.loop-i.i) = last_of _ _ _ _ ((let it : c.loop-i.i + 1 < c.args.n = omega arith in it)) (rw c.loop-i.invariant.0 c.requires.2.from) in it)).within ((let it : length c.loop-i.v * 8 < 2 ^ 63 = omega arith in it))

pub overflow_sub-b1 : goal.overflow_sub-b1
overflow_sub-b1 c = ((let it : Last (length c.loop-i.v) c.args.b (c.args.n - c.loop-i.i) = last_of _ _ _ _ ((let it : c.loop-i.i + 1 < c.args.n = omega arith in it)) (rw c.loop-i.invariant.0 c.requires.2.from) in it)).two

pub offset_bounds-v-b-in-loop-i : goal.offset_bounds-v-b-in-loop-i
offset_bounds-v-b-in-loop-i c = scaled_Fits _ _ 8 ((let it : Last (length c.loop-i.v) c.args.b (c.args.n - c.loop-i.i) = last_of _ _ _ _ ((let it : c.loop-i.i + 1 < c.args.n = omega arith in it)) (rw c.loop-i.invariant.0 c.requires.2.from) in it)).next ((let it : length c.loop-i.v * 8 < 2 ^ 63 = omega arith in it))

pub bounds-v-b-in-loop-i : goal.bounds-v-b-in-loop-i
bounds-v-b-in-loop-i c = ((let it : Last (length c.loop-i.v) c.args.b (c.args.n - c.loop-i.i) = last_of _ _ _ _ ((let it : c.loop-i.i + 1 < c.args.n = omega arith in it)) (rw c.loop-i.invariant.0 c.requires.2.from) in it)).next

pub overflow_add-c0 : goal.overflow_add-c0
overflow_add-c0 c = let t = (let it : (let s = c.args in
    Iteration (length c.loop-i.v) s.a s.b s.c s.d s.o c.loop-i.i) = let p = c.requires in
    let l = c.loop-i.invariant.0 in
    iteration_of _ _ _ _ _ _ _ _ ((let it : c.loop-i.i + 1 < c.args.n = omega arith in it)) (rw l p.1.from) (rw l p.2.from) (rw l p.3.from) (rw l p.4.from) (rw l p.1.to) ((let it : length c.loop-i.v * 8 < 2 ^ 63 = omega arith in it)) in it) in word t.third.at t.bytes

pub offset_bounds-v-c : goal.offset_bounds-v-c
offset_bounds-v-c c = let t = (let it : (let s = c.args in
    Iteration (length c.loop-i.v) s.a s.b s.c s.d s.o c.loop-i.i) = let p = c.requires in
    let l = c.loop-i.invariant.0 in
    iteration_of _ _ _ _ _ _ _ _ ((let it : c.loop-i.i + 1 < c.args.n = omega arith in it)) (rw l p.1.from) (rw l p.2.from) (rw l p.3.from) (rw l p.4.from) (rw l p.1.to) ((let it : length c.loop-i.v * 8 < 2 ^ 63 = omega arith in it)) in it) in scaled_Fits _ _ 8 t.third.at t.bytes

pub bounds-v-c : goal.bounds-v-c
bounds-v-c c = ((let it : (let s = c.args in
    Iteration (length c.loop-i.v) s.a s.b s.c s.d s.o c.loop-i.i) = let p = c.requires in
    let l = c.loop-i.invariant.0 in
    iteration_of _ _ _ _ _ _ _ _ ((let it : c.loop-i.i + 1 < c.args.n = omega arith in it)) (rw l p.1.from) (rw l p.2.from) (rw l p.3.from) (rw l p.4.from) (rw l p.1.to) ((let it : length c.loop-i.v * 8 < 2 ^ 63 = omega arith in it)) in it)).third.at

pub overflow_add-c1 : goal.overflow_add-c1
overflow_add-c1 c = let t = (let it : (let s = c.args in
    Iteration (length c.loop-i.v) s.a s.b s.c s.d s.o c.loop-i.i) = let p = c.requires in
    let l = c.loop-i.invariant.0 in
    iteration_of _ _ _ _ _ _ _ _ ((let it : c.loop-i.i + 1 < c.args.n = omega arith in it)) (rw l p.1.from) (rw l p.2.from) (rw l p.3.from) (rw l p.4.from) (rw l p.1.to) ((let it : length c.loop-i.v * 8 < 2 ^ 63 = omega arith in it)) in it) in word t.third.at t.bytes

pub overflow_add-c1-in-loop-i : goal.overflow_add-c1-in-loop-i
overflow_add-c1-in-loop-i c = let t = (let it : (let s = c.args in
    Iteration (length c.loop-i.v) s.a s.b s.c s.d s.o c.loop-i.i) = let p = c.requires in
    let l = c.loop-i.invariant.0 in
    iteration_of _ _ _ _ _ _ _ _ ((let it : c.loop-i.i + 1 < c.args.n = omega arith in it)) (rw l p.1.from) (rw l p.2.from) (rw l p.3.from) (rw l p.4.from) (rw l p.1.to) ((let it : length c.loop-i.v * 8 < 2 ^ 63 = omega arith in it)) in it) in word t.third.next t.bytes

pub offset_bounds-v-c-in-loop-i : goal.offset_bounds-v-c-in-loop-i
offset_bounds-v-c-in-loop-i c = let t = (let it : (let s = c.args in
    Iteration (length c.loop-i.v) s.a s.b s.c s.d s.o c.loop-i.i) = let p = c.requires in
    let l = c.loop-i.invariant.0 in
    iteration_of _ _ _ _ _ _ _ _ ((let it : c.loop-i.i + 1 < c.args.n = omega arith in it)) (rw l p.1.from) (rw l p.2.from) (rw l p.3.from) (rw l p.4.from) (rw l p.1.to) ((let it : length c.loop-i.v * 8 < 2 ^ 63 = omega arith in it)) in it) in scaled_Fits _ _ 8 t.third.next t.bytes

pub bounds-v-c-in-loop-i : goal.bounds-v-c-in-loop-i
bounds-v-c-in-loop-i c = ((let it : (let s = c.args in
    Iteration (length c.loop-i.v) s.a s.b s.c s.d s.o c.loop-i.i) = let p = c.requires in
    let l = c.loop-i.invariant.0 in
    iteration_of _ _ _ _ _ _ _ _ ((let it : c.loop-i.i + 1 < c.args.n = omega arith in it)) (rw l p.1.from) (rw l p.2.from) (rw l p.3.from) (rw l p.4.from) (rw l p.1.to) ((let it : length c.loop-i.v * 8 < 2 ^ 63 = omega arith in it)) in it)).third.next

pub overflow_add-d0 : goal.overflow_add-d0
overflow_add-d0 c = held ((let it : Last (length c.loop-i.v) c.args.d (c.args.n - c.loop-i.i) = last_of _ _ _ _ ((let it : c.loop-i.i + 1 < c.args.n = omega arith in it)) (rw c.loop-i.invariant.0 c.requires.4.from) in it)).within ((let it : length c.loop-i.v * 8 < 2 ^ 63 = omega arith in it))

pub overflow_sub-d0 : goal.overflow_sub-d0
overflow_sub-d0 c = ((let it : Last (length c.loop-i.v) c.args.d (c.args.n - c.loop-i.i) = last_of _ _ _ _ ((let it : c.loop-i.i + 1 < c.args.n = omega arith in it)) (rw c.loop-i.invariant.0 c.requires.4.from) in it)).one

pub offset_bounds-v-d : goal.offset_bounds-v-d
offset_bounds-v-d c = scaled_Fits _ _ 8 ((let it : Last (length c.loop-i.v) c.args.d (c.args.n - c.loop-i.i) = last_of _ _ _ _ ((let it : c.loop-i.i + 1 < c.args.n = omega arith in it)) (rw c.loop-i.invariant.0 c.requires.4.from) in it)).at ((let it : length c.loop-i.v * 8 < 2 ^ 63 = omega arith in it))

pub bounds-v-d : goal.bounds-v-d
bounds-v-d c = ((let it : Last (length c.loop-i.v) c.args.d (c.args.n - c.loop-i.i) = last_of _ _ _ _ ((let it : c.loop-i.i + 1 < c.args.n = omega arith in it)) (rw c.loop-i.invariant.0 c.requires.4.from) in it)).at

pub overflow_add-d1 : goal.overflow_add-d1
overflow_add-d1 c = held ((let it : Last (length c.loop-i.v) c.args.d (c.args.n - c.loop-i.i) = last_of _ _ _ _ ((let it : c.loop-i.i + 1 < c.args.n = omega arith in it)) (rw c.loop-i.invariant.0 c.requires.4.from) in it)).within ((let it : length c.loop-i.v * 8 < 2 ^ 63 = omega arith in it))

pub overflow_sub-d1 : goal.overflow_sub-d1
overflow_sub-d1 c = ((let it : Last (length c.loop-i.v) c.args.d (c.args.n - c.loop-i.i) = last_of _ _ _ _ ((let it : c.loop-i.i + 1 < c.args.n = omega arith in it)) (rw c.loop-i.invariant.0 c.requires.4.from) in it)).two

pub offset_bounds-v-d-in-loop-i : goal.offset_bounds-v-d-in-loop-i
offset_bounds-v-d-in-loop-i c = scaled_Fits _ _ 8 ((let it : Last (length c.loop-i.v) c.args.d (c.args.n - c.loop-i.i) = last_of _ _ _ _ ((let it : c.loop-i.i + 1 < c.args.n = omega arith in it)) (rw c.loop-i.invariant.0 c.requires.4.from) in it)).next ((let it : length c.loop-i.v * 8 < 2 ^ 63 = omega arith in it))

pub bounds-v-d-in-loop-i : goal.bounds-v-d-in-loop-i
bounds-v-d-in-loop-i c = ((let it : Last (length c.loop-i.v) c.args.d (c.args.n - c.loop-i.i) = last_of _ _ _ _ ((let it : c.loop-i.i + 1 < c.args.n = omega arith in it)) (rw c.loop-i.invariant.0 c.requires.4.from) in it)).next

pub overflow_mul-v : goal.overflow_mul-v
overflow_mul-v c = let t = (let it : (let s = c.args in
    Iteration (length c.loop-i.v) s.a s.b s.c s.d s.o c.loop-i.i) = let p = c.requires in
    let l = c.loop-i.invariant.0 in
    iteration_of _ _ _ _ _ _ _ _ ((let it : c.loop-i.i + 1 < c.args.n = omega arith in it)) (rw l p.1.from) (rw l p.2.from) (rw l p.3.from) (rw l p.4.from) (rw l p.1.to) ((let it : length c.loop-i.v * 8 < 2 ^ 63 = omega arith in it)) in it) in word t.times t.bytes

pub overflow_add-v : goal.overflow_add-v
overflow_add-v c = let t = (let it : (let s = c.args in
    Iteration (length c.loop-i.v) s.a s.b s.c s.d s.o c.loop-i.i) = let p = c.requires in
    let l = c.loop-i.invariant.0 in
    iteration_of _ _ _ _ _ _ _ _ ((let it : c.loop-i.i + 1 < c.args.n = omega arith in it)) (rw l p.1.from) (rw l p.2.from) (rw l p.3.from) (rw l p.4.from) (rw l p.1.to) ((let it : length c.loop-i.v * 8 < 2 ^ 63 = omega arith in it)) in it) in word t.eight.at-0 t.bytes

pub offset_bounds-v-o : goal.offset_bounds-v-o
offset_bounds-v-o c = let t = (let it : (let s = c.args in
    Iteration (length c.loop-i.v) s.a s.b s.c s.d s.o c.loop-i.i) = let p = c.requires in
    let l = c.loop-i.invariant.0 in
    iteration_of _ _ _ _ _ _ _ _ ((let it : c.loop-i.i + 1 < c.args.n = omega arith in it)) (rw l p.1.from) (rw l p.2.from) (rw l p.3.from) (rw l p.4.from) (rw l p.1.to) ((let it : length c.loop-i.v * 8 < 2 ^ 63 = omega arith in it)) in it) in scaled_Fits _ _ 8 t.eight.at-0 t.bytes

pub bounds-v-o : goal.bounds-v-o
bounds-v-o c = ((let it : (let s = c.args in
    Iteration (length c.loop-i.v) s.a s.b s.c s.d s.o c.loop-i.i) = let p = c.requires in
    let l = c.loop-i.invariant.0 in
    iteration_of _ _ _ _ _ _ _ _ ((let it : c.loop-i.i + 1 < c.args.n = omega arith in it)) (rw l p.1.from) (rw l p.2.from) (rw l p.3.from) (rw l p.4.from) (rw l p.1.to) ((let it : length c.loop-i.v * 8 < 2 ^ 63 = omega arith in it)) in it)).eight.at-0

pub overflow_mul-v-in-loop-i : goal.overflow_mul-v-in-loop-i
overflow_mul-v-in-loop-i c = let t = (let it : (let s = c.args in
    Iteration (length c.loop-i.v) s.a s.b s.c s.d s.o c.loop-i.i) = let p = c.requires in
    let l = c.loop-i.invariant.0 in
    iteration_of _ _ _ _ _ _ _ _ ((let it : c.loop-i.i + 1 < c.args.n = omega arith in it)) (rw l p.1.from) (rw l p.2.from) (rw l p.3.from) (rw l p.4.from) (rw l p.1.to) ((let it : length c.loop-i.v * 8 < 2 ^ 63 = omega arith in it)) in it) in word t.times t.bytes

pub overflow_add-v-in-loop-i : goal.overflow_add-v-in-loop-i
overflow_add-v-in-loop-i c = let t = (let it : (let s = c.args in
    Iteration (length c.loop-i.v) s.a s.b s.c s.d s.o c.loop-i.i) = let p = c.requires in
    let l = c.loop-i.invariant.0 in
    iteration_of _ _ _ _ _ _ _ _ ((let it : c.loop-i.i + 1 < c.args.n = omega arith in it)) (rw l p.1.from) (rw l p.2.from) (rw l p.3.from) (rw l p.4.from) (rw l p.1.to) ((let it : length c.loop-i.v * 8 < 2 ^ 63 = omega arith in it)) in it) in word t.eight.at-0 t.bytes

pub overflow_add-v-in-loop-i-2 : goal.overflow_add-v-in-loop-i-2
overflow_add-v-in-loop-i-2 c = let t = (let it : (let s = c.args in
    Iteration (length c.loop-i.v) s.a s.b s.c s.d s.o c.loop-i.i) = let p = c.requires in
    let l = c.loop-i.invariant.0 in
    iteration_of _ _ _ _ _ _ _ _ ((let it : c.loop-i.i + 1 < c.args.n = omega arith in it)) (rw l p.1.from) (rw l p.2.from) (rw l p.3.from) (rw l p.4.from) (rw l p.1.to) ((let it : length c.loop-i.v * 8 < 2 ^ 63 = omega arith in it)) in it) in word t.eight.at_1 t.bytes

pub offset_bounds-v-o-in-loop-i : goal.offset_bounds-v-o-in-loop-i
offset_bounds-v-o-in-loop-i c = let t = (let it : (let s = c.args in
    Iteration (length c.loop-i.v) s.a s.b s.c s.d s.o c.loop-i.i) = let p = c.requires in
    let l = c.loop-i.invariant.0 in
    iteration_of _ _ _ _ _ _ _ _ ((let it : c.loop-i.i + 1 < c.args.n = omega arith in it)) (rw l p.1.from) (rw l p.2.from) (rw l p.3.from) (rw l p.4.from) (rw l p.1.to) ((let it : length c.loop-i.v * 8 < 2 ^ 63 = omega arith in it)) in it) in scaled_Fits _ _ 8 t.eight.at_1 t.bytes

pub bounds-v-o-in-loop-i : goal.bounds-v-o-in-loop-i
bounds-v-o-in-loop-i c = after_one _ c.loop-i.v _ _ ((let it : (let s = c.args in
    Iteration (length c.loop-i.v) s.a s.b s.c s.d s.o c.loop-i.i) = let p = c.requires in
    let l = c.loop-i.invariant.0 in
    iteration_of _ _ _ _ _ _ _ _ ((let it : c.loop-i.i + 1 < c.args.n = omega arith in it)) (rw l p.1.from) (rw l p.2.from) (rw l p.3.from) (rw l p.4.from) (rw l p.1.to) ((let it : length c.loop-i.v * 8 < 2 ^ 63 = omega arith in it)) in it)).eight.at_1

pub overflow_mul-v-in-loop-i-2 : goal.overflow_mul-v-in-loop-i-2
overflow_mul-v-in-loop-i-2 c = let t = (let it : (let s = c.args in
    Iteration (length c.loop-i.v) s.a s.b s.c s.d s.o c.loop-i.i) = let p = c.requires in
    let l = c.loop-i.invariant.0 in
    iteration_of _ _ _ _ _ _ _ _ ((let it : c.loop-i.i + 1 < c.args.n = omega arith in it)) (rw l p.1.from) (rw l p.2.from) (rw l p.3.from) (rw l p.4.from) (rw l p.1.to) ((let it : length c.loop-i.v * 8 < 2 ^ 63 = omega arith in it)) in it) in word t.times t.bytes

pub overflow_add-v-in-loop-i-3 : goal.overflow_add-v-in-loop-i-3
overflow_add-v-in-loop-i-3 c = let t = (let it : (let s = c.args in
    Iteration (length c.loop-i.v) s.a s.b s.c s.d s.o c.loop-i.i) = let p = c.requires in
    let l = c.loop-i.invariant.0 in
    iteration_of _ _ _ _ _ _ _ _ ((let it : c.loop-i.i + 1 < c.args.n = omega arith in it)) (rw l p.1.from) (rw l p.2.from) (rw l p.3.from) (rw l p.4.from) (rw l p.1.to) ((let it : length c.loop-i.v * 8 < 2 ^ 63 = omega arith in it)) in it) in word t.eight.at-0 t.bytes

pub overflow_add-v-in-loop-i-4 : goal.overflow_add-v-in-loop-i-4
overflow_add-v-in-loop-i-4 c = let t = (let it : (let s = c.args in
    Iteration (length c.loop-i.v) s.a s.b s.c s.d s.o c.loop-i.i) = let p = c.requires in
    let l = c.loop-i.invariant.0 in
    iteration_of _ _ _ _ _ _ _ _ ((let it : c.loop-i.i + 1 < c.args.n = omega arith in it)) (rw l p.1.from) (rw l p.2.from) (rw l p.3.from) (rw l p.4.from) (rw l p.1.to) ((let it : length c.loop-i.v * 8 < 2 ^ 63 = omega arith in it)) in it) in word t.eight.at-2 t.bytes

pub offset_bounds-v-o-in-loop-i-2 : goal.offset_bounds-v-o-in-loop-i-2
offset_bounds-v-o-in-loop-i-2 c = let t = (let it : (let s = c.args in
    Iteration (length c.loop-i.v) s.a s.b s.c s.d s.o c.loop-i.i) = let p = c.requires in
    let l = c.loop-i.invariant.0 in
    iteration_of _ _ _ _ _ _ _ _ ((let it : c.loop-i.i + 1 < c.args.n = omega arith in it)) (rw l p.1.from) (rw l p.2.from) (rw l p.3.from) (rw l p.4.from) (rw l p.1.to) ((let it : length c.loop-i.v * 8 < 2 ^ 63 = omega arith in it)) in it) in scaled_Fits _ _ 8 t.eight.at-2 t.bytes

pub bounds-v-o-in-loop-i-2 : goal.bounds-v-o-in-loop-i-2
bounds-v-o-in-loop-i-2 c = after_two _ c.loop-i.v _ _ _ _ ((let it : (let s = c.args in
    Iteration (length c.loop-i.v) s.a s.b s.c s.d s.o c.loop-i.i) = let p = c.requires in
    let l = c.loop-i.invariant.0 in
    iteration_of _ _ _ _ _ _ _ _ ((let it : c.loop-i.i + 1 < c.args.n = omega arith in it)) (rw l p.1.from) (rw l p.2.from) (rw l p.3.from) (rw l p.4.from) (rw l p.1.to) ((let it : length c.loop-i.v * 8 < 2 ^ 63 = omega arith in it)) in it)).eight.at-2

pub overflow_mul-v-in-loop-i-3 : goal.overflow_mul-v-in-loop-i-3
overflow_mul-v-in-loop-i-3 c = let t = (let it : (let s = c.args in
    Iteration (length c.loop-i.v) s.a s.b s.c s.d s.o c.loop-i.i) = let p = c.requires in
    let l = c.loop-i.invariant.0 in
    iteration_of _ _ _ _ _ _ _ _ ((let it : c.loop-i.i + 1 < c.args.n = omega arith in it)) (rw l p.1.from) (rw l p.2.from) (rw l p.3.from) (rw l p.4.from) (rw l p.1.to) ((let it : length c.loop-i.v * 8 < 2 ^ 63 = omega arith in it)) in it) in word t.times t.bytes

pub overflow_add-v-in-loop-i-5 : goal.overflow_add-v-in-loop-i-5
overflow_add-v-in-loop-i-5 c = let t = (let it : (let s = c.args in
    Iteration (length c.loop-i.v) s.a s.b s.c s.d s.o c.loop-i.i) = let p = c.requires in
    let l = c.loop-i.invariant.0 in
    iteration_of _ _ _ _ _ _ _ _ ((let it : c.loop-i.i + 1 < c.args.n = omega arith in it)) (rw l p.1.from) (rw l p.2.from) (rw l p.3.from) (rw l p.4.from) (rw l p.1.to) ((let it : length c.loop-i.v * 8 < 2 ^ 63 = omega arith in it)) in it) in word t.eight.at-0 t.bytes

pub overflow_add-v-in-loop-i-6 : goal.overflow_add-v-in-loop-i-6
overflow_add-v-in-loop-i-6 c = let t = (let it : (let s = c.args in
    Iteration (length c.loop-i.v) s.a s.b s.c s.d s.o c.loop-i.i) = let p = c.requires in
    let l = c.loop-i.invariant.0 in
    iteration_of _ _ _ _ _ _ _ _ ((let it : c.loop-i.i + 1 < c.args.n = omega arith in it)) (rw l p.1.from) (rw l p.2.from) (rw l p.3.from) (rw l p.4.from) (rw l p.1.to) ((let it : length c.loop-i.v * 8 < 2 ^ 63 = omega arith in it)) in it) in word t.eight.at-3 t.bytes

pub offset_bounds-v-o-in-loop-i-3 : goal.offset_bounds-v-o-in-loop-i-3
offset_bounds-v-o-in-loop-i-3 c = let t = (let it : (let s = c.args in
    Iteration (length c.loop-i.v) s.a s.b s.c s.d s.o c.loop-i.i) = let p = c.requires in
    let l = c.loop-i.invariant.0 in
    iteration_of _ _ _ _ _ _ _ _ ((let it : c.loop-i.i + 1 < c.args.n = omega arith in it)) (rw l p.1.from) (rw l p.2.from) (rw l p.3.from) (rw l p.4.from) (rw l p.1.to) ((let it : length c.loop-i.v * 8 < 2 ^ 63 = omega arith in it)) in it) in scaled_Fits _ _ 8 t.eight.at-3 t.bytes

pub bounds-v-o-in-loop-i-3 : goal.bounds-v-o-in-loop-i-3
bounds-v-o-in-loop-i-3 c = after-three _ c.loop-i.v _ _ _ _ _ _ ((let it : (let s = c.args in
    Iteration (length c.loop-i.v) s.a s.b s.c s.d s.o c.loop-i.i) = let p = c.requires in
    let l = c.loop-i.invariant.0 in
    iteration_of _ _ _ _ _ _ _ _ ((let it : c.loop-i.i + 1 < c.args.n = omega arith in it)) (rw l p.1.from) (rw l p.2.from) (rw l p.3.from) (rw l p.4.from) (rw l p.1.to) ((let it : length c.loop-i.v * 8 < 2 ^ 63 = omega arith in it)) in it)).eight.at-3

pub overflow_mul-v-in-loop-i-4 : goal.overflow_mul-v-in-loop-i-4
overflow_mul-v-in-loop-i-4 c = let t = (let it : (let s = c.args in
    Iteration (length c.loop-i.v) s.a s.b s.c s.d s.o c.loop-i.i) = let p = c.requires in
    let l = c.loop-i.invariant.0 in
    iteration_of _ _ _ _ _ _ _ _ ((let it : c.loop-i.i + 1 < c.args.n = omega arith in it)) (rw l p.1.from) (rw l p.2.from) (rw l p.3.from) (rw l p.4.from) (rw l p.1.to) ((let it : length c.loop-i.v * 8 < 2 ^ 63 = omega arith in it)) in it) in word t.times t.bytes

pub overflow_add-v-in-loop-i-7 : goal.overflow_add-v-in-loop-i-7
overflow_add-v-in-loop-i-7 c = let t = (let it : (let s = c.args in
    Iteration (length c.loop-i.v) s.a s.b s.c s.d s.o c.loop-i.i) = let p = c.requires in
    let l = c.loop-i.invariant.0 in
    iteration_of _ _ _ _ _ _ _ _ ((let it : c.loop-i.i + 1 < c.args.n = omega arith in it)) (rw l p.1.from) (rw l p.2.from) (rw l p.3.from) (rw l p.4.from) (rw l p.1.to) ((let it : length c.loop-i.v * 8 < 2 ^ 63 = omega arith in it)) in it) in word t.eight.at-0 t.bytes

pub overflow_add-v-in-loop-i-8 : goal.overflow_add-v-in-loop-i-8
overflow_add-v-in-loop-i-8 c = let t = (let it : (let s = c.args in
    Iteration (length c.loop-i.v) s.a s.b s.c s.d s.o c.loop-i.i) = let p = c.requires in
    let l = c.loop-i.invariant.0 in
    iteration_of _ _ _ _ _ _ _ _ ((let it : c.loop-i.i + 1 < c.args.n = omega arith in it)) (rw l p.1.from) (rw l p.2.from) (rw l p.3.from) (rw l p.4.from) (rw l p.1.to) ((let it : length c.loop-i.v * 8 < 2 ^ 63 = omega arith in it)) in it) in word t.eight.at-4 t.bytes

pub offset_bounds-v-o-in-loop-i-4 : goal.offset_bounds-v-o-in-loop-i-4
offset_bounds-v-o-in-loop-i-4 c = let t = (let it : (let s = c.args in
    Iteration (length c.loop-i.v) s.a s.b s.c s.d s.o c.loop-i.i) = let p = c.requires in
    let l = c.loop-i.invariant.0 in
    iteration_of _ _ _ _ _ _ _ _ ((let it : c.loop-i.i + 1 < c.args.n = omega arith in it)) (rw l p.1.from) (rw l p.2.from) (rw l p.3.from) (rw l p.4.from) (rw l p.1.to) ((let it : length c.loop-i.v * 8 < 2 ^ 63 = omega arith in it)) in it) in scaled_Fits _ _ 8 t.eight.at-4 t.bytes

pub bounds-v-o-in-loop-i-4 : goal.bounds-v-o-in-loop-i-4
bounds-v-o-in-loop-i-4 c = after-four _ c.loop-i.v _ _ _ _ _ _ _ _ ((let it : (let s = c.args in
    Iteration (length c.loop-i.v) s.a s.b s.c s.d s.o c.loop-i.i) = let p = c.requires in
    let l = c.loop-i.invariant.0 in
    iteration_of _ _ _ _ _ _ _ _ ((let it : c.loop-i.i + 1 < c.args.n = omega arith in it)) (rw l p.1.from) (rw l p.2.from) (rw l p.3.from) (rw l p.4.from) (rw l p.1.to) ((let it : length c.loop-i.v * 8 < 2 ^ 63 = omega arith in it)) in it)).eight.at-4

pub overflow_mul-v-in-loop-i-5 : goal.overflow_mul-v-in-loop-i-5
overflow_mul-v-in-loop-i-5 c = let t = (let it : (let s = c.args in
    Iteration (length c.loop-i.v) s.a s.b s.c s.d s.o c.loop-i.i) = let p = c.requires in
    let l = c.loop-i.invariant.0 in
    iteration_of _ _ _ _ _ _ _ _ ((let it : c.loop-i.i + 1 < c.args.n = omega arith in it)) (rw l p.1.from) (rw l p.2.from) (rw l p.3.from) (rw l p.4.from) (rw l p.1.to) ((let it : length c.loop-i.v * 8 < 2 ^ 63 = omega arith in it)) in it) in word t.times t.bytes

pub overflow_add-v-in-loop-i-9 : goal.overflow_add-v-in-loop-i-9
overflow_add-v-in-loop-i-9 c = let t = (let it : (let s = c.args in
    Iteration (length c.loop-i.v) s.a s.b s.c s.d s.o c.loop-i.i) = let p = c.requires in
    let l = c.loop-i.invariant.0 in
    iteration_of _ _ _ _ _ _ _ _ ((let it : c.loop-i.i + 1 < c.args.n = omega arith in it)) (rw l p.1.from) (rw l p.2.from) (rw l p.3.from) (rw l p.4.from) (rw l p.1.to) ((let it : length c.loop-i.v * 8 < 2 ^ 63 = omega arith in it)) in it) in word t.eight.at-0 t.bytes

pub overflow_add-v-in-loop-i-10 : goal.overflow_add-v-in-loop-i-10
overflow_add-v-in-loop-i-10 c = let t = (let it : (let s = c.args in
    Iteration (length c.loop-i.v) s.a s.b s.c s.d s.o c.loop-i.i) = let p = c.requires in
    let l = c.loop-i.invariant.0 in
    iteration_of _ _ _ _ _ _ _ _ ((let it : c.loop-i.i + 1 < c.args.n = omega arith in it)) (rw l p.1.from) (rw l p.2.from) (rw l p.3.from) (rw l p.4.from) (rw l p.1.to) ((let it : length c.loop-i.v * 8 < 2 ^ 63 = omega arith in it)) in it) in word t.eight.at_5 t.bytes

pub offset_bounds-v-o-in-loop-i-5 : goal.offset_bounds-v-o-in-loop-i-5
offset_bounds-v-o-in-loop-i-5 c = let t = (let it : (let s = c.args in
    Iteration (length c.loop-i.v) s.a s.b s.c s.d s.o c.loop-i.i) = let p = c.requires in
    let l = c.loop-i.invariant.0 in
    iteration_of _ _ _ _ _ _ _ _ ((let it : c.loop-i.i + 1 < c.args.n = omega arith in it)) (rw l p.1.from) (rw l p.2.from) (rw l p.3.from) (rw l p.4.from) (rw l p.1.to) ((let it : length c.loop-i.v * 8 < 2 ^ 63 = omega arith in it)) in it) in scaled_Fits _ _ 8 t.eight.at_5 t.bytes

pub bounds-v-o-in-loop-i-5 : goal.bounds-v-o-in-loop-i-5
bounds-v-o-in-loop-i-5 c = after_five _ c.loop-i.v _ _ _ _ _ _ _ _ _ _ ((let it : (let s = c.args in
    Iteration (length c.loop-i.v) s.a s.b s.c s.d s.o c.loop-i.i) = let p = c.requires in
    let l = c.loop-i.invariant.0 in
    iteration_of _ _ _ _ _ _ _ _ ((let it : c.loop-i.i + 1 < c.args.n = omega arith in it)) (rw l p.1.from) (rw l p.2.from) (rw l p.3.from) (rw l p.4.from) (rw l p.1.to) ((let it : length c.loop-i.v * 8 < 2 ^ 63 = omega arith in it)) in it)).eight.at_5

pub overflow_mul-v-in-loop-i-6 : goal.overflow_mul-v-in-loop-i-6
overflow_mul-v-in-loop-i-6 c = let t = (let it : (let s = c.args in
    Iteration (length c.loop-i.v) s.a s.b s.c s.d s.o c.loop-i.i) = let p = c.requires in
    let l = c.loop-i.invariant.0 in
    iteration_of _ _ _ _ _ _ _ _ ((let it : c.loop-i.i + 1 < c.args.n = omega arith in it)) (rw l p.1.from) (rw l p.2.from) (rw l p.3.from) (rw l p.4.from) (rw l p.1.to) ((let it : length c.loop-i.v * 8 < 2 ^ 63 = omega arith in it)) in it) in word t.times t.bytes

pub overflow_add-v-in-loop-i-11 : goal.overflow_add-v-in-loop-i-11
overflow_add-v-in-loop-i-11 c = let t = (let it : (let s = c.args in
    Iteration (length c.loop-i.v) s.a s.b s.c s.d s.o c.loop-i.i) = let p = c.requires in
    let l = c.loop-i.invariant.0 in
    iteration_of _ _ _ _ _ _ _ _ ((let it : c.loop-i.i + 1 < c.args.n = omega arith in it)) (rw l p.1.from) (rw l p.2.from) (rw l p.3.from) (rw l p.4.from) (rw l p.1.to) ((let it : length c.loop-i.v * 8 < 2 ^ 63 = omega arith in it)) in it) in word t.eight.at-0 t.bytes

pub overflow_add-v-in-loop-i-12 : goal.overflow_add-v-in-loop-i-12
overflow_add-v-in-loop-i-12 c = let t = (let it : (let s = c.args in
    Iteration (length c.loop-i.v) s.a s.b s.c s.d s.o c.loop-i.i) = let p = c.requires in
    let l = c.loop-i.invariant.0 in
    iteration_of _ _ _ _ _ _ _ _ ((let it : c.loop-i.i + 1 < c.args.n = omega arith in it)) (rw l p.1.from) (rw l p.2.from) (rw l p.3.from) (rw l p.4.from) (rw l p.1.to) ((let it : length c.loop-i.v * 8 < 2 ^ 63 = omega arith in it)) in it) in word t.eight.at-6 t.bytes

pub offset_bounds-v-o-in-loop-i-6 : goal.offset_bounds-v-o-in-loop-i-6
offset_bounds-v-o-in-loop-i-6 c = let t = (let it : (let s = c.args in
    Iteration (length c.loop-i.v) s.a s.b s.c s.d s.o c.loop-i.i) = let p = c.requires in
    let l = c.loop-i.invariant.0 in
    iteration_of _ _ _ _ _ _ _ _ ((let it : c.loop-i.i + 1 < c.args.n = omega arith in it)) (rw l p.1.from) (rw l p.2.from) (rw l p.3.from) (rw l p.4.from) (rw l p.1.to) ((let it : length c.loop-i.v * 8 < 2 ^ 63 = omega arith in it)) in it) in scaled_Fits _ _ 8 t.eight.at-6 t.bytes

pub bounds-v-o-in-loop-i-6 : goal.bounds-v-o-in-loop-i-6
bounds-v-o-in-loop-i-6 c = after_six _ c.loop-i.v _ _ _ _ _ _ _ _ _ _ _ _ ((let it : (let s = c.args in
    Iteration (length c.loop-i.v) s.a s.b s.c s.d s.o c.loop-i.i) = let p = c.requires in
    let l = c.loop-i.invariant.0 in
    iteration_of _ _ _ _ _ _ _ _ ((let it : c.loop-i.i + 1 < c.args.n = omega arith in it)) (rw l p.1.from) (rw l p.2.from) (rw l p.3.from) (rw l p.4.from) (rw l p.1.to) ((let it : length c.loop-i.v * 8 < 2 ^ 63 = omega arith in it)) in it)).eight.at-6

pub overflow_mul-v-in-loop-i-7 : goal.overflow_mul-v-in-loop-i-7
overflow_mul-v-in-loop-i-7 c = let t = (let it : (let s = c.args in
    Iteration (length c.loop-i.v) s.a s.b s.c s.d s.o c.loop-i.i) = let p = c.requires in
    let l = c.loop-i.invariant.0 in
    iteration_of _ _ _ _ _ _ _ _ ((let it : c.loop-i.i + 1 < c.args.n = omega arith in it)) (rw l p.1.from) (rw l p.2.from) (rw l p.3.from) (rw l p.4.from) (rw l p.1.to) ((let it : length c.loop-i.v * 8 < 2 ^ 63 = omega arith in it)) in it) in word t.times t.bytes

pub overflow_add-v-in-loop-i-13 : goal.overflow_add-v-in-loop-i-13
overflow_add-v-in-loop-i-13 c = let t = (let it : (let s = c.args in
    Iteration (length c.loop-i.v) s.a s.b s.c s.d s.o c.loop-i.i) = let p = c.requires in
    let l = c.loop-i.invariant.0 in
    iteration_of _ _ _ _ _ _ _ _ ((let it : c.loop-i.i + 1 < c.args.n = omega arith in it)) (rw l p.1.from) (rw l p.2.from) (rw l p.3.from) (rw l p.4.from) (rw l p.1.to) ((let it : length c.loop-i.v * 8 < 2 ^ 63 = omega arith in it)) in it) in word t.eight.at-0 t.bytes

pub overflow_add-v-in-loop-i-14 : goal.overflow_add-v-in-loop-i-14
overflow_add-v-in-loop-i-14 c = let t = (let it : (let s = c.args in
    Iteration (length c.loop-i.v) s.a s.b s.c s.d s.o c.loop-i.i) = let p = c.requires in
    let l = c.loop-i.invariant.0 in
    iteration_of _ _ _ _ _ _ _ _ ((let it : c.loop-i.i + 1 < c.args.n = omega arith in it)) (rw l p.1.from) (rw l p.2.from) (rw l p.3.from) (rw l p.4.from) (rw l p.1.to) ((let it : length c.loop-i.v * 8 < 2 ^ 63 = omega arith in it)) in it) in word t.eight.at_7 t.bytes

pub offset_bounds-v-o-in-loop-i-7 : goal.offset_bounds-v-o-in-loop-i-7
offset_bounds-v-o-in-loop-i-7 c = let t = (let it : (let s = c.args in
    Iteration (length c.loop-i.v) s.a s.b s.c s.d s.o c.loop-i.i) = let p = c.requires in
    let l = c.loop-i.invariant.0 in
    iteration_of _ _ _ _ _ _ _ _ ((let it : c.loop-i.i + 1 < c.args.n = omega arith in it)) (rw l p.1.from) (rw l p.2.from) (rw l p.3.from) (rw l p.4.from) (rw l p.1.to) ((let it : length c.loop-i.v * 8 < 2 ^ 63 = omega arith in it)) in it) in scaled_Fits _ _ 8 t.eight.at_7 t.bytes

pub bounds-v-o-in-loop-i-7 : goal.bounds-v-o-in-loop-i-7
bounds-v-o-in-loop-i-7 c = after_seven _ c.loop-i.v _ _ _ _ _ _ _ _ _ _ _ _ _ _ ((let it : (let s = c.args in
    Iteration (length c.loop-i.v) s.a s.b s.c s.d s.o c.loop-i.i) = let p = c.requires in
    let l = c.loop-i.invariant.0 in
    iteration_of _ _ _ _ _ _ _ _ ((let it : c.loop-i.i + 1 < c.args.n = omega arith in it)) (rw l p.1.from) (rw l p.2.from) (rw l p.3.from) (rw l p.4.from) (rw l p.1.to) ((let it : length c.loop-i.v * 8 < 2 ^ 63 = omega arith in it)) in it)).eight.at_7

pub overflow_add-i : goal.overflow_add-i
overflow_add-i c = let t = (let it : (let s = c.args in
    Iteration (length c.loop-i.v) s.a s.b s.c s.d s.o c.loop-i.i) = let p = c.requires in
    let l = c.loop-i.invariant.0 in
    iteration_of _ _ _ _ _ _ _ _ ((let it : c.loop-i.i + 1 < c.args.n = omega arith in it)) (rw l p.1.from) (rw l p.2.from) (rw l p.3.from) (rw l p.4.from) (rw l p.1.to) ((let it : length c.loop-i.v * 8 < 2 ^ 63 = omega arith in it)) in it) in word t.after t.bytes

pub loop-i-smaller : goal.loop-i-smaller
loop-i-smaller c = less_by_two _ _ ((let it : c.loop-i.i + 1 < c.args.n = omega arith in it))

pub loop-i-preserved : goal.loop-i-preserved
unfolding blend
loop-i-preserved c =
    let here = c in
    let at = here in
    let pre = at.requires in (
      same-eight at.loop-i.v _ _ _ _ _ _ _ _ _ _ _ _ _ _ _ _ ∙ at.loop-i.invariant.0,
      even_next _ at.loop-i.invariant.1,
      two-more _ _ ((let it : c.loop-i.i + 1 < c.args.n = omega arith in it)),
      run_iteration _ _ _ _ _ _ _ _ _ _ _ _ _ _ _ _ _ _ _ _ _ pre.1 pre.2 pre.3 pre.4 at.loop-i.invariant.3 ((let it : c.loop-i.i + 1 < c.args.n = omega arith in it)) at.loop-i.invariant.1,
    )

pub returns : goal.returns
returns c = let e : c.loop-i.i ≡ c.args.n = omega arith in rw e at c.loop-i.invariant.3
