use mathlib.Core.Path.{◌≡◌, refl, ◌∙◌}
use Prim.Native.Nat.{◌+◌, ◌*◌, ◌<◌}
use native.Mathlib.Omega.{arith}
use lib.ListN.{length, length-set}
use native.Mathlib.Nat.{add-zero, add_assoc}
use Rattle.totals_stored.proofs.Laws.Stored.{place_inside, number_small, stored_more}
use Rattle.totals_stored.proofs.configuration.store_results.Goals as goal

pub loop-p-init : goal.loop-p-init
loop-p-init c = record { below = omega arith; long = refl; so_far = λ value n same g. rw (add-zero c.args.first) g }

pub overflow_add-stored : goal.overflow_add-stored
overflow_add-stored c =
    let s = c in
    let l = c.loop-p in
    let q = s.args.first + l.p in
    let h = place_inside s.args.all (s.args.first + length s.args.c.now) q s.args.x (omega arith) s.requires.0 in
    omega (arith, h, s.requires.1, l.invariant.long, s.well_formed, number_small s.args.all q s.args.x s.requires.0)

pub overflow_mul-stored : goal.overflow_mul-stored
overflow_mul-stored c =
    let s = c in
    let l = c.loop-p in
    let q = s.args.first + l.p in
    let h = place_inside s.args.all (s.args.first + length s.args.c.now) q s.args.x (omega arith) s.requires.0 in
    omega (arith, h, s.requires.1, l.invariant.long, s.well_formed)

pub overflow_add-stored-in-loop-p : goal.overflow_add-stored-in-loop-p
overflow_add-stored-in-loop-p c =
    let s = c in
    let l = c.loop-p in
    let q = s.args.first + l.p in
    let h = place_inside s.args.all (s.args.first + length s.args.c.now) q s.args.x (omega arith) s.requires.0 in
    omega (arith, h, s.requires.1, l.invariant.long, s.well_formed)

pub offset_bounds-stored-first : goal.offset_bounds-stored-first
offset_bounds-stored-first c =
    let s = c in
    let l = c.loop-p in
    let q = s.args.first + l.p in
    let h = place_inside s.args.all (s.args.first + length s.args.c.now) q s.args.x (omega arith) s.requires.0 in
    omega (arith, h, s.requires.1, l.invariant.long, s.well_formed)

pub bounds-stored-first : goal.bounds-stored-first
bounds-stored-first c =
    let s = c in
    let l = c.loop-p in
    let q = s.args.first + l.p in
    let h = place_inside s.args.all (s.args.first + length s.args.c.now) q s.args.x (omega arith) s.requires.0 in
    omega (arith, h, s.requires.1, l.invariant.long)

pub loop-p-preserved : goal.loop-p-preserved
loop-p-preserved c =
    let s = c in
    let l = c.loop-p in
    let q = s.args.first + l.p in
    let h = place_inside s.args.all (s.args.first + length s.args.c.now) q s.args.x (omega arith) s.requires.0 in
    let i = l.invariant in
    let b : q * s.args.all + s.args.x < length l.stored = omega (arith, h, s.requires.1, i.long) in
    record {
      below = omega arith;
      long = length-set l.stored _ _ ∙ i.long;
      so_far = λ value n same g. rw (← add_assoc s.args.first l.p 1) (stored_more value s.args.all n s.args.x s.requires.0 q l.stored _ b (same l.p (omega arith)) (i.so_far value n same g));
    }

pub shape_of-stored : goal.shape_of-stored
shape_of-stored c = c.loop-p.invariant.long

pub returns : goal.returns
returns c = let l = c.loop-p in let e : length c.args.c.now ≡ l.p = omega (arith, l.invariant.below) in λ value n same g. rw e (l.invariant.so_far value n same g)
