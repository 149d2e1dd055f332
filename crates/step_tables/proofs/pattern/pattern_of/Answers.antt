use mathlib.Core.Path.{◌≡◌}
use mathlib.Core.List.{List}
use Prim.Native.Nat.{ℕ, suc, ◌+◌, ◌*◌, ◌-◌, ◌/◌, ◌%◌, ◌^◌, ◌≤◌, ◌<◌}
use native.Mathlib.Omega.{arith}
use lib.ListN.{get_or}
use Rattle.step_tables.specs.Step.{pattern_from}
use Rattle.step_tables.proofs.Laws.Pattern.{pattern-16}
use Rattle.step_tables.proofs.pattern.pattern_of.Goals as goal

-- one bit more below
pattern-down : (l : List ℕ) (i n k : ℕ) → 0 < i → i ≤ n
    → 2 * pattern_from l i (n - i) k + k / 2 ^ get_or l (i - 1) 0 % 2 ≡ pattern_from l (i - 1) (n - (i - 1)) k
unfolding pattern_from
pattern-down l i n k h h' =
    let e : n - (i - 1) ≡ suc (n - i) = omega arith in
    let g : suc (i - 1) ≡ i = omega arith in
    rw (e, g)

pub loop-i-init : goal.loop-i-init
unfolding pattern_from
loop-i-init c = let e : c.args.n - c.args.n ≡ 0 = omega arith in (omega arith, rw e)

pub overflow_mul-m : goal.overflow_mul-m
overflow_mul-m c = omega (arith, (let it : c.loop-i.m < 16 = omega (arith, pattern-16 c.args.bits.now c.loop-i.i (c.args.n - c.loop-i.i) c.args.k (omega arith)) in it))

pub overflow_shr-m : goal.overflow_shr-m
overflow_shr-m c = c.requires.by_index (c.loop-i.i - 1) (omega arith)

pub overflow_add-m : goal.overflow_add-m
overflow_add-m c = omega (arith, (let it : c.loop-i.m < 16 = omega (arith, pattern-16 c.args.bits.now c.loop-i.i (c.args.n - c.loop-i.i) c.args.k (omega arith)) in it))

pub loop-i-preserved : goal.loop-i-preserved
loop-i-preserved c = let at = c in (omega arith, rw at.loop-i.invariant.1 (pattern-down _ _ _ _ (omega arith) (omega arith)))

pub returns : goal.returns
returns c =
    let at = c in
    let e : at.loop-i.i ≡ 0 = omega arith in
    let g : at.args.n - at.loop-i.i ≡ at.args.n = omega arith in
    record { value = cc at.loop-i.invariant.1; upper_bound = (let it : c.loop-i.m < 16 = omega (arith, pattern-16 c.args.bits.now c.loop-i.i (c.args.n - c.loop-i.i) c.args.k (omega arith)) in it) }
