use mathlib.Core.Path.{◌≡◌}
use mathlib.Core.Bool.{true, false}
use Prim.Native.Nat.{ℕ}
use borrow.Author.Count.{below_more}
use native.Mathlib.Omega.{arith}
use Rattle.totals_reuse.proofs.step_may_change.Goals as goal

no : true ≡ false → ⊥
no z = let z' : ◌≡◌ {A = ℕ} 0 1 = cc in omega arith

pub left_may_change-requires : goal.left_may_change-requires
left_may_change-requires c = c.requires

pub returns-then-left_may_change : goal.returns-then-left_may_change
returns-then-left_may_change c = λ z. absurd (no z)

pub near_count-near-requires : goal.near_count-near-requires
near_count-near-requires c = c.requires.holds

pub loop-i-init : goal.loop-i-init
loop-i-init c = (omega arith, λ k b. absurd (omega arith))

pub near_edge-requires : goal.near_edge-requires
near_edge-requires c =
    let s = c in
    (s.requires.holds, omega (arith, c.near_count-near.ensures, s.requires.few s.args.t (omega arith)))

pub may_change-requires : goal.may_change-requires
may_change-requires c =
    let s = c in
    let near = c.near_count-near.ensures in
    omega (arith, c.near_edge.ensures, (s.requires.reads s.args.t (omega arith)).near c.loop-i.i (omega (arith, near)))

pub returns-then-may_change : goal.returns-then-may_change
returns-then-may_change c = λ z. absurd (no z)

pub loop-i-preserved : goal.loop-i-preserved
loop-i-preserved c =
    (omega arith, below_more _ _ c.loop-i.invariant.1 (rw c.near_edge.ensures at (c.may_change.ensures c.if-may_change.false)))

pub returns : goal.returns
returns c =
    let l = c.loop-i in
    λ _. record {
      left = c.left_may_change.ensures c.if-left_may_change.false;
      near = λ k b. l.invariant.1 k (omega (arith, c.near_count-near.ensures));
    }
