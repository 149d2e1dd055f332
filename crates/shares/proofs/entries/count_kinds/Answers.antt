use mathlib.Core.Path.{◌≡◌, ap, ◌∙◌}
use Prim.Native.Nat.{ℕ}
use mathlib.Core.Bool.{Bool, cond}
use lib.Ieee.{Float}
use native.Mathlib.Omega.{arith}
use lib.ListN.{length}
use borrow.Author.Rules.{rules}
use Rattle.list_laws.specs.Count.{count}
use Rattle.shares.specs.Shares.{at, is_above, is_below, is_half, bad_entry}
use Rattle.shares.proofs.Laws.Counting.{count_turn, turn_most}
use Rattle.shares.proofs.entries.count_kinds.Goals as goal

-- what a test adds: 1 where its function answers true
adds : (test : Float → Bool) (x : Float) (b : Bool) (y : ℕ) → b ≡ test x → y ≡ cond b 1 0 → y ≡ cond (test x) 1 0
adds test x b y p q = rw (← p) q

pub loop-x-init : goal.loop-x-init
unfolding count
loop-x-init c = search rules

pub overflow_add-bad : goal.overflow_add-bad
overflow_add-bad c =
    let l = c in
    let t = turn_most (λ j. bad_entry (at l.args.stored.now j)) l.loop-x.x-index _ _ l.loop-x.invariant.1
    (adds bad_entry _ _ _ c.bad_entry.ensures c.one_if-bad.ensures) in
    record { fits = omega arith }

pub overflow_add-above : goal.overflow_add-above
overflow_add-above c =
    let l = c in
    let t = turn_most (λ j. is_above (at l.args.stored.now j)) l.loop-x.x-index _ _ l.loop-x.invariant.2 c.one_if-above.ensures in
    record { fits = omega arith }

pub overflow_add-below : goal.overflow_add-below
overflow_add-below c =
    let l = c in
    let t = turn_most (λ j. is_below (at l.args.stored.now j)) l.loop-x.x-index _ _ l.loop-x.invariant.3 c.one_if-below.ensures in
    record { fits = omega arith }

pub overflow_add-half : goal.overflow_add-half
overflow_add-half c =
    let l = c in
    let t = turn_most (λ j. is_half (at l.args.stored.now j)) l.loop-x.x-index _ _ l.loop-x.invariant.4
    (adds is_half _ _ _ c.is_half.ensures c.one_if-half.ensures) in
    record { fits = omega arith }

pub loop-x-preserved : goal.loop-x-preserved
loop-x-preserved c =
    let s = c in
    let l = s in
    let i = l.loop-x.x-index in
    let stored = l.args.stored.now in (
      omega arith,
      count_turn (λ j. bad_entry (at stored j)) i _ _ l.loop-x.invariant.1 (adds bad_entry _ _ _ s.bad_entry.ensures s.one_if-bad.ensures),
      count_turn (λ j. is_above (at stored j)) i _ _ l.loop-x.invariant.2 c.one_if-above.ensures,
      count_turn (λ j. is_below (at stored j)) i _ _ l.loop-x.invariant.3 c.one_if-below.ensures,
      count_turn (λ j. is_half (at stored j)) i _ _ l.loop-x.invariant.4 (adds is_half _ _ _ c.is_half.ensures c.one_if-half.ensures),
    )

pub returns : goal.returns
returns c =
    let l = c.loop-x in
    let stored = c.args.stored.now in
    let e : l.x-index ≡ length stored = omega arith in
    (l.invariant.1 ∙ ap (count _) e, l.invariant.2 ∙ ap (count _) e, l.invariant.3 ∙ ap (count _) e, l.invariant.4 ∙ ap (count _) e)
