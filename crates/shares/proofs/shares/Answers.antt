-- Each `return` is a law of Cases.
use mathlib.Core.Path.{◌≡◌, sym, ◌∙◌}
use mathlib.Core.Bool.{false}
use Prim.Native.Nat.{◌+◌, ◌≤◌}
use native.Mathlib.Omega.{arith}
use lib.ListN.{length}
use Rattle.shares.specs.Shares.{bad_entry, bad_lists, counted}
use Rattle.shares.proofs.Laws.Cases.{none-bad, refused-lists, refused-entry, accepted}
use Rattle.shares.proofs.shares.Goals as goal

pub returns-then-bad_lists : goal.returns-then-bad_lists
returns-then-bad_lists c = refused-lists _ _ (sym c.bad_lists.ensures ∙ c.if-bad_lists.true)

pub returns-then-t-ne0 : goal.returns-then-t-ne0
returns-then-t-ne0 c = refused-entry _ _ ((let it : (let s = c.args in bad_lists s.lengths.now (length s.stored.now) ≡ false) = sym c.bad_lists.ensures ∙ c.if-bad_lists.false in it)) (λ e. c.if-t-ne0.true (c.count_kinds-t.ensures.0 ∙ e))

pub overflow_sub-zeros : goal.overflow_sub-zeros
overflow_sub-zeros c = omega (
  arith,
  (let it : (let t = c.count_kinds-t.result in
      t.above + t.below ≤ length c.args.stored.now) = let stored = c.args.stored.now in
      let k = c.count_kinds-t.ensures in
      omega (arith, none-bad stored ((let it : counted bad_entry c.args.stored.now ≡ 0 = sym c.count_kinds-t.ensures.0 ∙ omega arith in it))) in it),
)

pub overflow_sub-zeros-2 : goal.overflow_sub-zeros-2
overflow_sub-zeros-2 c = omega (
  arith,
  (let it : (let t = c.count_kinds-t.result in
      t.above + t.below ≤ length c.args.stored.now) = let stored = c.args.stored.now in
      let k = c.count_kinds-t.ensures in
      omega (arith, none-bad stored ((let it : counted bad_entry c.args.stored.now ≡ 0 = sym c.count_kinds-t.ensures.0 ∙ omega arith in it))) in it),
)

pub returns : goal.returns
returns c =
    let e = c in
    let k = e.count_kinds-t.ensures in
    accepted _ _ ((let it : (let s = c.args in bad_lists s.lengths.now (length s.stored.now) ≡ false) = sym c.bad_lists.ensures ∙ c.if-bad_lists.false in it)) ((let it : counted bad_entry c.args.stored.now ≡ 0 = sym c.count_kinds-t.ensures.0 ∙ omega arith in it)) _ (rw (k.1, k.2, k.3) at c.fractions.ensures)
