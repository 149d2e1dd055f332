use mathlib.Core.Path.{◌≡◌, sym, ap, ◌∙◌}
use mathlib.Core.Bool.{Bool, true, false}
use Prim.Native.Nat.{ℕ, ◌≤◌, ◌<◌}
use native.Mathlib.Omega.{arith}
use lib.ListN.{length, get_or}
use borrow.Author.Rules.{rules}
use borrow.Author.Tests.{eq-eqb, ne_eqb, lt-ltb, le-ltb}
use Rattle.list_laws.specs.Search.{some}
use Rattle.list_laws.proofs.Laws.Search.{start, some_at, miss}
use Rattle.shares.specs.Shares.{most_lists, most_entries, bad_length, start_of}
use Rattle.shares.proofs.Laws.Lists.{start_zero, start_turn, good_length}
use Rattle.shares.proofs.lists.bad_lists.Goals as goal

pub returns-then-lengths-eq0 : goal.returns-then-lengths-eq0
returns-then-lengths-eq0 c = rw (eq-eqb (length c.args.lengths.now) 0 c.if-lengths-eq0.true)

pub returns-then-lengths-gt-LISTS : goal.returns-then-lengths-gt-LISTS
returns-then-lengths-gt-LISTS c =
    let n = length c.args.lengths.now in
    rw (ne_eqb n 0 c.if-lengths-eq0.false, lt-ltb most_lists n c.if-lengths-gt-LISTS.true)

pub loop-entries-init : goal.loop-entries-init
loop-entries-init c = (search rules, start _, sym (start_zero _), search rules)

pub returns-then-bad_length : goal.returns-then-bad_length
returns-then-bad_length c =
    let l = c in
    let lengths = l.args.lengths.now in
    let test : ℕ → Bool = λ j. bad_length (get_or lengths j 0) in
    let found : some test (length lengths) ≡ true = some_at test (length lengths) l.loop-entries.entries-index (omega arith) (sym c.bad_length.ensures ∙ c.if-bad_length.true) in
    rw (ne_eqb (length lengths) 0 l.if-lengths-eq0.false, le-ltb most_lists (length lengths) (omega arith), found)

pub overflow_add-total : goal.overflow_add-total
overflow_add-total c = let g = (let it : (let l = c in
    let n = get_or l.args.lengths.now l.loop-entries.entries-index 0 in (0 < n) × (n ≤ most_entries)) = good_length _ (sym c.bad_length.ensures ∙ c.if-bad_length.false) in it) in record { fits = omega arith }

pub loop-entries-preserved : goal.loop-entries-preserved
loop-entries-preserved c =
    let l = c in
    let g = (let it : (let l = c in
    let n = get_or l.args.lengths.now l.loop-entries.entries-index 0 in (0 < n) × (n ≤ most_entries)) = good_length _ (sym c.bad_length.ensures ∙ c.if-bad_length.false) in it) in (
      omega arith,
      miss _ _ l.loop-entries.invariant.1 _ c.bad_length.ensures c.if-bad_length.false,
      start_turn _ _ _ l.loop-entries.invariant.2,
      omega arith,
    )

pub returns : goal.returns
returns c =
    let l = c in
    let lengths = l.args.lengths.now in
    let e : l.loop-entries.entries-index ≡ length lengths = omega arith in
    let none : some (λ j. bad_length (get_or lengths j 0)) (length lengths) ≡ false = rw e at l.loop-entries.invariant.1 in
    let total : l.loop-entries.total ≡ start_of lengths (length lengths) = l.loop-entries.invariant.2 ∙ ap (start_of lengths) e in
    rw (ne_eqb (length lengths) 0 l.if-lengths-eq0.false, le-ltb most_lists (length lengths) (omega arith), none, ← total)
