-- The checks in turn; then the records are joined, the earlier first.
use mathlib.Core.Path.{◌≡◌, sym, ap, ◌∙◌}
use mathlib.Core.Bool.{false}
use borrow.Author.Tests.{eq-eqb, ne_eqb, not-true, not-false}
use Rattle.run_record.specs.declared.Head.{Head}
use Rattle.run_record.specs.Reading.{head_of, bad_record}
use Rattle.run_record.proofs.Laws.Cases.{passed}
use Rattle.run_record_join.specs.Joining.{apart}
use Rattle.run_record_join.proofs.Laws.Cases.{in-turn, turned, first-broken, second-broken, set_apart, one-first, two-first}
use Rattle.run_record_join.proofs.record_join.Goals as goal

pub returns-then-not-is_record : goal.returns-then-not-is_record
returns-then-not-is_record c = first-broken _ _ _ (not-false _ (sym c.is_record.ensures ∙ not-true _ c.if-not-is_record.true-raw))

pub returns-then-not-is_record-2 : goal.returns-then-not-is_record-2
returns-then-not-is_record-2 c = second-broken _ _ _ (not-false _ (sym c.is_record-2.ensures ∙ not-true _ c.if-not-is_record-2.true-raw))

pub head_of-g-requires : goal.head_of-g-requires
head_of-g-requires c = (passed _ ((let it : bad_record c.args.one.now ≡ false = not-true _ (sym c.is_record.ensures ∙ not-false _ c.if-not-is_record.false-raw) in it))).long

pub head_of-h-requires : goal.head_of-h-requires
head_of-h-requires c = (passed _ ((let it : bad_record c.args.two.now ≡ false = not-true _ (sym c.is_record-2.ensures ∙ not-false _ c.if-not-is_record-2.false-raw) in it))).long

pub returns-then-are_apart : goal.returns-then-are_apart
returns-then-are_apart c = set_apart _ _ _ ((let it : bad_record c.args.one.now ≡ false = not-true _ (sym c.is_record.ensures ∙ not-false _ c.if-not-is_record.false-raw) in it)) ((let it : bad_record c.args.two.now ≡ false = not-true _ (sym c.is_record-2.ensures ∙ not-false _ c.if-not-is_record-2.false-raw) in it)) (sym ((let it : (let a = c.args in c.are_apart.result ≡ apart (head_of a.one.now) (head_of a.two.now)) = c.are_apart.ensures ∙ rw (c.head_of-g.ensures, c.head_of-h.ensures) in it)) ∙ c.if-are_apart.true)

pub join_in_turn-requires : goal.join_in_turn-requires
join_in_turn-requires c = in-turn _ _ ((let it : bad_record c.args.one.now ≡ false = not-true _ (sym c.is_record.ensures ∙ not-false _ c.if-not-is_record.false-raw) in it)) ((let it : bad_record c.args.two.now ≡ false = not-true _ (sym c.is_record-2.ensures ∙ not-false _ c.if-not-is_record-2.false-raw) in it)) (sym ((let it : (let a = c.args in c.are_apart.result ≡ apart (head_of a.one.now) (head_of a.two.now)) = c.are_apart.ensures ∙ rw (c.head_of-g.ensures, c.head_of-h.ensures) in it)) ∙ c.if-are_apart.false) ((let it : (let a = c.args in (head_of a.one.now).end ≡ (head_of a.two.now).start) = sym (ap (λ (h : Head). h.end) c.head_of-g.ensures) ∙ c.if-g-h.true ∙ ap (λ (h : Head). h.start) c.head_of-h.ensures in it))

pub returns-then-g-h : goal.returns-then-g-h
returns-then-g-h c =
    one-first _ _ _ ((let it : bad_record c.args.one.now ≡ false = not-true _ (sym c.is_record.ensures ∙ not-false _ c.if-not-is_record.false-raw) in it)) ((let it : bad_record c.args.two.now ≡ false = not-true _ (sym c.is_record-2.ensures ∙ not-false _ c.if-not-is_record-2.false-raw) in it)) (sym ((let it : (let a = c.args in c.are_apart.result ≡ apart (head_of a.one.now) (head_of a.two.now)) = c.are_apart.ensures ∙ rw (c.head_of-g.ensures, c.head_of-h.ensures) in it)) ∙ c.if-are_apart.false) _ _ (eq-eqb _ _ ((let it : (let a = c.args in (head_of a.one.now).end ≡ (head_of a.two.now).start) = sym (ap (λ (h : Head). h.end) c.head_of-g.ensures) ∙ c.if-g-h.true ∙ ap (λ (h : Head). h.start) c.head_of-h.ensures in it))) c.join_in_turn.ensures.value
    c.join_in_turn.ensures.joined_after

pub join_in_turn-requires-2 : goal.join_in_turn-requires-2
join_in_turn-requires-2 c = turned _ _ ((let it : bad_record c.args.one.now ≡ false = not-true _ (sym c.is_record.ensures ∙ not-false _ c.if-not-is_record.false-raw) in it)) ((let it : bad_record c.args.two.now ≡ false = not-true _ (sym c.is_record-2.ensures ∙ not-false _ c.if-not-is_record-2.false-raw) in it)) (sym ((let it : (let a = c.args in c.are_apart.result ≡ apart (head_of a.one.now) (head_of a.two.now)) = c.are_apart.ensures ∙ rw (c.head_of-g.ensures, c.head_of-h.ensures) in it)) ∙ c.if-are_apart.false) ((let it : (let a = c.args in (head_of a.one.now).end ≡ (head_of a.two.now).start → ⊥) = λ e. c.if-g-h.false (ap (λ (h : Head). h.end) c.head_of-g.ensures ∙ e ∙ sym (ap (λ (h : Head). h.start) c.head_of-h.ensures)) in it))

pub returns : goal.returns
returns c =
    two-first _ _ _ ((let it : bad_record c.args.one.now ≡ false = not-true _ (sym c.is_record.ensures ∙ not-false _ c.if-not-is_record.false-raw) in it)) ((let it : bad_record c.args.two.now ≡ false = not-true _ (sym c.is_record-2.ensures ∙ not-false _ c.if-not-is_record-2.false-raw) in it)) (sym ((let it : (let a = c.args in c.are_apart.result ≡ apart (head_of a.one.now) (head_of a.two.now)) = c.are_apart.ensures ∙ rw (c.head_of-g.ensures, c.head_of-h.ensures) in it)) ∙ c.if-are_apart.false) _ _ (ne_eqb _ _ ((let it : (let a = c.args in (head_of a.one.now).end ≡ (head_of a.two.now).start → ⊥) = λ e. c.if-g-h.false (ap (λ (h : Head). h.end) c.head_of-g.ensures ∙ e ∙ sym (ap (λ (h : Head). h.start) c.head_of-h.ensures)) in it))) c.join_in_turn-2.ensures.value
    c.join_in_turn-2.ensures.joined_after
