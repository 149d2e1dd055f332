-- 11 and 12 in turn; then both records are written.
use native.Mathlib.Omega.{arith}
use mathlib.Core.Path.{◌≡◌, refl, sym, ap, ◌∙◌}
use mathlib.Core.Bool.{false}
use Prim.Native.Nat.{◌+◌}
use lib.ListN.{length}
use Rattle.refusals.specs.Request.{too_many_chunks}
use Rattle.run_record.specs.declared.Head.{Head}
use Rattle.run_record.specs.Reading.{head_of}
use Rattle.run_record.proofs.Laws.Cases.{passed}
use Rattle.run_record_join.specs.Turns.{written}
use Rattle.run_record_join.proofs.Laws.Copying.{joined_length, written_is}
use Rattle.run_record_join.proofs.Laws.Cases.{many-of, over-11, misfit-12, fits-0}
use Rattle.run_record_join.proofs.turns.join_in_turn.Goals as goal

pub head_of-g-requires : goal.head_of-g-requires
head_of-g-requires c = (passed _ c.requires.first).long

pub head_of-h-requires : goal.head_of-h-requires
head_of-h-requires c = (passed _ c.requires.second).long

pub returns-then-too_many_chunks : goal.returns-then-too_many_chunks
returns-then-too_many_chunks c =
    record { value = over-11 _ _ _ (many-of _ _ _ _ c.head_of-g.ensures c.head_of-h.ensures ∙ sym c.too_many_chunks.ensures ∙ c.if-too_many_chunks.true); joined_after = refl }

pub returns-then-joined-earlier : goal.returns-then-joined-earlier
returns-then-joined-earlier c =
    let p = c.requires in
    record {
      value = misfit-12 _ _ _ ((let it : (let a = c.args in
          too_many_chunks (head_of a.earlier.now).start (head_of a.later.now).end (head_of a.earlier.now).samples ≡ false) = many-of _ _ _ _ c.head_of-g.ensures c.head_of-h.ensures ∙ sym c.too_many_chunks.ensures ∙ c.if-too_many_chunks.false in it)) (λ e. omega (arith, e, joined_length _ _ p, (passed _ p.second).long));
      joined_after = refl;
    }

pub overflow_sub-later : goal.overflow_sub-later
overflow_sub-later c = omega (arith, (passed _ c.requires.second).long)

pub returns-then-joined-earlier-2 : goal.returns-then-joined-earlier-2
returns-then-joined-earlier-2 c =
    let p = c.requires in
    record {
      value = misfit-12 _ _ _ ((let it : (let a = c.args in
          too_many_chunks (head_of a.earlier.now).start (head_of a.later.now).end (head_of a.earlier.now).samples ≡ false) = many-of _ _ _ _ c.head_of-g.ensures c.head_of-h.ensures ∙ sym c.too_many_chunks.ensures ∙ c.if-too_many_chunks.false in it)) (λ e. c.if-joined-earlier-2.true (omega (arith, e, joined_length _ _ p, (passed _ p.second).long)));
      joined_after = refl;
    }

pub write_both-requires : goal.write_both-requires
write_both-requires c = ((passed _ c.requires.first).long, (passed _ c.requires.second).long, (let it : (let a = c.args in length a.joined.now + 32 ≡ length a.earlier.now + length a.later.now) = omega (arith, (passed _ c.requires.second).long) in it))

pub returns : goal.returns
returns c =
    let a = c.args in
    let p = c.requires in record {
      value = fits-0 _ _ _ ((let it : (let a = c.args in
          too_many_chunks (head_of a.earlier.now).start (head_of a.later.now).end (head_of a.earlier.now).samples ≡ false) = many-of _ _ _ _ c.head_of-g.ensures c.head_of-h.ensures ∙ sym c.too_many_chunks.ensures ∙ c.if-too_many_chunks.false in it)) (omega (arith, (let it : (let a = c.args in length a.joined.now + 32 ≡ length a.earlier.now + length a.later.now) = omega (arith, (passed _ c.requires.second).long) in it), joined_length _ _ p));
      joined_after = c.write_both.ensures ∙ ap (λ (h : Head). written a.earlier.now a.later.now h.end a.joined.now) c.head_of-h.ensures
          ∙ written_is _ _ p (λ i. (c.type_inv.earlier i).fits) a.joined.now ((let it : (let a = c.args in length a.joined.now + 32 ≡ length a.earlier.now + length a.later.now) = omega (arith, (passed _ c.requires.second).long) in it));
    }
