-- What joining two run records gives.
use Rattle.std.specs.Prelude.{◌≡◌, Bool, true, false, cond, ℕ, zero, suc, ◌+◌, ◌<◌, eqb, length}
use Rattle.std.proofs.Math.Path.{refl, sym, ap}
use Rattle.std.proofs.Common.{◌∙◌, arith, eq-eqb, le-ltb}
use mathlib.Core.List.{List, ◌++◌, append_assoc, append-nil}
use Rattle.std.proofs.lemmas.Bool.{eqb-false}
use Rattle.std.proofs.Math.ListN.{drop}
use Rattle.std.proofs.Math.Seq.{drop_at}
use Rattle.list_laws.proofs.Laws.Search.{or-false}
use Rattle.little_endian.specs.Words.{Bytes}
use Rattle.refusals.specs.Answers.{left}
use Rattle.run_record.specs.declared.Head.{Head}
use Rattle.run_record.specs.Records.{head_bytes, record_length, chunks_of, per_chunk}
use Rattle.run_record.specs.Reading.{head_of, squares_in, fourths_in, bad_record}
use Rattle.run_record.proofs.Laws.Cases.{passed}
use Rattle.run_record_bytes.proofs.Laws.Fields.{head-length}
use Rattle.run_record_bytes.proofs.Theorems.{head_as_written, squares_as_written, fourths_as_written, described-is-accepted}
use Rattle.run_record_join.specs.Joining.{follows, apart, head_over, in_turn, earlier, later, join_of, refused_join, Joined}
use Rattle.run_record_join.proofs.Laws.Copying.{head_and_rows}
use Rattle.run_record_join.proofs.Laws.Cases.{together, otherwise, first_ends}
use Rattle.demands_records.specs.Runs.{Joins, chain}
use Rattle.demands_records.proofs.Laws.Joint.{joint, joint_squares, joint_fourths, joint-is, joint-described, both-chunks}
use Rattle.demands_records.proofs.Laws.Accepted.{passes, joins, apart-turned, or_turned, both_empty, same_head, no_rows_behind}

-- ---- Joining does not depend on the order of handing in:

module _ (one two : List ℕ) (b₁ : Bytes one) (b₂ : Bytes two) where
  turned_round : bad_record one ≡ false → bad_record two ≡ false → apart (head_of one) (head_of two) ≡ false
      → (earlier one two ≡ earlier two one) × (later one two ≡ later two one)
  turned_round p q n = go (eqb (head_of one).end (head_of two).start) (eqb (head_of two).end (head_of one).start) refl refl
    where
      go : (u v : Bool) → eqb (head_of one).end (head_of two).start ≡ u → eqb (head_of two).end (head_of one).start ≡ v
          → (cond (eqb (head_of one).end (head_of two).start) one two ≡ cond (eqb (head_of two).end (head_of one).start) two one)
          × (cond (eqb (head_of one).end (head_of two).start) two one ≡ cond (eqb (head_of two).end (head_of one).start) one two)
      go true true e f = let s = both_empty one two b₁ b₂ p q n e f in rw (e, f) (s, sym s)
      go true false e f = rw (e, f) (refl, refl)
      go false true e f = rw (e, f) (refl, refl)
      go false false e f = absurd (eqb-false _ _ f (otherwise (head_of one) (head_of two) (together (head_of one) (head_of two) n) e))

  -- the same call is refused, by the same number, or accepted,
  pub same-refusal : (n : ℕ) → refused_join one two n ≡ refused_join two one n
  same-refusal n = go (bad_record one) (bad_record two) (apart (head_of one) (head_of two)) refl refl refl
    where
      go : (u v w : Bool) → bad_record one ≡ u → bad_record two ≡ v → apart (head_of one) (head_of two) ≡ w → refused_join one two n ≡ refused_join two one n
      go true v w e f g = rw (e, or_turned (bad_record two) true)
      go false true w e f g = rw (e, f)
      go false false true e f g = rw (e, f, g, sym (apart-turned (head_of one) (head_of two)) ∙ g)
      go false false false e f g =
          let t = turned_round e f g in
          rw (e, f, g, sym (apart-turned (head_of one) (head_of two)) ∙ g, t.0, t.1)

  -- and an accepted one leaves the same bytes.
  pub same_bytes : (n : ℕ) → refused_join one two n ≡ 0 → join_of one two ≡ join_of two one
  same_bytes n a =
      let x = passes one two n a in
      let y = or-false (bad_record one) (bad_record two) x.0 in
      let t = turned_round y.0 y.1 x.1 in
      rw (t.0, t.1)

  -- So two calls that hand in the two records in either order, with lists that are alike, return the same and leave the same.
  pub handed_in_either_order : (r s : ℕ) (joined joined' joined'' : List ℕ) → Joined one two r joined joined' → Joined two one s joined joined''
      → (r ≡ s) × (joined' ≡ joined'')
  handed_in_either_order r s joined joined' joined'' x y =
      let e = same-refusal (length joined) in
      (x.answer ∙ e ∙ sym y.answer, x.bytes ∙ go (refused_join one two (length joined)) refl ∙ ap (λ (k : ℕ). left k (join_of two one) joined) e ∙ sym y.bytes)
    where
      go : (k : ℕ) → refused_join one two (length joined) ≡ k → left (refused_join one two (length joined)) (join_of one two) joined ≡ left (refused_join one two (length joined)) (join_of two one) joined
      go zero e = rw e (same_bytes (length joined) e)
      go (suc k) e = rw e

-- ---- Two records in the order of their ranges

module _ (a b : List ℕ) (p : Bytes a) (q : Bytes b) (j : Joins a b) where
  -- join to what 26 lets pass,
  pub in_turn_passes : bad_record (in_turn a b) ≡ false
  in_turn_passes =
      ap bad_record (joint-is a b p q j.turns)
      ∙ described-is-accepted (joint a b) (joint_squares a b) (joint_fourths a b) (joint-described a b p q j.turns j.samples j.few)

  -- whose head is that of both ranges,
  pub in_turn_head : head_of (in_turn a b) ≡ head_over (head_of a) (head_of b)
  in_turn_head =
      ap head_of (joint-is a b p q j.turns)
      ∙ head_as_written (joint a b) (joint_squares a b) (joint_fourths a b) (joint-described a b p q j.turns j.samples j.few)

  -- whose rows are those of the one, then those of the other,
  pub in_turn_rows : drop 32 (in_turn a b) ≡ drop 32 a ++ drop 32 b
  unfolding in_turn
  in_turn_rows =
      ap (drop 32) (append_assoc (head_bytes (joint a b)) (drop 32 a) (drop 32 b))
      ∙ drop_at (head_bytes (joint a b)) (drop 32 a ++ drop 32 b) 32 (head-length (joint a b))

  -- so whose sums are the two records' sums, chunk by chunk: of every chunk, beta and pair,
  module _ (c k : ℕ) (i : c < chunks_of (head_of a) + chunks_of (head_of b)) (l : k < per_chunk (head_of a)) where
    pub in_turn_squares : squares_in (in_turn a b) c k ≡ chain (chunks_of (head_of a)) (squares_in a) (squares_in b) c k
    in_turn_squares =
        ap (λ (x : List ℕ). squares_in x c k) (joint-is a b p q j.turns)
        ∙ squares_as_written (joint a b) (joint_squares a b) (joint_fourths a b) (joint-described a b p q j.turns j.samples j.few) c k
        (omega (arith, both-chunks a b p q j.turns)) l

    pub in_turn_fourths : fourths_in (in_turn a b) c k ≡ chain (chunks_of (head_of a)) (fourths_in a) (fourths_in b) c k
    in_turn_fourths =
        ap (λ (x : List ℕ). fourths_in x c k) (joint-is a b p q j.turns)
        ∙ fourths_as_written (joint a b) (joint_squares a b) (joint_fourths a b) (joint-described a b p q j.turns j.samples j.few) c k
        (omega (arith, both-chunks a b p q j.turns)) l

-- ---- An accepted call joins the earlier record to the later one.

module _ (one two : List ℕ) (b₁ : Bytes one) (b₂ : Bytes two) (n : ℕ) (accepted : refused_join one two n ≡ 0) where
  pub accepted-joins : Joins (earlier one two) (later one two)
  accepted-joins = joins one two n accepted

  either_bytes : (u : Bool) → Bytes (cond u one two) × Bytes (cond u two one)
  either_bytes true = (b₁, b₂)
  either_bytes false = (b₂, b₁)

  -- What it leaves passes 26,
  pub joined-passes : bad_record (join_of one two) ≡ false
  joined-passes = let b = either_bytes (follows (head_of one) (head_of two)) in in_turn_passes (earlier one two) (later one two) b.0 b.1 accepted-joins

  -- and has the head of both ranges.
  pub joined-head : head_of (join_of one two) ≡ head_over (head_of (earlier one two)) (head_of (later one two))
  joined-head = let b = either_bytes (follows (head_of one) (head_of two)) in in_turn_head (earlier one two) (later one two) b.0 b.1 accepted-joins

-- ---- Joining three in turn gives the same bytes in either way:

regrouped : (u x y z : List ℕ) → u ++ (x ++ y) ++ z ≡ u ++ x ++ (y ++ z)
regrouped u x y z = simp append_assoc

pub associative : (a b c : List ℕ) → Bytes a → Bytes b → Bytes c → Joins a b → Joins b c → in_turn (in_turn a b) c ≡ in_turn a (in_turn b c)
unfolding in_turn
associative a b c p q r j k =
    let H : Head = head_over (head_of a) (head_of c) in
    let x : head_bytes (head_over (head_of (in_turn a b)) (head_of c)) ≡ head_bytes H = ap (λ (h : Head). head_bytes (head_over h (head_of c))) (in_turn_head a b p q j) in
    let y : head_bytes (head_over (head_of a) (head_of (in_turn b c))) ≡ head_bytes H = ap (λ (h : Head). head_bytes (head_over (head_of a) h)) (in_turn_head b c q r k) in
    ap (λ (l : List ℕ). l ++ drop 32 (in_turn a b) ++ drop 32 c) x
    ∙ ap (λ (l : List ℕ). head_bytes H ++ l ++ drop 32 c) (in_turn_rows a b p q j)
    ∙ regrouped (head_bytes H) (drop 32 a) (drop 32 b) (drop 32 c)
    ∙ ap (λ (l : List ℕ). head_bytes H ++ drop 32 a ++ l) (sym (in_turn_rows b c q r k))
    ∙ ap (λ (l : List ℕ). l ++ drop 32 a ++ drop 32 (in_turn b c)) (sym y)

-- ---- Empty ranges

module _ (a b : List ℕ) (p : Bytes a) (q : Bytes b) (j : Joins a b) where
  -- An empty range before another leaves that as it is,
  pub empty_first : chunks_of (head_of a) ≡ 0 → in_turn a b ≡ b
  unfolding in_turn
  empty_first z =
      let t = j.turns in
      let r = (passed a t.first).good.range in
      let s : (head_of a).start ≡ (head_of b).start = omega (arith, t.meet) in
      let e = same_head (head_over (head_of a) (head_of b)) (head_of b) j.seed s refl j.samples t.betas t.pairs in
      ap (λ (h : Head). head_bytes h ++ drop 32 a ++ drop 32 b) e
      ∙ ap (λ (l : List ℕ). head_bytes (head_of b) ++ l ++ drop 32 b) (no_rows_behind a t.first z)
      ∙ ap (λ (l : List ℕ). l ++ drop 32 b) (append-nil (head_bytes (head_of b)))
      ∙ sym (head_and_rows b q t.second)

  -- and so does one behind it.
  pub empty_last : chunks_of (head_of b) ≡ 0 → in_turn a b ≡ a
  unfolding in_turn
  empty_last z =
      let t = j.turns in
      let r = (passed b t.second).good.range in
      let s : (head_of b).end ≡ (head_of a).end = omega (arith, t.meet) in
      let e = same_head (head_over (head_of a) (head_of b)) (head_of a) refl refl s refl refl refl in
      ap (λ (h : Head). head_bytes h ++ drop 32 a ++ drop 32 b) e
      ∙ ap (λ (l : List ℕ). head_bytes (head_of a) ++ drop 32 a ++ l) (no_rows_behind b t.second z)
      ∙ append-nil (head_bytes (head_of a) ++ drop 32 a)
      ∙ sym (head_and_rows a p t.first)

-- Two equal empty ones join to themselves, whatever list fits one of them.
module _ (a : List ℕ) (p : Bytes a) (good : bad_record a ≡ false) (z : chunks_of (head_of a) ≡ 0) where
  meets : (head_of a).end ≡ (head_of a).start
  meets = let r = (passed a good).good.range in omega arith

  pub empty_twice : refused_join a a (length a) ≡ 0
  empty_twice =
      rw (
        good,
        sym (first_ends (head_of a) (head_of a) refl refl refl refl meets),
        eq-eqb (head_of a).end (head_of a).start meets,
        le-ltb (head_of a).start (head_of a).end (omega (arith, meets)),
        eq-eqb (length a) (record_length (head_of a)) (passed a good).exact,
      )

  pub empty_with_itself : join_of a a ≡ a
  empty_with_itself =
      let j = joins a a (length a) empty_twice in
      rw (eq-eqb (head_of a).end (head_of a).start meets) (empty_last a a p p (rw (eq-eqb (head_of a).end (head_of a).start meets) at j) z)
