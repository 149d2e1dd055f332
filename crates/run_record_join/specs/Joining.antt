-- What two run records join to, and what `record_join` answers and leaves in the lent list.
use Rattle.std.specs.Prelude.{◌≡◌, Bool, not, cond, ◌&&◌, ◌||◌, List, ◌++◌, ℕ, eqb, length, drop}
use Rattle.refusals.specs.Request.{record_request}
use Rattle.refusals.specs.Refusal.{refusal, of_join}
use Rattle.refusals.specs.Answers.{left}
use Rattle.run_record.specs.declared.Head.{Head}
use Rattle.run_record.specs.Records.{head_bytes, record_length}
use Rattle.run_record.specs.Reading.{head_of, bad_record}

-- One range ends where the other starts.
abbrev pub follows : (earlier later : Head) → Bool
follows g h = eqb g.end h.start

-- 27: seed, samples, betas or pairs differ, or neither range ends where the other starts.
unfoldable pub apart : Head → Head → Bool
apart g h =
    not (eqb g.seed h.seed && eqb g.samples h.samples && eqb g.betas h.betas && eqb g.pairs h.pairs && (follows g h || follows h g))

-- The head of both ranges.
abbrev pub head_over : (earlier later : Head) → Head
head_over g h = record { seed = g.seed; start = g.start; end = h.end; samples = g.samples; betas = g.betas; pairs = g.pairs }

-- The head of both ranges, the rows of the earlier record, the rows of the later one.
unfoldable pub in_turn : (earlier later : List ℕ) → List ℕ
in_turn a b = head_bytes (head_over (head_of a) (head_of b)) ++ drop 32 a ++ drop 32 b

module _ (one two : List ℕ) where
  -- Which record is the earlier and which the later.
  abbrev pub earlier : List ℕ
  earlier = cond (follows (head_of one) (head_of two)) one two

  abbrev pub later : List ℕ
  later = cond (follows (head_of one) (head_of two)) two one

  abbrev pub join_of : List ℕ
  join_of = in_turn earlier later

  -- 26 of either, 27, then 11 and 12 of the joined record, for which a list of so many bytes is lent.
  abbrev pub refused_join : (joined : ℕ) → ℕ
  refused_join joined =
      let h = head_over (head_of earlier) (head_of later) in
      refusal of_join
      (record_request (record { broken = bad_record one || bad_record two; apart = apart (head_of one) (head_of two) }) h.start h.end h.samples
      (not (eqb joined (record_length h))))

  -- The answer r of a call, and the list after it.
  pub record Joined (r : ℕ) (joined joined' : List ℕ) : Type 0 where
    pub answer : r ≡ refused_join (length joined)
    pub bytes : joined' ≡ left (refused_join (length joined)) join_of joined
