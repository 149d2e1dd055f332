-- What an accepted join has passed.
use Rattle.std.specs.Prelude.{◌≡◌, refl, Bool, true, false, not, cond, ◌||◌, List, [], ◌++◌, ℕ, ◌*◌, ◌-◌, ◌≤◌, eqb, length, drop}
use Rattle.std.proofs.Common.{sym, ap, ◌∙◌, arith, eqb-true, eq-eqb, ne_eqb, drop_of_length-le}
use Rattle.std.proofs.lemmas.Bool.{eqb-false}
use Rattle.limits.specs.Limits.{most_samples}
use Rattle.list_laws.proofs.Laws.Search.{or-false}
use Rattle.little_endian.specs.Words.{Bytes}
use Rattle.refusals.specs.Request.{too_many_chunks}
use Rattle.refusals.proofs.Laws.AcceptedTotals.{few-samples}
use Rattle.run_record.specs.declared.Head.{Head}
use Rattle.run_record.specs.Records.{head_bytes, record_length, chunks_of}
use Rattle.run_record.specs.Reading.{head_of, bad_record}
use Rattle.run_record.proofs.Laws.Cases.{passed}
use Rattle.run_record_join.specs.Joining.{follows, apart, head_over, earlier, later, refused_join}
use Rattle.run_record_join.proofs.Laws.Copying.{head_and_rows}
use Rattle.demands_records.specs.Runs.{Joins}
use Rattle.run_record_join.proofs.Laws.Cases.{Together, together, in-turn, turned}

none_of_four : (x y z w : Bool) → ◌≡◌ {A = ℕ} (cond x 26 (cond y 27 (cond z 11 (cond w 12 0)))) 0 → (x ≡ false) × (y ≡ false) × (z ≡ false) × (w ≡ false)
none_of_four true y z w h = absurd (omega arith)
none_of_four false true z w h = absurd (omega arith)
none_of_four false false true w h = absurd (omega arith)
none_of_four false false false true h = absurd (omega arith)
none_of_four false false false false h = (refl, refl, refl, refl)

module _ (one two : List ℕ) where
  abbrev over : Head
  over = head_over (head_of (earlier one two)) (head_of (later one two))

  -- none of the four checks fits
  pub passes : (n : ℕ) → refused_join one two n ≡ 0
      → ((bad_record one || bad_record two) ≡ false) × (apart (head_of one) (head_of two) ≡ false) × (too_many_chunks over.start over.end over.samples ≡ false)
      × (not (eqb n (record_length over)) ≡ false)
  passes n e =
      none_of_four (bad_record one || bad_record two) (apart (head_of one) (head_of two)) (too_many_chunks over.start over.end over.samples) (not (eqb n (record_length over))) e

  pub joins : (n : ℕ) → refused_join one two n ≡ 0 → Joins (earlier one two) (later one two)
  joins n e =
      let x = passes n e in
      let y = or-false (bad_record one) (bad_record two) x.0 in
      let t = together (head_of one) (head_of two) x.1 in
      go (eqb (head_of one).end (head_of two).start) refl y.0 y.1 x.1 t (few-samples _ _ _ x.2)
    where
      go : (u : Bool) → eqb (head_of one).end (head_of two).start ≡ u → bad_record one ≡ false → bad_record two ≡ false → apart (head_of one) (head_of two) ≡ false
          → Together (head_of one) (head_of two) → (over.end - over.start) * over.samples ≤ most_samples → Joins (earlier one two) (later one two)
      go true z p q n t few =
          rw z (record { turns = in-turn one two p q n (eqb-true _ _ z); seed = t.seed; samples = t.samples; few = rw z at few })
      go false z p q n t few =
          rw z (record { turns = turned one two p q n (eqb-false _ _ z); seed = sym t.seed; samples = sym t.samples; few = rw z at few })

-- ---- in either order

eqb_turned : (a b : ℕ) → eqb a b ≡ eqb b a
eqb_turned a b = go (eqb a b) refl
  where
    go : (t : Bool) → eqb a b ≡ t → eqb a b ≡ eqb b a
    go true e = e ∙ sym (eq-eqb b a (sym (eqb-true a b e)))
    go false e = e ∙ sym (ne_eqb b a (λ q. eqb-false a b e (sym q)))

pub or_turned : (a b : Bool) → (a || b) ≡ (b || a)
or_turned true true = refl
or_turned true false = refl
or_turned false true = refl
or_turned false false = refl

pub apart-turned : (g h : Head) → apart g h ≡ apart h g
unfolding apart
apart-turned g h =
    rw (
      eqb_turned g.seed h.seed,
      eqb_turned g.samples h.samples,
      eqb_turned g.betas h.betas,
      eqb_turned g.pairs h.pairs,
      or_turned (eqb g.end h.start) (eqb h.end g.start),
    )

pub same_head : (g h : Head) → g.seed ≡ h.seed → g.start ≡ h.start → g.end ≡ h.end → g.samples ≡ h.samples → g.betas ≡ h.betas → g.pairs ≡ h.pairs → g ≡ h
same_head g h a b c d e f =
    let x : ◌≡◌ {A = Head} (record { seed = g.seed; start = g.start; end = g.end; samples = g.samples; betas = g.betas; pairs = g.pairs })
    (record { seed = h.seed; start = h.start; end = h.end; samples = h.samples; betas = h.betas; pairs = h.pairs }) = rw (a, b, c, d, e, f) in
    x

-- a record of no chunk has no rows
pub no_rows_behind : (a : List ℕ) → bad_record a ≡ false → chunks_of (head_of a) ≡ 0 → drop 32 a ≡ []
no_rows_behind a g z = let l : length a ≡ 32 = (passed a g).exact ∙ rw z (omega arith) in drop_of_length-le a {i = 32} (omega arith)

-- so it is its head
pub head-alone : (a : List ℕ) → Bytes a → bad_record a ≡ false → chunks_of (head_of a) ≡ 0 → a ≡ head_bytes (head_of a) ++ []
head-alone a b g z = head_and_rows a b g ∙ ap (λ (r : List ℕ). head_bytes (head_of a) ++ r) (no_rows_behind a g z)

module _ (one two : List ℕ) (b₁ : Bytes one) (b₂ : Bytes two) where
  -- ranges that meet at both ends are one empty range
  pub both_empty : bad_record one ≡ false → bad_record two ≡ false → apart (head_of one) (head_of two) ≡ false → follows (head_of one) (head_of two) ≡ true
      → follows (head_of two) (head_of one) ≡ true → one ≡ two
  both_empty p q n f g =
      let t = together (head_of one) (head_of two) n in
      let x : (head_of one).end ≡ (head_of two).start = eqb-true _ _ f in
      let y : (head_of two).end ≡ (head_of one).start = eqb-true _ _ g in
      let u = (passed one p).good.range in
      let v = (passed two q).good.range in
      let e = same_head (head_of one) (head_of two) t.seed (omega arith) (omega arith) t.samples t.betas t.pairs in
      head-alone one b₁ p (omega arith) ∙ ap (λ (h : Head). head_bytes h ++ []) e ∙ sym (head-alone two b₂ q (omega arith))
