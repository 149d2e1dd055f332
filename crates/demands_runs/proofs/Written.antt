-- What accepted calls of `sample_record`, or of its house twin, wrote: records that 26 lets pass, whose totals are those of `sample`; and two of one job, whose ranges follow
-- one another, join to what one long call writes.
use Rattle.std.specs.Prelude.{◌≡◌, List, ℕ, ◌-◌, ◌*◌, ◌≤◌, ◌<◌, Float}
use Rattle.std.proofs.Common.{sym, ap, ◌∙◌, arith, eq-eqb}
use Rattle.limits.specs.Limits.{most_samples}
use Rattle.limits.specs.declared.Caller.TheVariants.{Desk}
use Rattle.transfer_matrix.specs.Rounded.{ieee}
use Rattle.transfer_matrix.specs.Totals.{square, fourth}
use Rattle.refusals.specs.Request.{Source}
use Rattle.plan_layout.specs.declared.Arrangement.{Arrangement}
use Rattle.entry_correlations.specs.declared.Manner.{Manner}
use Rattle.totals_call.specs.Given.{Given, sums}
use Rattle.totals_call.specs.Calls.{house_given}
use Rattle.run_record.specs.declared.Head.{Head}
use Rattle.run_record.specs.Reading.{head_of}
use Rattle.run_record_join.specs.Joining.{join_of, refused_join}
use Rattle.demands_records.specs.Runs.{Joins}
use Rattle.demands_records.proofs.Laws.Accepted.{joins}
use Rattle.record_call.specs.Calls.{RecordedBy, Recorded, HouseRecorded, lent_given, head_for, sums_for, record_for}
use Rattle.demands_recordings.specs.Written.{record_is, range-is, few-betas, few-pairs}
use Rattle.demands_recordings.proofs.Sampled.{PlainSums, chunk_plain, house_chunk_plain}
use Rattle.demands_runs.specs.OneRun.{Run, run_passes, run_head, run_squares, run_fourths, run_count, runs_join, runs-one}
use Rattle.demands_runs.specs.Written.{Words, Whole}

whole_run : (g : Given) (seed from to samples : ℕ) → Run g seed samples from to → Whole g seed from to samples (record_for g seed from to samples)
whole_run g seed from to samples d = record {
  passes = run_passes g seed samples from to d;
  squares = run_squares g seed samples from to d;
  fourths = run_fourths g seed samples from to d;
  count = run_count g seed samples from to d;
}

-- ---- By the source of the factors: sums of every chunk are such as 26 lets pass.

abbrev Plain : Given → (seed from to samples : ℕ) → Type 0
Plain g seed from to samples =
    (c k : ℕ) → c < to - from → k < sums g → PlainSums samples (sums_for g seed from to samples (square ieee) c k) (sums_for g seed from to samples (fourth ieee) c k)

module _ {g : Given} {seed from to samples : ℕ} {source : Source} {list : List Float} {count : ℕ} {bytes bytes' : List ℕ} {work work' : List Float}
    (call : RecordedBy g seed from to samples source list count 0 bytes bytes' work work') (words : Words seed to) (plain : Plain g seed from to samples) where
  run_of : Run g seed samples from to
  run_of =
      let r = range-is call in
      let n = r.named in
      record {
        seed = words.seed-fits;
        end = words.end_fits;
        named = omega arith;
        betas = few-betas call;
        pairs = few-pairs call;
        range = r.ordered;
        samples = r.few;
        sums = λ c k i l.
            let p = plain c k i l in
            record {
              double-squares = p.double-squares;
              double-fourths = p.double-fourths;
              ordered = p.ordered;
              plain_squares = p.plain_squares;
              plain_fourths = p.plain_fourths;
            };
      }

  whole_of : Whole g seed from to samples bytes'
  whole_of = rw (record_is call) (whole_run g seed from to samples run_of)

-- ---- Two runs that follow one another

-- A join of them that is accepted has at most 2^32 samples,
few-joined : (g : Given) (seed from mid to samples : ℕ) (x : Run g seed samples from mid) (y : Run g seed samples mid to) (k : ℕ)
    → refused_join (record_for g seed from mid samples) (record_for g seed mid to samples) k ≡ 0 → (to - from) * samples ≤ most_samples
few-joined g seed from mid to samples x y k accepted =
    let a : List ℕ = record_for g seed from mid samples in
    let b : List ℕ = record_for g seed mid to samples in
    let p : head_of a ≡ head_for g seed from mid samples = run_head g seed samples from mid x in
    let q : head_of b ≡ head_for g seed mid to samples = run_head g seed samples mid to y in
    let e : (head_of a).end ≡ (head_of b).start = ap (λ (h : Head). h.end) p ∙ sym (ap (λ (h : Head). h.start) q) in
    let j : Joins a b = rw (eq-eqb (head_of a).end (head_of b).start e) at (joins a b k accepted) in
    rw (p, q) at j.few

-- and gives the bytes of one long run.
one_long_run : (g : Given) (seed from mid to samples : ℕ) → Run g seed samples from mid → Run g seed samples mid to
    → join_of (record_for g seed from mid samples) (record_for g seed mid to samples) ≡ record_for g seed from to samples
one_long_run g seed from mid to samples x y =
    let e : (head_of (record_for g seed from mid samples)).end ≡ (head_of (record_for g seed mid to samples)).start =
    ap (λ (h : Head). h.end) (run_head g seed samples from mid x) ∙ sym (ap (λ (h : Head). h.start) (run_head g seed samples mid to y)) in
    rw (eq-eqb _ _ e) (runs_join g seed samples from mid to x y)

whole-joined : (g : Given) (seed from mid to samples : ℕ) (x : Run g seed samples from mid) (y : Run g seed samples mid to) (k : ℕ)
    → refused_join (record_for g seed from mid samples) (record_for g seed mid to samples) k ≡ 0
    → Whole g seed from to samples (join_of (record_for g seed from mid samples) (record_for g seed mid to samples))
whole-joined g seed from mid to samples x y k accepted =
    rw (one_long_run g seed from mid to samples x y)
    (whole_run g seed from to samples (runs-one g seed samples from mid to x y (few-joined g seed from mid to samples x y k accepted)))

earlier_words : {seed mid to : ℕ} → mid ≤ to → Words seed to → Words seed mid
earlier_words l w = record { seed-fits = w.seed-fits; end_fits = let e = w.end_fits in omega arith }

-- ---- `sample_record`

module _ {n floor : ℕ} {a b : List ℕ} {m : List Float} {us vs : List ℕ} {betas factors : List Float} {manner : Manner} where
  -- What an accepted call wrote is a record whose totals are those of `sample`.
  pub record_whole : {arrangement : Arrangement} {seed from to samples : ℕ} {bytes bytes' : List ℕ} {work work' : List Float}
      → Recorded n floor a b m us vs betas factors manner arrangement seed from to samples 0 bytes bytes' work work' → Words seed to
      → Whole (lent_given n floor a b m us vs betas factors manner arrangement) seed from to samples bytes'
  record_whole call words = whole_of call words (chunk_plain call)

  -- Two accepted calls with the same job, factors and manner, each in its arrangement, whose ranges follow one another:
  module _ {one other : Arrangement} {seed from mid to samples : ℕ} {x x' y y' : List ℕ} {work₁ work₁' work₂ work₂' : List Float}
      (first : Recorded n floor a b m us vs betas factors manner one seed from mid samples 0 x x' work₁ work₁')
      (second : Recorded n floor a b m us vs betas factors manner other seed mid to samples 0 y y' work₂ work₂') (words : Words seed to) where
    abbrev given : Given
    given = lent_given n floor a b m us vs betas factors manner one

    run₁ : Run given seed samples from mid
    run₁ = run_of first (earlier_words (range-is second).ordered words) (chunk_plain first)

    run₂ : Run given seed samples mid to
    run₂ = run_of second words (chunk_plain second)

    -- they join to the bytes that one long call writes,
    pub joined-long : join_of x' y' ≡ record_for given seed from to samples
    joined-long = rw (record_is first, record_is second) (one_long_run given seed from mid to samples run₁ run₂)

    -- whose totals are what `sample` leaves over both ranges.
    pub joined-whole : (k : ℕ) → refused_join x' y' k ≡ 0 → Whole given seed from to samples (join_of x' y')
    joined-whole = rw (record_is first, record_is second) (λ k accepted. whole-joined given seed from mid to samples run₁ run₂ k accepted)

-- ---- `house_sample_record`

module _ {n floor : ℕ} {a b : List ℕ} {m : List Float} {us vs : List ℕ} {betas : List Float} {manner : Manner} where
  pub house_record_whole : {arrangement : Arrangement} {seed from to samples : ℕ} {bytes bytes' : List ℕ} {work work' : List Float}
      → HouseRecorded n floor a b m us vs betas manner arrangement seed from to samples 0 bytes bytes' work work' → Words seed to
      → Whole (house_given n floor a b m us vs betas manner arrangement Desk) seed from to samples bytes'
  house_record_whole call words = whole_of call words (house_chunk_plain call)

  module _ {one other : Arrangement} {seed from mid to samples : ℕ} {x x' y y' : List ℕ} {work₁ work₁' work₂ work₂' : List Float}
      (first : HouseRecorded n floor a b m us vs betas manner one seed from mid samples 0 x x' work₁ work₁')
      (second : HouseRecorded n floor a b m us vs betas manner other seed mid to samples 0 y y' work₂ work₂') (words : Words seed to) where
    abbrev housed : Given
    housed = house_given n floor a b m us vs betas manner one Desk

    house₁ : Run housed seed samples from mid
    house₁ = run_of first (earlier_words (range-is second).ordered words) (house_chunk_plain first)

    house₂ : Run housed seed samples mid to
    house₂ = run_of second words (house_chunk_plain second)

    pub house-joined-long : join_of x' y' ≡ record_for housed seed from to samples
    house-joined-long = rw (record_is first, record_is second) (one_long_run housed seed from mid to samples house₁ house₂)

    pub house-joined-whole : (k : ℕ) → refused_join x' y' k ≡ 0 → Whole housed seed from to samples (join_of x' y')
    house-joined-whole = rw (record_is first, record_is second) (λ k accepted. whole-joined housed seed from mid to samples house₁ house₂ k accepted)
