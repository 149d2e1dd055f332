-- What an accepted call of `sample_record`, or of its house twin, wrote: the record of its run. By the source of the factors, so it is said once for both.
use Rattle.std.specs.Prelude.{◌≡◌, refl, Bool, true, false, cond, ◌&&◌, List, ℕ, ◌+◌, ◌-◌, ◌*◌, ◌≤◌, ◌<◌, ltb, Float, length}
use Rattle.std.proofs.Common.{sym, ◌∙◌, subst, mul-le-mul_right, arith, le-ltb}
use Rattle.std.proofs.Math.Path.{ap}
use Rattle.limits.specs.Limits.{most_samples, most_betas, most_pairs}
use Rattle.limits.specs.declared.Caller.TheVariants.{Desk}
use Rattle.list_laws.specs.Front.{over}
use Rattle.list_laws.specs.Search.{some}
use Rattle.list_laws.proofs.Laws.Search.{none-at, none_of}
use Rattle.refusals.specs.Edges.{kept}
use Rattle.refusals.specs.Request.{Source, sampled, sweep_request, bad_list, too_many_chunks}
use Rattle.refusals.specs.Refusal.{refusal, of_sampling, sourced}
use Rattle.refusals.specs.AcceptedJob.{AcceptedJob, buffers_refusal}
use Rattle.refusals.specs.Accepted.{AcceptedBetas}
use Rattle.refusals.proofs.Laws.First.{unless}
use Rattle.refusals.proofs.Laws.Later.{or_else, both-passed}
use Rattle.refusals.proofs.Laws.AcceptedJob.{accepted_with, accepted-buffers}
use Rattle.refusals.proofs.Laws.AcceptedTotals.{sampling_in_parts}
use Rattle.plan_layout.specs.Arrangements.{arrangement_of}
use Rattle.job_run.specs.Zeros.{zeros}
use Rattle.entry_correlations.specs.Correlations.{manner_of, cleared}
use Rattle.totals_configuration.specs.Powers.{unsound_betas}
use Rattle.totals_call.specs.Given.{Given, early, late, window, free, end}
use Rattle.totals_call.specs.Jobs.{job_sampled}
use Rattle.totals_call.specs.Calls.{unsound_drawn}
use Rattle.run_record.specs.Records.{record_length}
use Rattle.record_checks.specs.Recording.{other_length}
use Rattle.record_checks.proofs.Laws.Parts.{Writable, recording_passed}
use Rattle.record_call.specs.Calls.{settled_bytes, RecordedBy, head_for, record_for, refused_recording_by}
use Rattle.record_call.proofs.Laws.Calling.{record_parts}
use Rattle.record_call.proofs.Laws.Entering.{fits_record}

module _ {g : Given} {seed from to samples : ℕ} {source : Source} {list : List Float} {count : ℕ} {bytes bytes' : List ℕ} {work work' : List Float}
    (call : RecordedBy g seed from to samples source list count 0 bytes bytes' work work') where
  none-refused : refused_recording_by g seed from to samples source list count (length bytes) (length work) ≡ 0
  none-refused = sym call.call.answer

  -- Exact: the bytes are the record of the run, of its exact length, and the room is +0.0.
  pub record_is : bytes' ≡ record_for g seed from to samples
  unfolding settled_bytes
  record_is = call.call.bytes_are ∙ ap (λ (k : ℕ). settled_bytes k (record_for g seed from to samples) bytes) none-refused

  pub room-is : work' ≡ over (zeros (end g)) work
  unfolding cleared
  room-is = call.call.memory ∙ ap (λ (k : ℕ). cleared k (end g) work) none-refused

  -- ---- what it passed

  early-passed : ((record_parts g seed from to samples source list count (length bytes) (length work)).early ≡ 0)
      × (or_else (record_parts g seed from to samples source list count (length bytes) (length work)).lists (cond (unsound_drawn g seed from to samples) 14 0) ≡ 0)
  early-passed = both-passed _ _ (sym (record_parts g seed from to samples source list count (length bytes) (length work)).whole ∙ none-refused)

  lists-passed : ((record_parts g seed from to samples source list count (length bytes) (length work)).lists ≡ 0) × (◌≡◌ {A = ℕ} (cond (unsound_drawn g seed from to samples) 14 0) 0)
  lists-passed = both-passed _ _ early-passed.1

  facts : (bad_list source list count ≡ false) × Writable from to samples
      × (buffers_refusal (arrangement_of g.arrangement) g.n (window g) (length (kept g.a g.b g.m)) g.us g.vs (other_length (head_for g seed from to samples) (length bytes)) (length work) ≡ 0)
  facts =
      recording_passed source (arrangement_of g.arrangement) g.n (window g) (length (kept g.a g.b g.m)) g.us g.vs list count from to samples
      (other_length (head_for g seed from to samples) (length bytes)) (length work) lists-passed.0

  buffers : (other_length (head_for g seed from to samples) (length bytes) ≡ false) × (end g ≤ length work)
  buffers =
      accepted-buffers (arrangement_of g.arrangement) g.n (window g) (length (kept g.a g.b g.m)) g.us g.vs
      (other_length (head_for g seed from to samples) (length bytes)) (length work) facts.2

  pub length-is : length bytes ≡ record_length (head_for g seed from to samples)
  length-is = fits_record (head_for g seed from to samples) (length bytes) buffers.0

  pub roomy : end g ≤ length work
  roomy = buffers.1

  job : AcceptedJob g.n g.floor g.a g.b g.m g.us g.vs × AcceptedBetas g.betas
  job = accepted_with Desk g.n g.floor g.a g.b g.m g.us g.vs g.betas early-passed.0

  -- The head's numbers keep their limits,
  pub range-is : Writable from to samples
  range-is = facts.1

  pub few-betas : length g.betas ≤ most_betas
  few-betas = job.1.few

  pub few-pairs : length g.us ≤ most_pairs
  few-pairs = job.0.few-pairs

  -- and every Z of the run was finite and above zero.
  pub none-unsound : unsound_drawn g seed from to samples ≡ false
  none-unsound = (unless (unsound_drawn g seed from to samples) {k = 14} {rest = 0} (omega arith) lists-passed.1).0

  -- ---- `sample` over any of its chunks, with lists that fit, is accepted too

  module _ (i e : ℕ) (u : from ≤ i) (v : i ≤ e) (w : e ≤ to) where
    part_sound : unsound_drawn g seed i e samples ≡ false
    part_sound = none_of _ (e - i) (λ h l. at h (omega arith))
      where
        bad : ℕ → Bool
        bad c = some (λ j. unsound_betas (job_sampled g.n (window g) (early g) (late g) g.factors (manner_of g.manner) seed c j) g.us g.vs (length g.betas)) samples

        at : (h : ℕ) → i + h < to → bad (i + h) ≡ false
        at h l =
            let q : from + (i + h - from) ≡ i + h = omega arith in
            subst (λ (c : ℕ). bad c ≡ false) q (none-at (λ c. bad (from + c)) (to - from) (i + h - from) (omega arith) none-unsound)

    few-drawn : too_many_chunks i e samples ≡ false
    few-drawn =
        let m : (e - i) * samples ≤ (to - from) * samples = mul-le-mul_right samples (omega arith) in
        let f = facts.1.few in
        rw (le-ltb most_samples ((e - i) * samples) (omega arith)) (none (ltb i e))
      where
        none : (t : Bool) → (t && false) ≡ false
        none true = refl
        none false = refl

    pub part-accepted : (memory : ℕ) → end g ≤ memory
        → refusal (sourced source of_sampling)
        (sweep_request Desk (arrangement_of g.arrangement) g.n g.floor g.a g.b g.m g.us g.vs g.betas (sampled (free g) i e samples) list count false memory
        (unsound_drawn g seed i e samples)) ≡ 0
    part-accepted memory r =
        sampling_in_parts Desk (arrangement_of g.arrangement) g.n g.floor g.a g.b g.m g.us g.vs g.betas list count source (free g) i e samples false memory
        (unsound_drawn g seed i e samples)
        ∙ rw (early-passed.0, facts.0, few-drawn, le-ltb memory (end g) r, part_sound)
