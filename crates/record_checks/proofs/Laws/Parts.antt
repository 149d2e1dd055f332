-- The refusal of a call that writes a run record in parts, and what has passed where none refuses.
use Rattle.std.specs.Prelude.{◌≡◌, refl, Bool, true, false, cond, List, ◌++◌, ℕ, ◌-◌, ◌*◌, ◌≤◌, ◌<◌, ltb, Float, length}
use Rattle.std.proofs.Common.{ap, ◌∙◌, arith, ltb-false}
use Rattle.limits.specs.declared.Caller.TheVariants.{Desk}
use Rattle.limits.specs.Limits.{most_samples, most_named}
use Rattle.list_laws.proofs.Laws.Search.{or-false}
use Rattle.transfer_matrix.specs.Room as Room
use Rattle.refusals.specs.Edges.{kept, window_from}
use Rattle.refusals.specs.Key.{Key}
use Rattle.refusals.specs.Request.{Request, Source, lent, house, sampled, sweep_request, call_request, bad_list, source_number, too_many_chunks, unwritable}
use Rattle.refusals.specs.Refusal.{checks, refusal, of_room, of_job, of_recording, of_recording_lists, of_sweeps, housed, sourced}
use Rattle.refusals.specs.AcceptedJob.{buffers_refusal}
use Rattle.refusals.proofs.Laws.First.{unless}
use Rattle.refusals.proofs.Laws.Later.{or_else, is_in_order, refusal_in_parts}
use Rattle.refusals.proofs.Laws.AcceptedTotals.{few-samples}
use Rattle.record_checks.specs.Recording.{recording_lists}

behind-room : (r : Request) (lists : List Key) → is_in_order checks of_room (lists ++ of_sweeps) ≡ true → is_in_order checks lists of_sweeps ≡ true
    → refusal (of_room ++ (lists ++ of_sweeps)) r ≡ or_else (refusal of_room r) (or_else (refusal lists r) (refusal of_sweeps r))
behind-room r lists o p = refusal_in_parts of_room (lists ++ of_sweeps) r o ∙ ap (or_else (refusal of_room r)) (refusal_in_parts lists of_sweeps r p)

module _ (A : Room.Arrangement) (n floor : ℕ) (a b : List ℕ) (m : List Float) (us vs : List ℕ) (betas list : List Float) (count : ℕ) where
  -- a job's checks, none of which is the tester's, then those of the lists, then of every Z
  pub recording_in_parts : (source : Source) (free start end samples : ℕ) (misfit : Bool) (work : ℕ) (unsound : Bool)
      → refusal (sourced source of_recording) (sweep_request Desk A n floor a b m us vs betas (sampled free start end samples) list count misfit work unsound)
      ≡ or_else (refusal of_job (call_request Desk n floor a b m us vs betas))
      (or_else (recording_lists source A n (window_from floor a b m) (length (kept a b m)) us vs list count start end samples misfit work) (cond unsound 14 0))
  recording_in_parts source free start end samples misfit work unsound = go source
    where
      r : Request
      r = sweep_request Desk A n floor a b m us vs betas (sampled free start end samples) list count misfit work unsound

      go : (s : Source) → refusal (sourced s of_recording) r ≡ or_else (refusal of_job (call_request Desk n floor a b m us vs betas))
          (or_else (recording_lists s A n (window_from floor a b m) (length (kept a b m)) us vs list count start end samples misfit work) (cond unsound 14 0))
      go lent = behind-room r of_recording_lists refl refl
      go house = behind-room r (housed of_recording_lists) refl refl

-- ---- where none refuses

-- a run that can be written
pub record Writable (start end samples : ℕ) : Type 0 where
  pub ordered : start ≤ end
  pub few : (end - start) * samples ≤ most_samples
  pub named : samples ≤ most_named

pub ordered_by : (start end samples : ℕ) → unwritable start end samples ≡ false → start ≤ end
ordered_by start end samples h = ltb-false end start (or-false (ltb end start) (ltb most_named samples) h).0

sourced-above : (source : Source) → 0 < source_number source
sourced-above lent = omega arith
sourced-above house = omega arith

pub recording_passed : (source : Source) (A : Room.Arrangement) (n w edges : ℕ) (us vs : List ℕ) (list : List Float) (count start end samples : ℕ) (misfit : Bool) (work : ℕ)
    → recording_lists source A n w edges us vs list count start end samples misfit work ≡ 0
    → (bad_list source list count ≡ false) × Writable start end samples × (buffers_refusal A n w edges us vs misfit work ≡ 0)
recording_passed source A n w edges us vs list count start end samples misfit work z =
    let t10 = unless (bad_list source list count) (sourced-above source) z in
    let t11 = unless (too_many_chunks start end samples) {k = 11} (omega arith) t10.1 in
    let t26 = unless (unwritable start end samples) {k = 26} (omega arith) t11.1 in
    let o = or-false (ltb end start) (ltb most_named samples) t26.0 in
    (t10.0, record { ordered = ltb-false end start o.0; few = few-samples start end samples t11.0; named = ltb-false most_named samples o.1 }, t26.1)
