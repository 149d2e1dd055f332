-- Laws of what specs/AcceptedTotals defines.
use Rattle.std.specs.Prelude.{◌≡◌, refl, Bool, true, false, cond, ◌||◌, ◌&&◌, not, List, [], ◌∷◌, ◌++◌, ◌⊎◌, ℕ, ◌-◌, ◌*◌, ◌/◌, ◌≤◌, ◌<◌, eqb, ltb, Float, length}
use Rattle.std.proofs.Common.{sym, ◌∙◌, div-lt_iff_lt-mul, le-div_iff_mul-le, zero-mul, mul-zero, arith, lt-ltb, le-ltb, ltb-false}
use Rattle.std.proofs.Math.Decide.{dec_lt}
use Rattle.limits.specs.declared.Caller.{Caller}
use Rattle.limits.specs.Callers.{over_limit}
use Rattle.limits.specs.Limits.{most_samples, tester_free}
use Rattle.refusals.specs.Edges.{kept, window_from}
use Rattle.refusals.specs.Request.{Request, Source, lent, house, enumerated, sampled, sweep_request}
use Rattle.refusals.specs.Request.{coupling_request, job_request, call_request, enumeration_request, sampling_request, signed_factors}
use Rattle.refusals.specs.Request.{bad_factor_list, too_many_chunks}
use Rattle.refusals.specs.Key.{Key}
use Rattle.refusals.specs.Refusal.{refusal, of_graph, of_job, of_couplings, of_enumeration, of_enumeration_lists, of_sampling, of_sampling_lists, housed, sourced}
use Rattle.refusals.proofs.Laws.First.{unless}
use Rattle.refusals.proofs.Laws.Later.{or_else, both-passed, refusal_in_parts, Then}
use Rattle.refusals.specs.Accepted.{Accepted, AcceptedBetas}
use Rattle.transfer_matrix.specs.Room as Room
use Rattle.refusals.proofs.Laws.Accepted.{accepted-graph}
use Rattle.refusals.specs.AcceptedJob.{buffers_refusal}
use Rattle.refusals.proofs.Laws.AcceptedJob.{behind-job, before-14, accepted_with, accepted-factors, accepted-buffers}
use Rattle.refusals.specs.AcceptedTotals.{enumeration_lists, sampling_lists, misfits, AcceptedTotals}

-- ---- in parts

pub misfits-alone : (wanted stored : ℕ) → misfits wanted stored stored ≡ not (eqb stored wanted)
misfits-alone wanted stored = twice (not (eqb stored wanted))
  where
    twice : (x : Bool) → (x || x) ≡ x
    twice true = refl
    twice false = refl

-- `couplings` asks the graph's checks, with the betas, and of its buffer
pub couplings_in_parts : (n : ℕ) (a b : List ℕ) (m betas : List Float) (misfit : Bool)
    → Then (refusal of_couplings (coupling_request n a b m betas misfit)) (refusal of_graph (job_request n 0 a b m [] [] betas)) misfit 12
couplings_in_parts n a b m betas misfit = record { is = refusal_in_parts of_graph (Key.buffers ∷ []) (coupling_request n a b m betas misfit) refl }

module _ (caller : Caller) (A : Room.Arrangement) (n floor : ℕ) (a b : List ℕ) (m : List Float) (us vs : List ℕ) (betas list : List Float) (count : ℕ) where
  -- totals ask a job's checks, then of the configurations and the lists, then of every Z
  pub enumeration_in_parts : (source : Source) (free most : ℕ) (misfit : Bool) (work : ℕ) (unsound : Bool)
      → refusal (sourced source of_enumeration) (sweep_request caller A n floor a b m us vs betas (enumerated free most) list count misfit work unsound)
      ≡ or_else (refusal of_job (call_request caller n floor a b m us vs betas))
      (or_else (enumeration_lists source caller A n (window_from floor a b m) (length (kept a b m)) us vs list count free most misfit work) (cond unsound 14 0))
  enumeration_in_parts source free most misfit work unsound = go source
    where
      r : Request
      r = sweep_request caller A n floor a b m us vs betas (enumerated free most) list count misfit work unsound

      go : (s : Source) → refusal (sourced s of_enumeration) r ≡ or_else (refusal of_job (call_request caller n floor a b m us vs betas))
          (or_else (enumeration_lists s caller A n (window_from floor a b m) (length (kept a b m)) us vs list count free most misfit work) (cond unsound 14 0))
      go lent = behind-job r of_enumeration_lists refl refl
      go house = behind-job r (housed of_enumeration_lists) refl refl

  pub sampling_in_parts : (source : Source) (free start end samples : ℕ) (misfit : Bool) (work : ℕ) (unsound : Bool)
      → refusal (sourced source of_sampling) (sweep_request caller A n floor a b m us vs betas (sampled free start end samples) list count misfit work unsound)
      ≡ or_else (refusal of_job (call_request caller n floor a b m us vs betas))
      (or_else (sampling_lists source A n (window_from floor a b m) (length (kept a b m)) us vs list count start end samples misfit work) (cond unsound 14 0))
  sampling_in_parts source free start end samples misfit work unsound = go source
    where
      r : Request
      r = sweep_request caller A n floor a b m us vs betas (sampled free start end samples) list count misfit work unsound

      go : (s : Source) → refusal (sourced s of_sampling) r ≡ or_else (refusal of_job (call_request caller n floor a b m us vs betas))
          (or_else (sampling_lists s A n (window_from floor a b m) (length (kept a b m)) us vs list count start end samples misfit work) (cond unsound 14 0))
      go lent = behind-job r of_sampling_lists refl refl
      go house = behind-job r (housed of_sampling_lists) refl refl

-- ---- chunks times samples, without their product

pub chunks-over : (start end samples : ℕ) → start < end → 0 < samples
    → ltb (most_samples / samples) (end - start) ≡ too_many_chunks start end samples
chunks-over start end samples l p = rw (lt-ltb start end l) (go (dec_lt (most_samples / samples) (end - start)))
  where
    go : Dec (most_samples / samples < end - start) → ltb (most_samples / samples) (end - start) ≡ ltb most_samples ((end - start) * samples)
    go (yes h) = lt-ltb _ _ h ∙ sym (lt-ltb _ _ ((div-lt_iff_lt-mul p).0 h))
    go (no h) =
        let most : end - start ≤ most_samples / samples = omega arith in
        le-ltb _ _ most ∙ sym (le-ltb _ _ ((le-div_iff_mul-le p).0 most))

-- of no chunk, or chunks without samples, there are never too many
pub no_chunks : (start end samples : ℕ) → end ≤ start → false ≡ too_many_chunks start end samples
no_chunks start end samples l = rw (le-ltb start end l)

pub no_samples : (start end samples : ℕ) → samples ≡ 0 → false ≡ too_many_chunks start end samples
no_samples start end samples z =
    let e : (end - start) * samples ≡ 0 = rw (z, mul-zero (end - start)) in
    rw (e, and_none (ltb start end))
  where
    and_none : (x : Bool) → (x && false) ≡ false
    and_none true = refl
    and_none false = refl

pub few-samples : (start end samples : ℕ) → too_many_chunks start end samples ≡ false → (end - start) * samples ≤ most_samples
few-samples start end samples h = go (dec_lt start end)
  where
    go : Dec (start < end) → (end - start) * samples ≤ most_samples
    go (yes l) = ltb-false most_samples ((end - start) * samples) (rw (lt-ltb start end l) at h)
    go (no l) =
        let z : end - start ≡ 0 = omega arith in
        rw (z, zero-mul samples) (omega arith)

-- ---- what has passed where none refuses

pub accepted-couplings : (n : ℕ) (a b : List ℕ) (m betas : List Float) (misfit : Bool)
    → refusal of_couplings (coupling_request n a b m betas misfit) ≡ 0 → Accepted n a b m × AcceptedBetas betas × (misfit ≡ false)
accepted-couplings n a b m betas misfit h =
    let parts = both-passed (refusal of_graph (job_request n 0 a b m [] [] betas)) (cond misfit 12 0)
    (sym (couplings_in_parts n a b m betas misfit).is ∙ h) in
    let graph = accepted-graph n 0 a b m [] [] betas parts.0 in
    (graph.0, graph.1.betas_pass, (unless misfit {k = 12} (omega arith) parts.1).0)

module _ (caller : Caller) (A : Room.Arrangement) (n floor : ℕ) (a b : List ℕ) (m : List Float) (us vs : List ℕ) (betas factors : List Float) where
  accepted_totals : (misfit : Bool) (work : ℕ) → refusal of_job (call_request caller n floor a b m us vs betas) ≡ 0
      → bad_factor_list factors (signed_factors (length betas) (length (kept a b m))) ≡ false
      → buffers_refusal A n (window_from floor a b m) (length (kept a b m)) us vs misfit work ≡ 0
      → AcceptedTotals A n floor a b m us vs betas factors misfit work
  accepted_totals misfit work j f h =
      let job = accepted_with caller n floor a b m us vs betas j in
      let all = accepted-factors factors _ f in
      let buffers = accepted-buffers A n (window_from floor a b m) (length (kept a b m)) us vs misfit work h in
      record {
        job = job.0;
        betas_pass = job.1;
        factor-count = all.0;
        factors_pass = all.1;
        fitting = buffers.0;
        enough = buffers.1;
      }

  -- A call that is accepted, or refused by 14 alone, has passed all before it: and the free edges are few enough,
  pub accepted_enumeration : (free most : ℕ) (misfit : Bool) (work : ℕ) (unsound : Bool) (r : ℕ)
      → refusal of_enumeration (enumeration_request caller A n floor a b m us vs betas factors free most misfit work unsound) ≡ r → (r ≡ 0) ⊎ (r ≡ 14)
      → AcceptedTotals A n floor a b m us vs betas factors misfit work × (free ≤ most)
  accepted_enumeration free most misfit work unsound r e h =
      let q = enumeration_request caller A n floor a b m us vs betas factors free most misfit work unsound in
      let z = before-14 (of_job ++ of_enumeration_lists) q r refl refl e h in
      let lists = enumeration_lists lent caller A n (window_from floor a b m) (length (kept a b m)) us vs factors (signed_factors (length betas) (length (kept a b m))) free most misfit work in
      let parts = both-passed (refusal of_job (call_request caller n floor a b m us vs betas)) lists
      (sym (refusal_in_parts of_job of_enumeration_lists q refl) ∙ z) in
      let t9 = unless (ltb most free) (omega arith) parts.1 in
      let t22 = unless (over_limit caller tester_free free) (omega arith) t9.1 in
      let t10 = unless (bad_factor_list factors (signed_factors (length betas) (length (kept a b m)))) (omega arith) t22.1 in
      (accepted_totals misfit work parts.0 t10.0 t10.1, ltb-false most free t9.0)

  -- or the samples.
  pub accepted_sampling : (free start end samples : ℕ) (misfit : Bool) (work : ℕ) (unsound : Bool) (r : ℕ)
      → refusal of_sampling (sampling_request caller A n floor a b m us vs betas factors free start end samples misfit work unsound) ≡ r → (r ≡ 0) ⊎ (r ≡ 14)
      → AcceptedTotals A n floor a b m us vs betas factors misfit work × ((end - start) * samples ≤ most_samples)
  accepted_sampling free start end samples misfit work unsound r e h =
      let q = sampling_request caller A n floor a b m us vs betas factors free start end samples misfit work unsound in
      let z = before-14 (of_job ++ of_sampling_lists) q r refl refl e h in
      let lists = sampling_lists lent A n (window_from floor a b m) (length (kept a b m)) us vs factors (signed_factors (length betas) (length (kept a b m))) start end samples misfit work in
      let parts = both-passed (refusal of_job (call_request caller n floor a b m us vs betas)) lists
      (sym (refusal_in_parts of_job of_sampling_lists q refl) ∙ z) in
      let t10 = unless (bad_factor_list factors (signed_factors (length betas) (length (kept a b m)))) (omega arith) parts.1 in
      let t11 = unless (too_many_chunks start end samples) (omega arith) t10.1 in
      (accepted_totals misfit work parts.0 t10.0 t11.1, few-samples start end samples t11.0)
