-- A call that its checks pass, from the fronts of the lists that its kept edges stand in.
use Rattle.std.specs.Prelude.{◌≡◌, refl, Bool, true, false, not, List, ◌++◌, ℕ, ◌-◌, ◌*◌, ◌≤◌, ◌<◌, eqb, ltb, Float, length, take}
use Rattle.std.proofs.Common.{sym, ap, ◌∙◌, subst, mul-le-mul_right, arith, length-append, lt-ltb, ltb-false, eqb-true}
use Rattle.std.proofs.Math.Decide.{dec_lt}
use Rattle.std.proofs.Math.Seq.{take-append_seam}
use Rattle.std.proofs.lemmas.Bool.{not-false}
use Rattle.limits.specs.declared.Caller.{Caller}
use Rattle.limits.specs.Callers.{over_limit}
use Rattle.limits.specs.Limits.{tester_free}
use Rattle.list_laws.proofs.Laws.Search.{or-false}
use Rattle.forest.specs.FreeEdges.{free_count, bits_of}
use Rattle.forest.specs.Paths as Paths
use Rattle.transfer_matrix.specs.Job as Job
use Rattle.transfer_matrix.specs.Room.{Arrangement, room}
use Rattle.transfer_matrix.specs.Rounded.{ieee}
use Rattle.transfer_matrix.specs.Totals.{square, fourth}
use Rattle.refusals.specs.Edges.{kept, window_from, kept_early, kept_late}
use Rattle.refusals.specs.Request.{Source, lent, bad_factor_list, signed_factors, too_many_chunks}
use Rattle.refusals.proofs.Laws.First.{unless}
use Rattle.refusals.specs.AcceptedJob.{buffers_refusal}
use Rattle.refusals.proofs.Laws.AcceptedJob.{accepted-factors, accepted-buffers}
use Rattle.refusals.specs.AcceptedTotals.{misfits, enumeration_lists, sampling_lists}
use Rattle.refusals.proofs.Laws.AcceptedTotals.{misfits-alone, few-samples}
use Rattle.plan_steps.specs.Edges.{Edges}
use Rattle.kept_edges.proofs.Laws.Fronts.{front-early, front-late, early-part}
use Rattle.job_checks.specs.Checked.{ReadyJob}
use Rattle.job_checks.proofs.Laws.Plannable.{edge_count, plannable}
use Rattle.totals_configuration.specs.Powers.{correlation_at}
use Rattle.totals_chunks.specs.declared.Chunks.{Chunks}
use Rattle.totals_chunks.specs.Totals.{all_chunks, drawn_chunks}
use Rattle.totals_chunks.proofs.Laws.Blocks.{all-unsound, all_totals, all_fit}
use Rattle.totals_call.specs.Jobs.{job_enumerated, unsound_enumeration, unsound_in, enumerated_totals, totals_in}
use Rattle.totals_call.specs.Finished.{Passed, Numbered, Finished, TotalsAre, StoredAre}
use Rattle.totals_call.proofs.Laws.Signing.{as_long}

-- a sum for each beta and pair
pub few-products : (betas pairs : ℕ) → betas ≤ 64 → pairs ≤ 256 → betas * pairs ≤ 16384
few-products betas pairs b p = let h : betas * pairs ≤ 64 * pairs = mul-le-mul_right pairs b in omega arith

-- the edges that a plan is of are edges that a forest spans
pub joins : {early late : List ℕ} {n w : ℕ} → Edges early late n w → Paths.Edges n early late
joins g = record {
  paired = sym g.matched;
  early-below = λ e l. omega (arith, g.ordered e l, g.inside e l);
  late_below = λ e l. g.inside e l;
}

-- a list that was filled in the front of a longer one
pub front_fits : {k : ℕ} (xs ys : List ℕ) → length xs ≡ k → k ≤ length (xs ++ ys)
front_fits xs ys e = omega (arith, length-append xs ys)

pub front-is : {k : ℕ} (xs ys : List ℕ) → length xs ≡ k → take k (xs ++ ys) ≡ xs
front-is xs ys e = rw (← e) (take-append_seam xs ys)

-- both buffers are of the length that is wanted
pub fits_both : (wanted squares fourths : ℕ) → misfits wanted squares fourths ≡ false → (squares ≡ wanted) × (fourths ≡ wanted)
fits_both wanted squares fourths h =
    let o = or-false (not (eqb squares wanted)) (not (eqb fourths wanted)) h in
    (eqb-true squares wanted (not-false _ o.0), eqb-true fourths wanted (not-false _ o.1))

-- one result list of the length that is wanted, which is known where free edges are few enough
pub stored-misfit : (source : Source) (caller : Caller) (A : Arrangement) (n w k : ℕ) (us vs : List ℕ) (list : List Float) (count free wanted wanted' stored work : ℕ) → (free ≤ 24 → wanted ≡ wanted')
    → enumeration_lists source caller A n w k us vs list count free 24 (misfits wanted stored stored) work
    ≡ enumeration_lists source caller A n w k us vs list count free 24 (not (eqb stored wanted')) work
stored-misfit source caller A n w k us vs list count free wanted wanted' stored work h = go (dec_lt 24 free)
  where
    go : Dec (24 < free) → enumeration_lists source caller A n w k us vs list count free 24 (misfits wanted stored stored) work
        ≡ enumeration_lists source caller A n w k us vs list count free 24 (not (eqb stored wanted')) work
    go (yes l) = rw (lt-ltb 24 free l)
    go (no l) =
        ap (λ (t : Bool). enumeration_lists source caller A n w k us vs list count free 24 t work)
        (misfits-alone wanted stored ∙ ap (λ (j : ℕ). not (eqb stored j)) (h (omega arith)))

module _ {n floor : ℕ} {a b : List ℕ} {m : List Float} {us vs : List ℕ} {k w : ℕ} {early early' late late' : List ℕ} {mag mag' : List Float}
    (g : ReadyJob n floor a b m us vs k w early early' late late' mag mag') where
  passed-lists : (A : Arrangement) (factors : List Float) (betas : ℕ) (misfit : Bool) (work : ℕ) → betas ≤ 64 → bad_factor_list factors (signed_factors betas k) ≡ false
      → buffers_refusal A n w k us vs misfit work ≡ 0 → Passed A n w (take k early') (take k late') us vs (length factors) betas work × (misfit ≡ false)
  passed-lists A factors betas misfit work few f z =
      let buffers = accepted-buffers A n w k us vs misfit work z in (
        record {
          job = plannable g A work buffers.1;
          few-betas = few;
          factored = (accepted-factors factors (signed_factors betas k) f).0 ∙ ap (signed_factors betas) (early-part g.written);
        },
        buffers.0,
      )

  -- what holds of the fronts, at this window and manner, holds of the kept edges
  to-kept : (Done : List ℕ → List ℕ → ℕ → Job.Manner → ℕ → Type 0) (manner manner' : Job.Manner) → manner ≡ manner'
      → Done (take k early') (take k late') w manner (length (take k early'))
      → Done (kept_early a b m) (kept_late a b m) (window_from floor a b m) manner' (length (kept a b m))
  to-kept Done manner manner' e f =
      let E = kept_early a b m in
      let L = kept_late a b m in
      let p : Done E L w manner (length E) =
      subst (λ (x : List ℕ). Done E x w manner (length E)) (front-late g.written)
      (subst (λ (x : List ℕ). Done x (take k late') w manner (length x)) (front-early g.written) f) in
      let q = subst (λ (v : ℕ). Done E L v manner (length E)) g.window p in
      let s = subst (λ (c : ℕ). Done E L (window_from floor a b m) manner c) (edge_count g) q in
      subst (λ (x : Job.Manner). Done E L (window_from floor a b m) x (length (kept a b m))) e s

  -- ---- of an enumeration

  -- the kept edges make a graph that a forest spans
  pub joined : Paths.Edges n (take k early') (take k late')
  joined = rw (front-early g.written, front-late g.written) (joins g.edges)

  pub all_listed : (source : Source) (caller : Caller) (A B : Arrangement) → A ≡ B → (list list' : List Float) → list ≡ list' → (count count' : ℕ) → count ≡ count'
      → (free free' most : ℕ) (misfit : Bool) (work r : ℕ) → free ≡ free' → r ≡ enumeration_lists source caller A n w k us vs list count free most misfit work
      → r ≡ enumeration_lists source caller B n (window_from floor a b m) (length (kept a b m)) us vs list' count' free' most misfit work
  all_listed source caller A B eA list list' eL count count' eC free free' most misfit work r e h = rw (eA, g.window, g.written.edges, eL, eC, e) at h

  pub all-lists : (caller : Caller) (A B : Arrangement) → A ≡ B → (betas : ℕ) (factors : List Float) (free free' most : ℕ) (misfit : Bool) (work r : ℕ) → free ≡ free'
      → r ≡ enumeration_lists lent caller A n w k us vs factors (signed_factors betas k) free most misfit work
      → r ≡ enumeration_lists lent caller B n (window_from floor a b m) (length (kept a b m)) us vs factors (signed_factors betas (length (kept a b m))) free' most misfit work
  all-lists caller A B eA betas factors free free' most misfit work r e h =
      all_listed lent caller A B eA factors factors refl _ _ (ap (signed_factors betas) g.written.edges) free free' most misfit work r e h

  pub all-passed : (caller : Caller) (A : Arrangement) (betas : ℕ) (factors : List Float) (free most : ℕ) (misfit : Bool) (work r : ℕ) → betas ≤ 64
      → r ≡ enumeration_lists lent caller A n w k us vs factors (signed_factors betas k) free most misfit work → r ≡ 0
      → Passed A n w (take k early') (take k late') us vs (length factors) betas work × (misfit ≡ false) × (free ≤ most)
  all-passed caller A betas factors free most misfit work r few h z =
      let t9 = unless (ltb most free) {k = 9} (omega arith) (sym h ∙ z) in
      let t22 = unless (over_limit caller tester_free free) {k = 22} (omega arith) t9.1 in
      let t10 = unless (bad_factor_list factors (signed_factors betas k)) {k = 10} (omega arith) t22.1 in
      let p = passed-lists A factors betas misfit work few t10.0 t10.1 in
      (p.0, p.1, ltb-false most free t9.0)

  -- the free edges of the fronts are those of the kept edges
  pub free-kept : (free : ℕ) → free ≡ free_count (take k early') (take k late') → free ≡ free_count (kept_early a b m) (kept_late a b m)
  free-kept free e = rw (front-early g.written, front-late g.written) at e

  -- ---- of an enumeration that stores each correlation

  pub stored-lists : (caller : Caller) (A B : Arrangement) → A ≡ B → (betas : ℕ) (factors : List Float) (free free' wanted wanted' stored work r : ℕ) → free ≡ free' → (free ≤ 24 → wanted ≡ wanted')
      → r ≡ enumeration_lists lent caller A n w k us vs factors (signed_factors betas k) free 24 (misfits wanted stored stored) work
      → r ≡ enumeration_lists lent caller B n (window_from floor a b m) (length (kept a b m)) us vs factors (signed_factors betas (length (kept a b m))) free' 24 (not (eqb stored wanted')) work
  stored-lists caller A B eA betas factors free free' wanted wanted' stored work r e h q =
      all-lists caller A B eA betas factors free free' 24 (not (eqb stored wanted')) work r e
      (q ∙ stored-misfit lent caller A n w k us vs factors (signed_factors betas k) free wanted wanted' stored work h)

  -- ---- of a sampling

  pub drawn-listed : (source : Source) (A B : Arrangement) → A ≡ B → (list list' : List Float) → list ≡ list' → (count count' : ℕ) → count ≡ count'
      → (from to samples : ℕ) (misfit : Bool) (work r : ℕ) → r ≡ sampling_lists source A n w k us vs list count from to samples misfit work
      → r ≡ sampling_lists source B n (window_from floor a b m) (length (kept a b m)) us vs list' count' from to samples misfit work
  drawn-listed source A B eA list list' eL count count' eC from to samples misfit work r h = rw (eA, g.window, g.written.edges, eL, eC) at h

  pub drawn-lists : (A B : Arrangement) → A ≡ B → (betas : ℕ) (factors : List Float) (from to samples : ℕ) (misfit : Bool) (work r : ℕ)
      → r ≡ sampling_lists lent A n w k us vs factors (signed_factors betas k) from to samples misfit work
      → r ≡ sampling_lists lent B n (window_from floor a b m) (length (kept a b m)) us vs factors (signed_factors betas (length (kept a b m))) from to samples misfit work
  drawn-lists A B eA betas factors from to samples misfit work r h =
      drawn-listed lent A B eA factors factors refl _ _ (ap (signed_factors betas) g.written.edges) from to samples misfit work r h

  pub drawn-passed : (A : Arrangement) (betas : ℕ) (factors : List Float) (from to samples : ℕ) (misfit : Bool) (work r : ℕ) → betas ≤ 64
      → r ≡ sampling_lists lent A n w k us vs factors (signed_factors betas k) from to samples misfit work → r ≡ 0
      → Passed A n w (take k early') (take k late') us vs (length factors) betas work × (misfit ≡ false) × ((to - from) * samples ≤ 4294967296)
  drawn-passed A betas factors from to samples misfit work r few h z =
      let t10 = unless (bad_factor_list factors (signed_factors betas k)) {k = 10} (omega arith) (sym h ∙ z) in
      let t11 = unless (too_many_chunks from to samples) {k = 11} (omega arith) t10.1 in
      let p = passed-lists A factors betas misfit work few t10.0 t11.1 in
      (p.0, p.1, few-samples from to samples t11.0)

  -- ---- what is finished

  module _ (betas : ℕ) (factors : List Float) {sound : Bool} {work work' : List Float} {manner manner' : Job.Manner} (e : manner ≡ manner')
      {A B : Arrangement} (eA : A ≡ B) where
    pub totals_kept : (c : Chunks) {squares fourths : List Float}
        → TotalsAre n w (take k early') (take k late') factors manner us vs betas c A (length (take k early')) sound squares fourths work work'
        → TotalsAre n (window_from floor a b m) (kept_early a b m) (kept_late a b m) factors manner' us vs betas c B (length (kept a b m)) sound
        squares fourths work work'
    totals_kept c {squares} {fourths} h =
        rw (← eA) (to-kept (λ E L v x edges. TotalsAre n v E L factors x us vs betas c A edges sound squares fourths work work') manner manner' e h)

    pub stored-kept : {count : ℕ} {stored : List Float}
        → StoredAre n w (take k early') (take k late') factors manner us vs betas count A (length (take k early')) sound stored work work'
        → StoredAre n (window_from floor a b m) (kept_early a b m) (kept_late a b m) factors manner' us vs betas count B (length (kept a b m)) sound
        stored work work'
    stored-kept {count} {stored} h =
        rw (← eA) (to-kept (λ E L v x edges. StoredAre n v E L factors x us vs betas count A edges sound stored work work') manner manner' e h)

-- ---- chunks

-- all configurations, of few enough free edges
pub all-numbered : (k : Chunks) (free : ℕ) (early late bits : List ℕ) → k ≡ all_chunks free → free ≤ 34 → free ≡ free_count early late → bits ≡ bits_of early late
    → Numbered k early late bits
all-numbered k free early late bits e few f given = record {
  long = as_long early late bits given;
  given = λ _. given;
  few = λ _. omega arith;
  fits = λ _. rw e (all_fit free few);
}

-- drawn ones
pub drawn-numbered : (seed from to samples : ℕ) (early late bits : List ℕ) → length bits ≡ length early → Numbered (drawn_chunks seed from to samples) early late bits
drawn-numbered seed from to samples early late bits l = record { long = l; given = λ z. absurd (no z); few = λ z. absurd (no z); fits = λ z. absurd (no z) }
  where
    no : true ≡ false → ⊥
    no z = let z' : ◌≡◌ {A = ℕ} 0 1 = cc in omega arith

-- the chunks of all configurations are all of them
module _ (n w : ℕ) (early late : List ℕ) (factors : List Float) (manner : Job.Manner) (us vs : List ℕ) (betas : ℕ) (A : Arrangement) (edges : ℕ) {sound : Bool}
    {squares fourths work work' : List Float} where
  pub all_are : (free : ℕ) → free ≡ free_count early late → (k : Chunks) → k ≡ all_chunks free
      → TotalsAre n w early late factors manner us vs betas k A edges sound squares fourths work work'
      → Finished (unsound_enumeration n w early late factors manner us vs betas) (enumerated_totals n w early late factors manner us vs betas (square ieee))
      (enumerated_totals n w early late factors manner us vs betas (fourth ieee)) (betas * length us) (room A n w edges us vs) sound squares fourths work work'
  all_are free e k c g =
      let J = job_enumerated n w early late factors manner in
      let F = free_count early late in
      let h = subst (λ (x : Chunks). TotalsAre n w early late factors manner us vs betas x A edges sound squares fourths work work') (c ∙ ap all_chunks e) g in
      let sums = all_totals (λ x. correlation_at (J x) us vs) F (betas * length us) in
      subst (λ (x : Bool). Finished x (enumerated_totals n w early late factors manner us vs betas (square ieee))
      (enumerated_totals n w early late factors manner us vs betas (fourth ieee)) (betas * length us) (room A n w edges us vs) sound squares fourths work work')
      (all-unsound J us vs betas F)
      (subst (λ (l : List Float). Finished (unsound_in n w early late factors manner us vs betas (all_chunks F)) l
      (enumerated_totals n w early late factors manner us vs betas (fourth ieee)) (betas * length us) (room A n w edges us vs) sound squares fourths work work')
      (sums (square ieee))
      (subst (λ (l : List Float). Finished (unsound_in n w early late factors manner us vs betas (all_chunks F))
      (totals_in n w early late factors manner us vs betas (all_chunks F) (square ieee)) l (betas * length us) (room A n w edges us vs) sound squares fourths work work')
      (sums (fourth ieee)) h))
