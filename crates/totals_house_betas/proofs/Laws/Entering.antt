-- A house call that its checks pass, from the fronts of the lists that its kept edges stand in.
use Rattle.std.specs.Prelude.{◌≡◌, Bool, false, not, List, ℕ, ◌-◌, ◌*◌, ◌≤◌, eqb, ltb, Float, length, take}
use Rattle.std.proofs.Common.{sym, ap, ◌∙◌, subst, arith, ltb-false}
use Rattle.limits.specs.declared.Caller.{Caller}
use Rattle.limits.specs.Callers.{over_limit}
use Rattle.limits.specs.Limits.{tester_free}
use Rattle.transfer_matrix.specs.Job as Job
use Rattle.transfer_matrix.specs.Room.{Arrangement}
use Rattle.house_factors.specs.Factors.{paired_factors}
use Rattle.refusals.specs.Couplings.{all_couplings}
use Rattle.refusals.specs.Edges.{kept, window_from, kept_early, kept_late, kept_magnitudes}
use Rattle.refusals.specs.Request.{house, bad_coupling_list, too_many_chunks}
use Rattle.refusals.proofs.Laws.First.{unless}
use Rattle.refusals.proofs.Laws.Couplings.{products-on}
use Rattle.refusals.specs.AcceptedJob.{buffers_refusal}
use Rattle.refusals.proofs.Laws.AcceptedJob.{accepted-buffers}
use Rattle.refusals.specs.AcceptedTotals.{misfits, enumeration_lists, sampling_lists}
use Rattle.refusals.proofs.Laws.AcceptedTotals.{few-samples}
use Rattle.kept_edges.proofs.Laws.Fronts.{front_mag, early-part, mag_part}
use Rattle.job_checks.specs.Checked.{ReadyJob}
use Rattle.job_checks.proofs.Laws.Plannable.{plannable}
use Rattle.totals_chunks.specs.declared.Chunks.{Chunks}
use Rattle.totals_call.specs.Finished.{TotalsAre, StoredAre}
use Rattle.totals_call.proofs.Laws.Entering.{all_listed, drawn-listed, stored-misfit, totals_kept, stored-kept}
use Rattle.totals_house_betas.specs.Betas.{HousePassed}

module _ {n floor : ℕ} {a b : List ℕ} {m : List Float} {us vs : List ℕ} {k w : ℕ} {early early' late late' : List ℕ} {mag mag' : List Float}
    (g : ReadyJob n floor a b m us vs k w early early' late late' mag mag') (betas : List Float) where
  -- the kept magnitudes at the front of their list
  abbrev M : List Float
  M = take k mag'

  -- what 23, 12 and 13 pass
  passed-lists : (A : Arrangement) (misfit : Bool) (work : ℕ) → length betas ≤ 64 → bad_coupling_list (all_couplings betas M) (length betas * length M) ≡ false
      → buffers_refusal A n w (length M) us vs misfit work ≡ 0 → HousePassed A n w (take k early') (take k late') us vs M betas work × (misfit ≡ false)
  passed-lists A misfit work few f z =
      let buffers = accepted-buffers A n w k us vs misfit work (rw (← mag_part g.written) at z) in (
        record {
          job = plannable g A work buffers.1;
          few-betas = few;
          matched = sym (mag_part g.written) ∙ early-part g.written;
          on_grid = λ c e l h. products-on betas M f c e l h;
        },
        buffers.0,
      )

  -- ---- of an enumeration

  pub all-housed : (caller : Caller) (A B : Arrangement) → A ≡ B → (free free' most : ℕ) (misfit : Bool) (work r : ℕ) → free ≡ free'
      → r ≡ enumeration_lists house caller A n w (length M) us vs (all_couplings betas M) (length betas * length M) free most misfit work
      → r ≡ enumeration_lists house caller B n (window_from floor a b m) (length (kept a b m)) us vs (all_couplings betas (kept_magnitudes a b m))
      (length betas * length (kept_magnitudes a b m)) free' most misfit work
  all-housed caller A B eA free free' most misfit work r e h =
      all_listed g house caller A B eA _ _ (ap (all_couplings betas) (front_mag g.written)) _ _ (ap (λ (l : List Float). length betas * length l) (front_mag g.written))
      free free' most misfit work r e
      (subst (λ (i : ℕ). r ≡ enumeration_lists house caller A n w i us vs (all_couplings betas M) (length betas * length M) free most misfit work) (sym (mag_part g.written)) h)

  pub all-house-passed : (caller : Caller) (A : Arrangement) (free most : ℕ) (misfit : Bool) (work r : ℕ) → length betas ≤ 64
      → r ≡ enumeration_lists house caller A n w (length M) us vs (all_couplings betas M) (length betas * length M) free most misfit work → r ≡ 0
      → HousePassed A n w (take k early') (take k late') us vs M betas work × (misfit ≡ false) × (free ≤ most)
  all-house-passed caller A free most misfit work r few h z =
      let t9 = unless (ltb most free) {k = 9} (omega arith) (sym h ∙ z) in
      let t22 = unless (over_limit caller tester_free free) {k = 22} (omega arith) t9.1 in
      let t23 = unless (bad_coupling_list (all_couplings betas M) (length betas * length M)) {k = 23} (omega arith) t22.1 in
      let p = passed-lists A misfit work few t23.0 t23.1 in
      (p.0, p.1, ltb-false most free t9.0)

  -- where each correlation is stored
  pub stored-house-lists : (caller : Caller) (A B : Arrangement) → A ≡ B → (free free' wanted wanted' stored work r : ℕ) → free ≡ free' → (free ≤ 24 → wanted ≡ wanted')
      → r ≡ enumeration_lists house caller A n w (length M) us vs (all_couplings betas M) (length betas * length M) free 24 (misfits wanted stored stored) work
      → r ≡ enumeration_lists house caller B n (window_from floor a b m) (length (kept a b m)) us vs (all_couplings betas (kept_magnitudes a b m))
      (length betas * length (kept_magnitudes a b m)) free' 24 (not (eqb stored wanted')) work
  stored-house-lists caller A B eA free free' wanted wanted' stored work r e h q =
      all-housed caller A B eA free free' 24 (not (eqb stored wanted')) work r e
      (q ∙ stored-misfit house caller A n w (length M) us vs (all_couplings betas M) (length betas * length M) free wanted wanted' stored work h)

  -- ---- of a sampling

  pub drawn-housed : (A B : Arrangement) → A ≡ B → (from to samples : ℕ) (misfit : Bool) (work r : ℕ)
      → r ≡ sampling_lists house A n w (length M) us vs (all_couplings betas M) (length betas * length M) from to samples misfit work
      → r ≡ sampling_lists house B n (window_from floor a b m) (length (kept a b m)) us vs (all_couplings betas (kept_magnitudes a b m))
      (length betas * length (kept_magnitudes a b m)) from to samples misfit work
  drawn-housed A B eA from to samples misfit work r h =
      drawn-listed g house A B eA _ _ (ap (all_couplings betas) (front_mag g.written)) _ _ (ap (λ (l : List Float). length betas * length l) (front_mag g.written))
      from to samples misfit work r
      (subst (λ (i : ℕ). r ≡ sampling_lists house A n w i us vs (all_couplings betas M) (length betas * length M) from to samples misfit work) (sym (mag_part g.written)) h)

  pub drawn-house-passed : (A : Arrangement) (from to samples : ℕ) (misfit : Bool) (work r : ℕ) → length betas ≤ 64
      → r ≡ sampling_lists house A n w (length M) us vs (all_couplings betas M) (length betas * length M) from to samples misfit work → r ≡ 0
      → HousePassed A n w (take k early') (take k late') us vs M betas work × (misfit ≡ false) × ((to - from) * samples ≤ 4294967296)
  drawn-house-passed A from to samples misfit work r few h z =
      let t23 = unless (bad_coupling_list (all_couplings betas M) (length betas * length M)) {k = 23} (omega arith) (sym h ∙ z) in
      let t11 = unless (too_many_chunks from to samples) {k = 11} (omega arith) t23.1 in
      let p = passed-lists A misfit work few t23.0 t11.1 in
      (p.0, p.1, few-samples from to samples t11.0)

  -- ---- what is finished

  module _ {sound : Bool} {work work' : List Float} {manner manner' : Job.Manner} (e : manner ≡ manner') {A B : Arrangement} (eA : A ≡ B) where
    pub totals_housed : (c : Chunks) {squares fourths : List Float}
        → TotalsAre n w (take k early') (take k late') (paired_factors (all_couplings betas M)) manner us vs (length betas) c A (length (take k early')) sound squares fourths work work'
        → TotalsAre n (window_from floor a b m) (kept_early a b m) (kept_late a b m) (paired_factors (all_couplings betas (kept_magnitudes a b m))) manner' us vs (length betas) c B (length (kept a b m))
        sound squares fourths work work'
    totals_housed c {squares} {fourths} h =
        totals_kept g (length betas) (paired_factors (all_couplings betas (kept_magnitudes a b m))) e eA c
        (subst (λ (l : List Float). TotalsAre n w (take k early') (take k late') (paired_factors (all_couplings betas l)) manner us vs (length betas) c A (length (take k early')) sound squares fourths work work')
        (front_mag g.written) h)

    pub stored-housed : {count : ℕ} {stored : List Float}
        → StoredAre n w (take k early') (take k late') (paired_factors (all_couplings betas M)) manner us vs (length betas) count A (length (take k early')) sound stored work work'
        → StoredAre n (window_from floor a b m) (kept_early a b m) (kept_late a b m) (paired_factors (all_couplings betas (kept_magnitudes a b m))) manner' us vs (length betas) count B (length (kept a b m))
        sound stored work work'
    stored-housed {count} {stored} h =
        stored-kept g (length betas) (paired_factors (all_couplings betas (kept_magnitudes a b m))) e eA
        (subst (λ (l : List Float). StoredAre n w (take k early') (take k late') (paired_factors (all_couplings betas l)) manner us vs (length betas) count A (length (take k early')) sound stored work work')
        (front_mag g.written) h)
