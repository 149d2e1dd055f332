-- A call that its checks pass, from the fronts of the lists that its kept edges stand in.
use Rattle.std.specs.Prelude.{◌≡◌, refl, Bool, false, List, ℕ, ◌*◌, ◌≤◌, ◌<◌, Float, length, take}
use Rattle.std.proofs.Common.{sym, ap, ◌∙◌, subst, arith, eqb-true}
use Rattle.std.proofs.lemmas.Bool.{not-false}
use Rattle.transfer_matrix.specs.Job as Job
use Rattle.transfer_matrix.specs.Room.{Arrangement}
use Rattle.house_factors.specs.Factors.{paired_factors}
use Rattle.refusals.specs.Couplings.{all_couplings}
use Rattle.refusals.specs.Edges.{kept, window_from, kept_early, kept_late, kept_magnitudes}
use Rattle.refusals.specs.Request.{Source, lent, house, source_number, bad_list, too_many_chunks, unwritable, signed_factors}
use Rattle.refusals.proofs.Laws.First.{unless}
use Rattle.refusals.specs.AcceptedTotals.{sampling_lists}
use Rattle.kept_edges.proofs.Laws.Fronts.{front-early, front-late, front_mag, mag_part}
use Rattle.job_checks.specs.Checked.{ReadyJob}
use Rattle.job_checks.proofs.Laws.Plannable.{edge_count}
use Rattle.totals_call.specs.Finished.{Passed}
use Rattle.totals_call.proofs.Laws.Entering.{drawn-passed}
use Rattle.totals_house_betas.specs.Betas.{HousePassed}
use Rattle.totals_house_betas.proofs.Laws.Entering.{drawn-house-passed}
use Rattle.run_record.specs.declared.Head.{Head}
use Rattle.run_record.specs.Records.{record_length}
use Rattle.record_checks.specs.Recording.{other_length, recording_lists}
use Rattle.record_checks.proofs.Laws.Parts.{recording_passed}
use Rattle.totals_record.specs.Written.{RecordIs}

-- what refuses no record refuses no sampling
as_sampling : (source : Source) (A : Arrangement) (n w edges : ℕ) (us vs : List ℕ) (list : List Float) (count start end samples : ℕ) (misfit : Bool) (work : ℕ)
    → recording_lists source A n w edges us vs list count start end samples misfit work ≡ 0
    → sampling_lists source A n w edges us vs list count start end samples misfit work ≡ 0
as_sampling source A n w edges us vs list count start end samples misfit work z =
    let above : 0 < source_number source = numbered source in
    let t10 = unless (bad_list source list count) above z in
    let t11 = unless (too_many_chunks start end samples) {k = 11} (omega arith) t10.1 in
    let t26 = unless (unwritable start end samples) {k = 26} (omega arith) t11.1 in
    rw (t10.0, t11.0) t26.1
  where
    numbered : (s : Source) → 0 < source_number s
    numbered lent = omega arith
    numbered house = omega arith

-- a record of its exact length
pub fits_record : (h : Head) (size : ℕ) → other_length h size ≡ false → size ≡ record_length h
fits_record h size e = eqb-true size (record_length h) (not-false _ e)

module _ {n floor : ℕ} {a b : List ℕ} {m : List Float} {us vs : List ℕ} {k w : ℕ} {early early' late late' : List ℕ} {mag mag' : List Float}
    (g : ReadyJob n floor a b m us vs k w early early' late late' mag mag') where
  listed : (source : Source) (A B : Arrangement) → A ≡ B → (list list' : List Float) → list ≡ list' → (count count' : ℕ) → count ≡ count'
      → (from to samples : ℕ) (misfit : Bool) (work r : ℕ) → r ≡ recording_lists source A n w k us vs list count from to samples misfit work
      → r ≡ recording_lists source B n (window_from floor a b m) (length (kept a b m)) us vs list' count' from to samples misfit work
  listed source A B eA list list' eL count count' eC from to samples misfit work r h = rw (eA, g.window, g.written.edges, eL, eC) at h

  pub lent-listed : (A B : Arrangement) → A ≡ B → (betas : ℕ) (factors : List Float) (from to samples : ℕ) (misfit : Bool) (work r : ℕ)
      → r ≡ recording_lists lent A n w k us vs factors (signed_factors betas k) from to samples misfit work
      → r ≡ recording_lists lent B n (window_from floor a b m) (length (kept a b m)) us vs factors (signed_factors betas (length (kept a b m))) from to samples misfit work
  lent-listed A B eA betas factors from to samples misfit work r h =
      listed lent A B eA factors factors refl _ _ (ap (signed_factors betas) g.written.edges) from to samples misfit work r h

  pub lent-passed : (A : Arrangement) (betas : ℕ) (factors : List Float) (from to samples : ℕ) (misfit : Bool) (work r : ℕ) → betas ≤ 64
      → r ≡ recording_lists lent A n w k us vs factors (signed_factors betas k) from to samples misfit work → r ≡ 0
      → Passed A n w (take k early') (take k late') us vs (length factors) betas work × (misfit ≡ false) × (from ≤ to)
  lent-passed A betas factors from to samples misfit work r few h z =
      let p = drawn-passed g A betas factors from to samples misfit work 0 few (sym (as_sampling lent A n w k us vs factors (signed_factors betas k) from to samples misfit work (sym h ∙ z))) refl in
      let q = recording_passed lent A n w k us vs factors (signed_factors betas k) from to samples misfit work (sym h ∙ z) in
      (p.0, p.1, q.1.ordered)

  pub house-listed : (betas : List Float) (A B : Arrangement) → A ≡ B → (from to samples : ℕ) (misfit : Bool) (work r : ℕ)
      → r ≡ recording_lists house A n w (length (take k mag')) us vs (all_couplings betas (take k mag')) (length betas * length (take k mag')) from to samples misfit work
      → r ≡ recording_lists house B n (window_from floor a b m) (length (kept a b m)) us vs (all_couplings betas (kept_magnitudes a b m))
      (length betas * length (kept_magnitudes a b m)) from to samples misfit work
  house-listed betas A B eA from to samples misfit work r h =
      listed house A B eA _ _ (ap (all_couplings betas) (front_mag g.written)) _ _ (ap (λ (l : List Float). length betas * length l) (front_mag g.written)) from to samples misfit work r
      (subst (λ (i : ℕ). r ≡ recording_lists house A n w i us vs (all_couplings betas (take k mag')) (length betas * length (take k mag')) from to samples misfit work)
      (sym (mag_part g.written)) h)

  pub house-passed : (betas : List Float) (A : Arrangement) (from to samples : ℕ) (misfit : Bool) (work r : ℕ) → length betas ≤ 64
      → r ≡ recording_lists house A n w (length (take k mag')) us vs (all_couplings betas (take k mag')) (length betas * length (take k mag')) from to samples misfit work → r ≡ 0
      → HousePassed A n w (take k early') (take k late') us vs (take k mag') betas work × (misfit ≡ false) × (from ≤ to)
  house-passed betas A from to samples misfit work r few h z =
      let K = length betas * length (take k mag') in
      let p = drawn-house-passed g betas A from to samples misfit work 0 few
      (sym (as_sampling house A n w (length (take k mag')) us vs (all_couplings betas (take k mag')) K from to samples misfit work (sym h ∙ z))) refl in
      let q = recording_passed house A n w (length (take k mag')) us vs (all_couplings betas (take k mag')) K from to samples misfit work (sym h ∙ z) in
      (p.0, p.1, q.1.ordered)

  -- ---- what is written

  module _ (h : Head) {sound : Bool} {bytes : List ℕ} {work work' : List Float} {manner manner' : Job.Manner} (e : manner ≡ manner') {A B : Arrangement} (eA : A ≡ B) where
    pub record_kept : (factors : List Float)
        → RecordIs n w (take k early') (take k late') factors manner us vs h A (length (take k early')) sound bytes work work'
        → RecordIs n (window_from floor a b m) (kept_early a b m) (kept_late a b m) factors manner' us vs h B (length (kept a b m)) sound bytes work work'
    record_kept factors f =
        let E = kept_early a b m in
        let L = kept_late a b m in
        let p = subst (λ (x : List ℕ). RecordIs n w x (take k late') factors manner us vs h A (length x) sound bytes work work') (front-early g.written) f in
        let q = subst (λ (x : List ℕ). RecordIs n w E x factors manner us vs h A (length E) sound bytes work work') (front-late g.written) p in
        let s = subst (λ (v : ℕ). RecordIs n v E L factors manner us vs h A (length E) sound bytes work work') g.window q in
        let t = subst (λ (c : ℕ). RecordIs n (window_from floor a b m) E L factors manner us vs h A c sound bytes work work') (edge_count g) s in
        let u = subst (λ (x : Job.Manner). RecordIs n (window_from floor a b m) E L factors x us vs h A (length (kept a b m)) sound bytes work work') e t in
        subst (λ (x : Arrangement). RecordIs n (window_from floor a b m) E L factors manner' us vs h x (length (kept a b m)) sound bytes work work') eA u

    pub record_housed : (betas : List Float)
        → RecordIs n w (take k early') (take k late') (paired_factors (all_couplings betas (take k mag'))) manner us vs h A (length (take k early')) sound bytes work work'
        → RecordIs n (window_from floor a b m) (kept_early a b m) (kept_late a b m) (paired_factors (all_couplings betas (kept_magnitudes a b m))) manner' us vs h B
        (length (kept a b m)) sound bytes work work'
    record_housed betas f =
        record_kept (paired_factors (all_couplings betas (kept_magnitudes a b m)))
        (subst (λ (l : List Float). RecordIs n w (take k early') (take k late') (paired_factors (all_couplings betas l)) manner us vs h A (length (take k early')) sound bytes work work')
        (front_mag g.written) f)
