-- A call's number and lists, from what its checks answered and what was found.
use Rattle.std.specs.Prelude.{◌≡◌, refl, Bool, not, List, ℕ, zero, suc, Float, length}
use Rattle.std.proofs.Common.{sym, ◌∙◌, ne_eqb}
use Rattle.std.proofs.Math.Path.{ap}
use Rattle.std.proofs.Math.Bool.{true, false, cond}
use Rattle.list_laws.specs.Front.{over}
use Rattle.limits.specs.declared.Caller.TheVariants.{Desk}
use Rattle.refusals.specs.declared.Refusal.{Refusal}
use Rattle.refusals.specs.Numbers.{number}
use Rattle.refusals.proofs.Laws.Answers.{number-not_zero}
use Rattle.refusals.specs.Edges.{kept}
use Rattle.refusals.specs.Request.{Request, Source, lent, house, sampled, sweep_request, call_request}
use Rattle.refusals.specs.Refusal.{checks, refusal, of_job, of_recording_lists, housed}
use Rattle.refusals.proofs.Laws.Later.{or_else, is_among}
use Rattle.plan_layout.specs.Arrangements.{arrangement_of}
use Rattle.job_run.specs.Zeros.{zeros}
use Rattle.entry_correlations.specs.Correlations.{cleared}
use Rattle.entry_correlations.proofs.Laws.Settling.{cleared_not, not_14}
use Rattle.totals_call.specs.Given.{Given, free, window}
use Rattle.totals_call.specs.Calls.{unsound_drawn}
use Rattle.totals_call.proofs.Laws.Refusing.{Parts}
use Rattle.record_checks.specs.Recording.{other_length, recording_lists}
use Rattle.record_checks.proofs.Laws.Parts.{recording_in_parts}
use Rattle.totals_record.specs.Written.{zero_bytes}
use Rattle.record_call.specs.Calls.{settled_bytes, RunWritten, head_for, refused_recording_by}

-- ---- the refusal in parts

module _ (g : Given) (seed from to samples : ℕ) (source : Source) (list : List Float) (count size work : ℕ) where
  abbrev pub refused_early : ℕ
  refused_early = refusal of_job (call_request Desk g.n g.floor g.a g.b g.m g.us g.vs g.betas)

  abbrev pub lists_of_recording : ℕ
  lists_of_recording =
      recording_lists source (arrangement_of g.arrangement) g.n (window g) (length (kept g.a g.b g.m)) g.us g.vs list count from to samples
      (other_length (head_for g seed from to samples) size) work

  pub lists_not_14 : lists_of_recording ≡ 14 → ⊥
  lists_not_14 = go source
    where
      request : Request
      request =
          sweep_request Desk (arrangement_of g.arrangement) g.n g.floor g.a g.b g.m g.us g.vs g.betas (sampled (free g) from to samples) list count
          (other_length (head_for g seed from to samples) size) work false

      go : (s : Source) → recording_lists s (arrangement_of g.arrangement) g.n (window g) (length (kept g.a g.b g.m)) g.us g.vs list count from to samples
          (other_length (head_for g seed from to samples) size) work ≡ 14 → ⊥
      go lent = not_14 of_recording_lists _ refl (is_among of_recording_lists request checks)
      go house = not_14 (housed of_recording_lists) _ refl (is_among (housed of_recording_lists) request checks)

  abbrev pub record_parts : Parts (refused_recording_by g seed from to samples source list count size work)
  record_parts = record {
    early = refused_early;
    lists = lists_of_recording;
    bad = unsound_drawn g seed from to samples;
    whole = recording_in_parts (arrangement_of g.arrangement) g.n g.floor g.a g.b g.m g.us g.vs g.betas list count source (free g) from to samples
        (other_length (head_for g seed from to samples) size) work (unsound_drawn g seed from to samples);
    early-other = not_14 of_job refused_early refl (is_among of_job (call_request Desk g.n g.floor g.a g.b g.m g.us g.vs g.betas) checks);
    lists-other = lists_not_14;
  }

-- ---- what it leaves

turned : (s u : Bool) → s ≡ not u → u ≡ not s
turned true true p = p
turned true false p = refl
turned false true p = refl
turned false false p = p

first : (k r rest : ℕ) → (r ≡ 0 → ⊥) → k ≡ r → or_else k rest ≡ r
first zero r rest z p = absurd (z (sym p))
first (suc k) r rest z p = p

-- a refusal by a check that stands before 14 leaves the bytes as they were
settled_not : (r : ℕ) (run old : List ℕ) → (r ≡ 0 → ⊥) → (r ≡ 14 → ⊥) → old ≡ settled_bytes r run old
unfolding settled_bytes
settled_not r run old p q = rw (ne_eqb r 0 p, ne_eqb r 14 q)

-- a number past the checks of the job, and past those of the lists
module _ {found : ℕ} (p : Parts found) (u : 0 ≡ p.early) where
  past-early : found ≡ or_else p.lists (cond p.bad 14 0)
  past-early = p.whole ∙ ap (λ (i : ℕ). or_else i (or_else p.lists (cond p.bad 14 0))) (sym u)

  past-lists : 0 ≡ p.lists → (t : Bool) → p.bad ≡ t → found ≡ cond t 14 0
  past-lists e t q = past-early ∙ ap (λ (i : ℕ). or_else i (cond p.bad 14 0)) (sym e) ∙ ap (λ (x : Bool). cond x 14 0) q

module _ {found : ℕ} {run : List ℕ} {end : ℕ} {bytes : List ℕ} {work : List Float} (p : Parts found) where
  refused_by : (r : ℕ) → (r ≡ 0 → ⊥) → (r ≡ 14 → ⊥) → found ≡ r → RunWritten found run end r bytes bytes work work
  refused_by r z q e = record {
    answer = sym e;
    bytes_are = settled_not r run bytes z q ∙ ap (λ (k : ℕ). settled_bytes k run bytes) (sym e);
    memory = cleared_not r end work z q ∙ ap (λ (k : ℕ). cleared k end work) (sym e);
  }

  pub refused-early : (e : Refusal) → number e ≡ p.early → RunWritten found run end (number e) bytes bytes work work
  refused-early e s =
      let z = number-not_zero e in
      refused_by (number e) z (λ h. p.early-other (sym s ∙ h)) (p.whole ∙ first p.early (number e) _ z (sym s))

  pub refused-lists : 0 ≡ p.early → (e : Refusal) → number e ≡ p.lists → RunWritten found run end (number e) bytes bytes work work
  refused-lists u e s =
      let z = number-not_zero e in
      refused_by (number e) z (λ h. p.lists-other (sym s ∙ h)) (past-early p u ∙ first p.lists (number e) _ z (sym s))

  -- by none of these: what was found decides
  pub run_written : {s : Bool} {bytes' : List ℕ} {work' : List Float} (n : ℕ) → 0 ≡ p.early → 0 ≡ p.lists → s ≡ not p.bad
      → bytes' ≡ cond s run (zero_bytes n) → work' ≡ over (zeros end) work → s ≡ true → RunWritten found run end 0 bytes bytes' work work'
  unfolding settled_bytes cleared
  run_written n u e verdict values memory y =
      rw (past-lists p u e false (turned true p.bad (sym y ∙ verdict)))
      (record { answer = refl; bytes_are = values ∙ ap (λ (x : Bool). cond x run (zero_bytes n)) y; memory = memory })

  pub run_wiped : {s : Bool} {bytes' : List ℕ} {work' : List Float} (n : ℕ) → 0 ≡ p.early → 0 ≡ p.lists → s ≡ not p.bad
      → bytes' ≡ cond s run (zero_bytes n) → work' ≡ over (zeros end) work → s ≡ false → length bytes ≡ n → RunWritten found run end 14 bytes bytes' work work'
  unfolding settled_bytes cleared
  run_wiped n u e verdict values memory y l =
      rw (past-lists p u e true (turned false p.bad (sym y ∙ verdict)))
      (record { answer = refl; bytes_are = values ∙ ap (λ (x : Bool). cond x run (zero_bytes n)) y ∙ ap zero_bytes (sym l); memory = memory })
