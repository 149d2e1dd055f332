-- A call's answer and lists, from what its checks answered and what the job said.
use mathlib.Core.Path.{◌≡◌, refl, sym, ap, ◌∙◌, subst}
use mathlib.Core.Bool.{Bool, true, false, cond, not}
use mathlib.Core.List.{List, []}
use Prim.Native.Nat.{ℕ, zero, suc}
use lib.Ieee.{Float, nan}
use lib.ListN.{length, take}
use Rattle.limits.specs.declared.Caller.{Caller}
use Rattle.transfer_matrix.specs.Job as Job
use Rattle.transfer_matrix.specs.Job.{Job, block, per_element}
use Rattle.transfer_matrix.specs.Configuration.{job_of}
use Rattle.transfer_matrix.specs.Room as Room
use Rattle.plan_layout.specs.declared.Arrangement.{Arrangement}
use Rattle.plan_layout.specs.Arrangements.{arrangement_of}
use Rattle.refusals.specs.Edges.{kept, window_from, kept_early, kept_late}
use Rattle.refusals.specs.Request.{Source, lent, house, call_request, correlation_request}
use Rattle.refusals.specs.Refusal.{checks, refusal, of_job, of_lists, of_correlations, housed, sourced}
use Rattle.refusals.proofs.Laws.Later.{or_else, is_among}
use Rattle.refusals.specs.AcceptedJob.{lists_refusal}
use Rattle.refusals.proofs.Laws.AcceptedJob.{correlations_in_parts, accepted-lists}
use Rattle.kept_edges.proofs.Laws.Fronts.{front-early, front-late}
use Rattle.job_checks.specs.Checked.{ReadyJob}
use Rattle.job_checks.proofs.Laws.Plannable.{edge_count, plannable}
use Rattle.pair_correlations.specs.Sound.{unsound}
use Rattle.job_run.specs.Zeros.{zeros}
use Rattle.job_run.specs.Passed.{JobPassed, JobFinished}
use Rattle.entry_correlations.specs.Correlations.{manner_of, job_given, settled, cleared, factors_from, CorrelatedBy}
use Rattle.entry_correlations.proofs.Laws.Settling.{settled_not, cleared_not, not_14}
use Rattle.entry_correlations.specs.declared.Manner.{Manner}

module _ (source : Source) (n floor : ℕ) (a b : List ℕ) (m : List Float) (us vs : List ℕ) (list : List Float) (manner : Manner) (arrangement : Arrangement) (caller : Caller) (results work : List Float) where
  abbrev job : Job Float
  job = job_given n floor a b m (factors_from source list) manner

  abbrev A : Room.Arrangement
  A = arrangement_of arrangement

  abbrev early-refusal : ℕ
  early-refusal = refusal of_job (call_request caller n floor a b m us vs [])

  abbrev lists-refusal : ℕ
  lists-refusal = lists_refusal source A n (window_from floor a b m) (length (kept a b m)) us vs list (length results) (length work)

  whole : refusal (sourced source of_correlations) (correlation_request caller A n floor a b m us vs list (length results) (length work) (unsound job us vs))
      ≡ or_else early-refusal (or_else lists-refusal (cond (unsound job us vs) 14 0))
  whole = correlations_in_parts caller n floor a b m us vs source A list (length results) (length work) (unsound job us vs)

  -- refused by one of 1 to 8
  pub refused-early : (r : ℕ) → r ≡ early-refusal → (r ≡ 0 → ⊥) → CorrelatedBy source n floor a b m us vs list manner arrangement caller r results results work work
  refused-early r e z =
      let q = not_14 of_job early-refusal refl (is_among of_job (call_request caller n floor a b m us vs []) checks) in
      record {
        answer = go early-refusal e ∙ sym whole;
        answers = settled_not r _ results z (λ p. q (sym e ∙ p));
        memory = cleared_not r _ work z (λ p. q (sym e ∙ p));
      }
    where
      go : (k : ℕ) → r ≡ k → r ≡ or_else k (or_else lists-refusal (cond (unsound job us vs) 14 0))
      go zero p = absurd (z p)
      go (suc k) p = p

  lists_not_14 : (s : Source) → lists_refusal s A n (window_from floor a b m) (length (kept a b m)) us vs list (length results) (length work) ≡ 14 → ⊥
  lists_not_14 lent =
      not_14 of_lists _ refl (is_among of_lists (correlation_request caller A n floor a b m us vs list (length results) (length work) false) checks)
  lists_not_14 house =
      not_14 (housed of_lists) _ refl (is_among (housed of_lists) (correlation_request caller A n floor a b m us vs list (length results) (length work) false) checks)

  -- by 10 or 23, 12 or 13
  pub refused-lists : (r : ℕ) → 0 ≡ early-refusal → r ≡ lists-refusal → (r ≡ 0 → ⊥)
      → CorrelatedBy source n floor a b m us vs list manner arrangement caller r results results work work
  refused-lists r o e z =
      let q = lists_not_14 source in
      record {
        answer = go lists-refusal e ∙ ap (λ (k : ℕ). or_else k (or_else lists-refusal (cond (unsound job us vs) 14 0))) o ∙ sym whole;
        answers = settled_not r _ results z (λ p. q (sym e ∙ p));
        memory = cleared_not r _ work z (λ p. q (sym e ∙ p));
      }
    where
      go : (k : ℕ) → r ≡ k → r ≡ or_else k (cond (unsound job us vs) 14 0)
      go zero p = absurd (z p)
      go (suc k) p = p

  -- by none of these: the job was finished
  module _ (o : 0 ≡ early-refusal) (e : 0 ≡ lists-refusal) (results' work' : List Float) (fits : length results ≡ length us) where
    late : (t : Bool) → unsound job us vs ≡ t → cond t 14 0 ≡ refusal (sourced source of_correlations)
        (correlation_request caller A n floor a b m us vs list (length results) (length work) (unsound job us vs))
    late t p =
        sym (ap (λ (x : Bool). cond x 14 0) p) ∙ ap (λ (k : ℕ). or_else k (cond (unsound job us vs) 14 0)) e
        ∙ ap (λ (k : ℕ). or_else k (or_else lists-refusal (cond (unsound job us vs) 14 0))) o ∙ sym whole

    turned : (s u : Bool) → s ≡ not u → u ≡ not s
    turned true true p = p
    turned true false p = refl
    turned false true p = refl
    turned false false p = p

    pub accepted : JobFinished job A n (length (kept a b m)) us vs true results' work work'
        → CorrelatedBy source n floor a b m us vs list manner arrangement caller 0 results results' work work'
    unfolding settled cleared
    accepted g = record { answer = late false (turned true _ g.told); answers = g.answers; memory = g.memory }

    pub refused-14 : JobFinished job A n (length (kept a b m)) us vs false results' work work'
        → CorrelatedBy source n floor a b m us vs list manner arrangement caller 14 results results' work work'
    unfolding settled cleared
    refused-14 g =
        record { answer = late true (turned false _ g.told); answers = g.answers ∙ ap zeros (sym fits); memory = g.memory }

-- ---- a job that passed the checks

module _ {n floor : ℕ} {a b : List ℕ} {m : List Float} {us vs : List ℕ} {k w : ℕ} {early early' late late' : List ℕ} {mag mag' : List Float}
    (g : ReadyJob n floor a b m us vs k w early early' late late' mag mag') where
  pub lists_of : (source : Source) (A B : Room.Arrangement) → A ≡ B → (list : List Float) (results work : ℕ)
      → lists_refusal source A n w k us vs list results work ≡ lists_refusal source B n (window_from floor a b m) (length (kept a b m)) us vs list results work
  lists_of source A B e list results work = rw (e, g.window, g.written.edges)

  pub passed-of : (A : Room.Arrangement) (factors : List Float) (results work : ℕ) → lists_refusal lent A n w k us vs factors results work ≡ 0
      → JobPassed A n w (take k early') (take k late') us vs factors results work
  passed-of A factors results work z =
      let l = accepted-lists A n w k us vs factors results work z in
      rw (front-early g.written)
      record { job = rw (← front-early g.written) (plannable g A work l.enough); factored = l.factor-count ∙ g.written.edges ∙ sym (edge_count g); fitting = l.fitting }

  pub finished_of : (A B : Room.Arrangement) → A ≡ B → (factors : List Float) (manner : Manner) (each sound : Bool) (results work work' : List Float)
      → cond each per_element block ≡ manner_of manner
      → JobFinished (job_of nan n w (take k early') (take k late') factors (cond each per_element block)) A n (length (take k early')) us vs sound results work work'
      → JobFinished (job_given n floor a b m factors manner) B n (length (kept a b m)) us vs sound results work work'
  finished_of A B eA factors manner each sound results work work' e f =
      let p : JobFinished (job_of nan n w (kept_early a b m) (kept_late a b m) factors (cond each per_element block))
      A n (length (kept_early a b m)) us vs sound results work work' = rw (← front-early g.written, ← front-late g.written) f in
      let q = subst (λ (v : ℕ). JobFinished (job_of nan n v (kept_early a b m) (kept_late a b m) factors (cond each per_element block))
      A n (length (kept_early a b m)) us vs sound results work work') g.window p in
      let s = subst (λ (c : ℕ). JobFinished (job_of nan n (window_from floor a b m) (kept_early a b m) (kept_late a b m) factors (cond each per_element block))
      A n c us vs sound results work work') (edge_count g) q in
      rw (← eA) (subst (λ (x : Job.Manner). JobFinished (job_of nan n (window_from floor a b m) (kept_early a b m) (kept_late a b m) factors x)
      A n (length (kept a b m)) us vs sound results work work') e s)
