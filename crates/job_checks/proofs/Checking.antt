-- The checks of a job one after the other, and what has passed where none refuses.
use mathlib.Core.Path.{◌≡◌, refl, sym, ap, ap₂, ◌∙◌, subst}
use mathlib.Core.Bool.{false}
use mathlib.Core.List.{List, []}
use Prim.Native.Nat.{ℕ, zero, suc, ◌-◌, ◌≤◌, ◌<◌}
use native.Mathlib.Omega.{arith}
use lib.Ieee.{Float}
use lib.ListN.{length, get_or, take}
use Rattle.limits.specs.declared.Caller.{Caller}
use Rattle.limits.specs.declared.Caller.TheVariants.{Desk}
use Rattle.limits.specs.Limits.{most_window}
use Rattle.list_laws.proofs.Laws.Most.{most-above}
use Rattle.transfer_matrix.specs.Job.{longest, window_of, too_many_near}
use Rattle.transfer_matrix.specs.Configuration.{numbered}
use Rattle.transfer_matrix.specs.Room.{Arrangement, room}
use Rattle.std.specs.Prelude.{IfOk, OnOk}
use Rattle.std.specs.declared.result.Result.{Result}
use Rattle.std.specs.declared.result.Result.TheVariants.{Ok, Err}
use Rattle.refusals.specs.declared.Refusal.{Refusal}
use Rattle.refusals.specs.Numbers.{number, refused}
use Rattle.refusals.specs.Answers.{Answered}
use Rattle.refusals.specs.Accepted.{AcceptedBetas}
use Rattle.refusals.proofs.Laws.Answers.{number-not_zero}
use Rattle.refusals.specs.Edges.{kept, window_from, kept_early, kept_late}
use Rattle.refusals.specs.Request.{call_request, room_request}
use Rattle.refusals.specs.Refusal.{refusal, of_room, of_job}
use Rattle.refusals.proofs.Laws.Later.{or_else}
use Rattle.refusals.proofs.Laws.AcceptedJob.{window-wide, accepted_with, job_in_parts}
use Rattle.kept_edges.specs.Keep.{CheckedGraph, KeptEdges}
use Rattle.kept_edges.proofs.Laws.Fronts.{early-part, few, of-kept, kept-edges, kept-written}
use Rattle.plan_steps.specs.Edges.{Edges}
use Rattle.job_checks.specs.Checked.{kept_refusal, CheckedKept, ReadyJob, CheckedJob}
use Rattle.job_checks.specs.declared.job.Job.{Job}

-- ---- the kept edges

window_reaches : (floor : ℕ) (early late : List ℕ) (e : ℕ) → e < length early → get_or late e 0 - get_or early e 0 ≤ window_of floor early late
unfolding window_of longest
window_reaches floor early late e l = omega (arith, most-above (λ i. get_or late i 0 - get_or early i 0) (length early) e l)

-- none is longer than the window
pub edges-of : (n floor : ℕ) (early late : List ℕ) (w : ℕ) → KeptEdges n early late → w ≡ window_of floor early late → w ≤ most_window → Edges early late n w
edges-of n floor early late w es q narrow = record {
  few = es.few;
  wide = omega (arith, q, window-wide floor early late);
  narrow = narrow;
  matched = sym es.ordered.lengths;
  ordered = λ e l. es.ordered.ends e l;
  inside = λ e l. es.inside e l;
  reached = λ e l. omega (arith, q, window_reaches floor early late e l);
}

-- ---- the answer

-- 6, 22, 7 or 8 was found, at the window w
pub kept-refused : {caller : Caller} {n floor : ℕ} {early late us vs : List ℕ} (e : Refusal) (w : ℕ) → w ≡ window_of floor early late
    → number e ≡ kept_refusal caller n w early late us vs → CheckedKept caller n floor early late us vs (Err e)
kept-refused {caller} {n} {early = early} {late} {us} {vs} e w p h = record {
  refusal = h ∙ ap (λ (x : ℕ). kept_refusal caller n x early late us vs) p;
  all = tt;
  window = tt;
}

-- none of them
pub kept-passed : {caller : Caller} {n floor w : ℕ} {early late us vs : List ℕ} → w ≡ window_of floor early late → 0 ≡ kept_refusal caller n w early late us vs
    → CheckedKept caller n floor early late us vs (Ok (record { edges = length early; window = w }))
kept-passed {caller} {n} {early = early} {late} {us} {vs} p h = record {
  refusal = h ∙ ap (λ (x : ℕ). kept_refusal caller n x early late us vs) p;
  all = refl;
  window = p;
}

-- the graph with its betas was checked
module _ (caller : Caller) (n floor : ℕ) (a b : List ℕ) (m : List Float) (us vs : List ℕ) (betas : List Float) {answer : Result ℕ Refusal}
    {early early' late late' : List ℕ} {mag mag' : List Float} (G : CheckedGraph n a b m us vs betas answer early early' late late' mag mag') where
  abbrev later : ℕ
  later = kept_refusal caller n (window_from floor a b m) (kept_early a b m) (kept_late a b m) us vs

  job_is : refusal of_job (call_request caller n floor a b m us vs betas) ≡ or_else (refused answer) later
  job_is = job_in_parts caller n floor a b m us vs betas ∙ ap (λ (k : ℕ). or_else k later) (sym G.refusal)

  -- and refused
  pub job-refused : {e : Refusal} → answer ≡ Err e → CheckedJob caller n floor a b m us vs betas (Err e) early early' late late' mag mag'
  job-refused {e} z = record { refusal = go (number e) (number-not_zero e) ∙ sym (job_is ∙ ap (λ (x : Result ℕ Refusal). or_else (refused x) later) z); ready = tt; betas_pass = tt }
    where
      go : (x : ℕ) → (x ≡ 0 → ⊥) → x ≡ or_else x later
      go zero f = absurd (f refl)
      go (suc x) f = refl

  -- it was accepted, and its kept edges were checked
  pub graph-accepted : {k : ℕ} {found : Result Job Refusal} → answer ≡ Ok k → CheckedKept caller n floor (take k early') (take k late') us vs found
      → CheckedJob caller n floor a b m us vs betas found early early' late late' mag mag'
  graph-accepted {found = found} z C =
      record {
        refusal = r;
        ready = go found refl;
        betas_pass = passed found refl;
      }
    where
      r : refused found ≡ refusal of_job (call_request caller n floor a b m us vs betas)
      r =
          of-kept (kept-written G z) (λ x y. kept_refusal caller n (window_of floor x y) x y us vs) C.refusal
          ∙ ap (λ (x : Result ℕ Refusal). or_else (refused x) later) (sym z)
          ∙ sym job_is

      go : (x : Result Job Refusal) → found ≡ x → IfOk x (λ job. ReadyJob n floor a b m us vs job.edges job.window early early' late late' mag mag')
      go (Err e) q = tt
      go (Ok j) q =
          let W = kept-written G z in
          let job = (accepted_with caller n floor a b m us vs betas (sym r ∙ ap refused q)).0 in
          let window = of-kept W (window_of floor) (rw q at C.window) in
          let all = rw q at C.all ∙ sym (early-part W) in
          record {
            written = record { edges = all ∙ W.edges; earlies = W.earlies; lates = W.lates; mags = W.mags };
            few-edges = omega (arith, all, few W job.graph.lists);
            window = window;
            edges = edges-of n floor _ _ j.window (kept-edges n a b m job.graph) window (omega (arith, window, job.narrow));
            near = subst (λ x. too_many_near n x (numbered (kept_early a b m) (kept_late a b m)) ≡ false) (sym window) job.near;
            pairs = record { matched = job.matched; first = job.first-inside; second = job.second-inside };
            passed = job;
          }

      passed : (x : Result Job Refusal) → found ≡ x → OnOk x (AcceptedBetas betas)
      passed (Err e) q = tt
      passed (Ok j) q = (accepted_with caller n floor a b m us vs betas (sym r ∙ ap refused q)).1

-- ---- the room

pub room-answered : {n floor : ℕ} {job : Job} {a b : List ℕ} {m : List Float} {us vs early early' late late' : List ℕ} {mag mag' : List Float}
    → CheckedJob Desk n floor a b m us vs [] (Ok job) early early' late late' mag mag' → (A B : Arrangement) → A ≡ B → (r : ℕ) → r ≡ room A n job.window job.edges us vs
    → Answered (refusal of_room (room_request n floor a b m us vs)) (room B n (window_from floor a b m) (length (kept a b m)) us vs) (Ok r)
room-answered {n} {us = us} {vs} checked A B same r e =
    let job = checked.ready in
    (checked.refusal, rw same at e ∙ ap₂ (λ (x y : ℕ). room B n x y us vs) job.window job.written.edges)
