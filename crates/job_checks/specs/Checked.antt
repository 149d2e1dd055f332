-- What is known of a job that the checks 1 to 8, and 22 of its window, have read.
use Rattle.std.specs.Prelude.{◌≡◌, false, cond, List, ℕ, ◌≤◌, ltb, Float, length, IfOk, OnOk}
use Rattle.std.specs.declared.result.Result.{Result}
use Rattle.limits.specs.declared.Caller.{Caller}
use Rattle.limits.specs.Callers.{over_limit}
use Rattle.limits.specs.Limits.{most_edges, most_window, tester_window}
use Rattle.list_laws.specs.Search.{some}
use Rattle.transfer_matrix.specs.Job.{window_of, too_many_near}
use Rattle.transfer_matrix.specs.Configuration.{numbered}
use Rattle.refusals.specs.Edges.{window_from, kept_early, kept_late}
use Rattle.refusals.specs.Request.{call_request, bad_ends}
use Rattle.refusals.specs.declared.Refusal.{Refusal}
use Rattle.refusals.specs.Numbers.{refused}
use Rattle.refusals.specs.Refusal as Refused
use Rattle.refusals.specs.Refusal.{of_job}
use Rattle.refusals.specs.Accepted.{AcceptedBetas}
use Rattle.refusals.specs.AcceptedJob.{AcceptedJob}
use Rattle.kept_edges.specs.Keep.{Written}
use Rattle.plan_steps.specs.Edges.{Edges}
use Rattle.pair_places.specs.Places.{Pairs}
use Rattle.job_checks.specs.declared.job.Job.{Job}

-- of the checks 6, 22, 7 and 8 the first that fits a caller's job, at window w
abbrev pub kept_refusal : Caller → (n w : ℕ) → (early late us vs : List ℕ) → ℕ
kept_refusal caller n w early late us vs =
    cond (ltb most_window w) 6 (cond (over_limit caller tester_window w) 22
    (cond (too_many_near n w (numbered early late)) 7 (cond (some (bad_ends n us vs) (length us)) 8 0)))

-- the kept edges and the pairs were checked; where none of these fits, all edges count and the window is theirs
pub record CheckedKept (caller : Caller) (n floor : ℕ) (early late us vs : List ℕ) (answer : Result Job Refusal) : Type 0 where
  pub refusal : refused answer ≡ kept_refusal caller n (window_of floor early late) early late us vs
  pub all : IfOk answer (λ job. job.edges ≡ length early)
  pub window : IfOk answer (λ job. job.window ≡ window_of floor early late)

-- A job that no check refuses, with k kept edges at the fronts of three lists, and window w: a plan can be made of it.
pub record ReadyJob (n floor : ℕ) (a b : List ℕ) (m : List Float) (us vs : List ℕ) (k w : ℕ) (early early' late late' : List ℕ)
    (mag mag' : List Float) : Type 0 where
  pub written : Written a b m (length a) k early early' late late' mag mag'
  pub few-edges : k ≤ most_edges
  pub window : w ≡ window_from floor a b m
  pub edges : Edges (kept_early a b m) (kept_late a b m) n w
  pub near : too_many_near n w (numbered (kept_early a b m) (kept_late a b m)) ≡ false
  pub pairs : Pairs us vs n
  pub passed : AcceptedJob n floor a b m us vs

-- The answer of these checks of a caller's job with betas: the first that fits, or the job.
pub record CheckedJob (caller : Caller) (n floor : ℕ) (a b : List ℕ) (m : List Float) (us vs : List ℕ) (betas : List Float) (answer : Result Job Refusal)
    (early early' late late' : List ℕ) (mag mag' : List Float) : Type 0 where
  pub refusal : refused answer ≡ Refused.refusal of_job (call_request caller n floor a b m us vs betas)
  pub ready : IfOk answer (λ job. ReadyJob n floor a b m us vs job.edges job.window early early' late late' mag mag')
  pub betas_pass : OnOk answer (AcceptedBetas betas)
