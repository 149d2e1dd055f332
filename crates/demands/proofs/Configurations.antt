-- The jobs of a call for totals, one for each configuration and beta: those of an accepted call are sound.
use Rattle.std.specs.Prelude.{◌≡◌, refl, Bool, false, List, ℕ, zero, suc, ◌*◌, ◌/◌, ◌%◌, ◌^◌, ◌≤◌, ◌<◌, Float, length}
use Rattle.std.proofs.Common.{sym, inl, mod-lt, div-lt_iff_lt-mul, arith}
use Rattle.transfer_matrix.specs.Room as Room
use Rattle.limits.specs.declared.Caller.{Caller}
use Rattle.list_laws.specs.Search.{some}
use Rattle.list_laws.proofs.Laws.Search.{none-at}
use Rattle.forest.specs.FreeEdges.{free_count, bit_of}
use Rattle.transfer_matrix.specs.Configuration.{enumerated_minus}
use Rattle.transfer_matrix.specs.Job.{Job}
use Rattle.std.specs.declared.result.Result.TheVariants.{Ok}
use Rattle.refusals.specs.Answers.{Answered}
use Rattle.refusals.specs.AcceptedTotals.{AcceptedTotals}
use Rattle.refusals.proofs.Laws.AcceptedTotals.{accepted_enumeration}
use Rattle.refusals.specs.Edges.{window_from, kept_early, kept_late}
use Rattle.refusals.specs.Key.{Key}
use Rattle.refusals.proofs.Laws.First.{passed-at}
use Rattle.refusals.specs.Refusal.{refusal, of_enumeration}
use Rattle.refusals.specs.Request.{enumeration_request}
use Rattle.pair_correlations.specs.Sound.{unsound}
use Rattle.entry_correlations.specs.Correlations.{manner_of}
use Rattle.entry_correlations.specs.declared.Manner.{Manner}
use Rattle.totals_call.specs.Jobs.{job_signed, job_enumerated, job_sampled, unsound_enumeration}
use Rattle.demands.proofs.Laws.Given.{checked-signed}
use Rattle.demands.specs.OneJob.{Sound}

-- a number is the answer of an accepted call
pub accepted-number : (k x c : ℕ) → Answered k x (Ok c) → (k ≡ 0) × (c ≡ x)
accepted-number k x c e = (sym e.0, e.1)

-- the number of a total is a beta's and a pair's
module _ (betas np k : ℕ) (l : k < betas * np) where
  some_pair : 0 < np
  some_pair = go np l
    where
      go : (j : ℕ) → k < betas * j → 0 < j
      go zero h = omega arith
      go (suc j) h = omega arith

  pub pair_inside : k % np < np
  pair_inside = mod-lt k some_pair

  pub beta-inside : k / np < betas
  beta-inside = (div-lt_iff_lt-mul some_pair).1 l

-- The kept edges' ends, and how many of them are free.
module _ (a b : List ℕ) (m : List Float) where
  abbrev pub early : List ℕ
  early = kept_early a b m

  abbrev pub late : List ℕ
  late = kept_late a b m

  abbrev pub free : ℕ
  free = free_count early late

module _ (n floor : ℕ) (a b : List ℕ) (m factors : List Float) (manner : Manner) where
  -- The job at a beta, by the sign of each edge,
  abbrev pub signed_job : (ℕ → Bool) → ℕ → Job Float
  signed_job = job_signed n (window_from floor a b m) (early a b m) (late a b m) factors (manner_of manner)

  -- of a configuration,
  abbrev pub configuration : ℕ → ℕ → Job Float
  configuration = job_enumerated n (window_from floor a b m) (early a b m) (late a b m) factors (manner_of manner)

  -- and of a chunk's sample.
  abbrev pub drawn_configuration : (seed chunk sample : ℕ) → ℕ → Job Float
  drawn_configuration = job_sampled n (window_from floor a b m) (early a b m) (late a b m) factors (manner_of manner)

module _ (n floor : ℕ) (a b : List ℕ) (m : List Float) (us vs : List ℕ) (betas factors : List Float) (manner : Manner) (misfit : Bool) (work : ℕ) where
  -- a job whose sums are sound, of a call that the checks pass
  pub signed-sound : {A : Room.Arrangement} → AcceptedTotals A n floor a b m us vs betas factors misfit work → (minus : ℕ → Bool) (beta : ℕ) → beta < length betas
      → unsound (signed_job n floor a b m factors manner minus beta) us vs ≡ false → Sound (signed_job n floor a b m factors manner minus beta) us vs
  signed-sound ok minus beta l none =
      let f = ok.job in
      record {
        checked = checked-signed n floor a b m us vs betas factors misfit work manner ok minus beta l;
        sums = none;
        apart = f.ends-apart;
        first-inside = λ i k. omega (arith, f.first-inside i k);
        second-inside = λ i k. omega (arith, f.second-inside i k);
      }

  -- ---- enumerations, whose totals or each correlation are asked for

  abbrev job : ℕ → ℕ → Job Float
  job = configuration n floor a b m factors manner

  abbrev bad : Bool
  bad = unsound_enumeration n (window_from floor a b m) (early a b m) (late a b m) factors (manner_of manner) us vs (length betas)

  module _ (caller : Caller) (A : Room.Arrangement) (most : ℕ)
      (accepted : refusal of_enumeration (enumeration_request caller A n floor a b m us vs betas factors (free a b m) most misfit work bad) ≡ 0) where
    pub enumeration_facts : AcceptedTotals A n floor a b m us vs betas factors misfit work × (free a b m ≤ most)
    enumeration_facts = accepted_enumeration caller A n floor a b m us vs betas factors (free a b m) most misfit work bad 0 accepted (inl refl)

    none-bad : bad ≡ false
    none-bad =
        passed-at of_enumeration (enumeration_request caller A n floor a b m us vs betas factors (free a b m) most misfit work bad) accepted Key.partition_sums refl

    pub few-free : free a b m ≤ most
    few-free = enumeration_facts.1

    pub configuration-sound : (x beta : ℕ) → x < 2 ^ free a b m → beta < length betas → Sound (job x beta) us vs
    configuration-sound x beta h l =
        signed-sound enumeration_facts.0 (enumerated_minus (bit_of (early a b m) (late a b m)) x) beta l
        (none-at (λ c. unsound (job x c) us vs) (length betas) beta l
        (none-at (λ y. some (λ c. unsound (job y c) us vs) (length betas)) (2 ^ free a b m) x h none-bad))
