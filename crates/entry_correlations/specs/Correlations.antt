-- What `correlations` answers and leaves in the lent lists.
use Rattle.std.specs.Prelude.{◌≡◌, cond, ◌||◌, List, ℕ, eqb, Float, length}
use Rattle.std.specs.Float.{nan}
use Rattle.limits.specs.declared.Caller.{Caller}
use Rattle.list_laws.specs.Front.{over}
use Rattle.transfer_matrix.specs.Job as Job
use Rattle.transfer_matrix.specs.Job.{Job, block, per_element}
use Rattle.transfer_matrix.specs.Configuration.{job_of}
use Rattle.transfer_matrix.specs.Room.{room}
use Rattle.transfer_matrix.specs.Rounded.{ieee}
use Rattle.transfer_matrix.specs.Sweep as S
use Rattle.refusals.specs.Edges.{kept, window_from, kept_early, kept_late}
use Rattle.refusals.specs.Request.{Source, lent, house, correlation_request}
use Rattle.refusals.specs.Refusal.{refusal, of_correlations, sourced}
use Rattle.house_factors.specs.Factors.{single_factors}
use Rattle.plan_layout.specs.declared.Arrangement.{Arrangement}
use Rattle.plan_layout.specs.Arrangements.{arrangement_of}
use Rattle.pair_correlations.specs.Sound.{unsound}
use Rattle.job_run.specs.Zeros.{zeros}
use Rattle.entry_correlations.specs.declared.Manner.{Manner}
use Rattle.entry_correlations.specs.declared.Manner.TheVariants.{Block, PerElement}

-- The caller's manner is the definition's.
abbrev pub manner_of : Manner → Job.Manner
manner_of Block = block
manner_of PerElement = per_element

-- The job of a call: the kept edges, the window with the caller's floor, one factor for each kept edge, and the manner.
abbrev pub job_given : (n floor : ℕ) → (a b : List ℕ) → (m factors : List Float) → Manner → Job Float
job_given n floor a b m factors manner =
    job_of nan n (window_from floor a b m) (kept_early a b m) (kept_late a b m) factors (manner_of manner)

-- What a call leaves in the results: the answers where it is accepted, +0.0 throughout where it is refused for 14, else what was there.
unfoldable pub settled : ℕ → List Float → List Float → List Float
settled refused answers old = cond (eqb refused 0) answers (cond (eqb refused 14) (zeros (length old)) old)

-- What it leaves in the work memory: where it is accepted or refused for 14 the room is +0.0, and what lies past the room stays.
unfoldable pub cleared : (refused end : ℕ) → List Float → List Float
cleared refused end old = cond (eqb refused 0 || eqb refused 14) (over (zeros end) old) old

-- The factors in use of a lent list: itself, or the house table's at its couplings.
abbrev pub factors_from : Source → List Float → List Float
factors_from lent list = list
factors_from house list = single_factors list

-- The answer r of a caller's call that lends this list of factors or couplings, and the results and the work memory after it.
pub record CorrelatedBy (source : Source) (n floor : ℕ) (a b : List ℕ) (m : List Float) (us vs : List ℕ) (list : List Float) (manner : Manner)
    (arrangement : Arrangement) (caller : Caller) (r : ℕ) (results results' work work' : List Float) : Type 0 where
  pub answer : r ≡ refusal (sourced source of_correlations)
      (correlation_request caller (arrangement_of arrangement) n floor a b m us vs list (length results) (length work)
      (unsound (job_given n floor a b m (factors_from source list) manner) us vs))
  pub answers : results' ≡ settled r (S.answers ieee (job_given n floor a b m (factors_from source list) manner) us vs) results
  pub memory : work' ≡ cleared r (room (arrangement_of arrangement) n (window_from floor a b m) (length (kept a b m)) us vs) work

-- That of `correlations`, which lends factors, and of `house_correlations`, which lends couplings.
abbrev pub Correlated : (n floor : ℕ) (a b : List ℕ) (m : List Float) (us vs : List ℕ) (factors : List Float) (manner : Manner)
    (arrangement : Arrangement) (caller : Caller) (r : ℕ) (results results' work work' : List Float) → Type 0
Correlated = CorrelatedBy lent

abbrev pub HouseCorrelated : (n floor : ℕ) (a b : List ℕ) (m : List Float) (us vs : List ℕ) (couplings : List Float) (manner : Manner)
    (arrangement : Arrangement) (caller : Caller) (r : ℕ) (results results' work work' : List Float) → Type 0
HouseCorrelated = CorrelatedBy house
