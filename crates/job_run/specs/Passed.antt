-- What a job that passed its checks is known to be, and what is known when it is finished.
use Rattle.std.specs.Prelude.{◌≡◌, Bool, cond, not, List, ℕ, Float, length}
use Rattle.list_laws.specs.Front.{over}
use Rattle.transfer_matrix.specs.Job.{Job}
use Rattle.transfer_matrix.specs.Room.{Arrangement, room}
use Rattle.transfer_matrix.specs.Rounded.{ieee}
use Rattle.transfer_matrix.specs.Sweep as S
use Rattle.plan_layout.specs.Plannable.{Plannable}
use Rattle.pair_correlations.specs.Sound.{unsound}
use Rattle.job_run.specs.Zeros.{zeros}

-- a job that a plan can be made of, a factor for each of its edges, and a result for each pair
pub record JobPassed (arrangement : Arrangement) (n w : ℕ) (early late us vs : List ℕ) (factors : List Float) (results work : ℕ) : Type 0 where
  pub job : Plannable arrangement n w early late us vs work
  pub factored : length factors ≡ length early
  pub fitting : results ≡ length us

-- Whether every pair's Z was finite and above zero; then the results are the answers, else +0.0; and the room is +0.0.
pub record JobFinished (J : Job Float) (arrangement : Arrangement) (n edges : ℕ) (us vs : List ℕ) (sound : Bool) (results work work' : List Float) : Type 0 where
  pub told : sound ≡ not (unsound J us vs)
  pub answers : results ≡ cond sound (S.answers ieee J us vs) (zeros (length us))
  pub memory : work' ≡ over (zeros (room arrangement n J.window edges us vs)) work
