-- What is known of a call for totals that passed its checks, and when it is finished.
use Rattle.std.specs.Prelude.{◌≡◌, Bool, false, cond, not, List, ℕ, ◌*◌, ◌≤◌, Float, length}
use Rattle.list_laws.specs.Front.{over}
use Rattle.forest.specs.FreeEdges.{free_count, bits_of}
use Rattle.transfer_matrix.specs.Job.{Manner, block, per_element}
use Rattle.transfer_matrix.specs.Room.{Arrangement, room}
use Rattle.transfer_matrix.specs.Rounded.{ieee}
use Rattle.transfer_matrix.specs.Totals.{square, fourth}
use Rattle.plan_layout.specs.Plannable.{Plannable}
use Rattle.job_run.specs.Zeros.{zeros}
use Rattle.totals_chunks.specs.declared.Chunks.{Chunks}
use Rattle.totals_call.specs.Jobs.{unsound_enumeration, unsound_in, totals_in, stored_correlations}

-- a job that a plan can be made of, and two factors for each of its edges at each beta
pub record Passed (arrangement : Arrangement) (n w : ℕ) (early late us vs : List ℕ) (factors betas work : ℕ) : Type 0 where
  pub job : Plannable arrangement n w early late us vs work
  pub few-betas : betas ≤ 64
  pub factored : factors ≡ 2 * (betas * length early)

-- where configurations go by number, the bits that the forest gives the edges, few enough free ones, and numbers that fit; drawn ones read no bit
pub record Numbered (k : Chunks) (early late bits : List ℕ) : Type 0 where
  pub long : length bits ≡ length early
  pub given : k.drawn ≡ false → bits ≡ bits_of early late
  pub few : k.drawn ≡ false → free_count early late ≤ 63
  pub fits : k.drawn ≡ false → k.end * k.size ≤ 18446744073709551615

-- Whether every Z was finite and above zero; then a list holds the answers, else +0.0.
pub record Answered (bad : Bool) (answers : List Float) (n : ℕ) (sound : Bool) (list : List Float) : Type 0 where
  pub verdict : sound ≡ not bad
  pub values : list ≡ cond sound answers (zeros n)

-- The same of two lists of n numbers each; and the room is +0.0.
pub record Finished (bad : Bool) (squared fourthed : List Float) (n end : ℕ) (sound : Bool) (squares fourths work work' : List Float) : Type 0 where
  pub squares_are : Answered bad squared n sound squares
  pub fourths_are : Answered bad fourthed n sound fourths
  pub memory : work' ≡ over (zeros end) work

-- A step's manner, as the sweeps read it.
abbrev pub stepping : Bool → Manner
stepping elementwise = cond elementwise per_element block

module _ (n w : ℕ) (early late : List ℕ) (factors : List Float) (manner : Manner) (us vs : List ℕ) (betas : ℕ) where
  -- The totals of chunks are finished, with a room of `edges` edges;
  abbrev pub TotalsAre : Chunks → Arrangement → (edges : ℕ) → Bool → (squares fourths work work' : List Float) → Type 0
  TotalsAre k arrangement edges =
      Finished (unsound_in n w early late factors manner us vs betas k) (totals_in n w early late factors manner us vs betas k (square ieee))
      (totals_in n w early late factors manner us vs betas k (fourth ieee)) (betas * length us) (room arrangement n w edges us vs)

  -- and every correlation is stored, of which there are so many.
  abbrev pub StoredAre : (count : ℕ) → Arrangement → (edges : ℕ) → Bool → (stored work work' : List Float) → Type 0
  StoredAre count arrangement edges sound stored =
      Finished (unsound_enumeration n w early late factors manner us vs betas) (stored_correlations n w early late factors manner us vs betas)
      (stored_correlations n w early late factors manner us vs betas) count (room arrangement n w edges us vs) sound stored stored
