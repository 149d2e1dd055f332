-- Correlations by number, and their squares and fourth powers added to two lists.
use Rattle.std.specs.Prelude.{◌≡◌, Bool, true, not, List, ℕ, ◌/◌, ◌%◌, Float, length, get_or}
use Rattle.list_laws.specs.Search.{some}
use Rattle.transfer_matrix.specs.Job.{Job}
use Rattle.transfer_matrix.specs.Rounded.{ieee}
use Rattle.transfer_matrix.specs.Sweep as S
use Rattle.transfer_matrix.specs.Totals.{square, fourth}
use Rattle.vertex_step.specs.Ready.{Backward}
use Rattle.pair_correlations.specs.Sound.{unsound}
use Rattle.totals_sums.specs.Added.{added_to}

-- The correlation of pair p.
abbrev pub pair_at : Job Float → List ℕ → List ℕ → ℕ → Float
pair_at J us vs p = S.answer ieee J (get_or us p 0) (get_or vs p 0)

-- The correlation at k: pairs are numbered within betas.
abbrev pub correlation_at : (ℕ → Job Float) → List ℕ → List ℕ → ℕ → Float
correlation_at J us vs k =
    pair_at (J (k / length us)) us vs (k % length us)

-- Some pair's Z is not finite and above zero, at one of the first betas.
abbrev pub unsound_betas : (ℕ → Job Float) → List ℕ → List ℕ → ℕ → Bool
unsound_betas J us vs betas = some (λ b. unsound (J b) us vs) betas

-- Two lists of sums with the powers of n correlations added.
pub record AddedPowers (c : ℕ → Float) (n : ℕ) (squares squares' fourths fourths' : List Float) : Type 0 where
  pub squared : squares' ≡ added_to squares n (λ k. square ieee (c k))
  pub fourthed : fourths' ≡ added_to fourths n (λ k. fourth ieee (c k))

-- One configuration at one beta: whether it passed, the sums with its powers added, and its backward vectors, which stand in the room r.
pub record AddedBeta (J : Job Float) (plan us vs : List ℕ) (r : List Float) (n w : ℕ) (passed : Bool) (squares squares' fourths fourths' : List Float)
    : Type 0 where
  pub verdict : passed ≡ not (unsound J us vs)
  pub powers : passed ≡ true → AddedPowers (pair_at J us vs) (length us) squares squares' fourths fourths'
  pub kept : Backward J plan r n w 0
