-- Symmetric halves: the lower half of a vector that does not change where every spin is flipped, and the steps of it.
use Rattle.std.specs.Prelude.{◌≡◌, List, ℕ, ◌-◌, ◌^◌, ◌<◌, Float}
use Rattle.transfer_matrix.specs.Rounded.{ieee}
use Rattle.transfer_matrix.specs.Sweep as S

-- entries j and 2 ^ w - 1 - j of the whole v are entry j of the half h
pub record SymmetricHalf (w : ℕ) (h : ℕ → Float) (v : List Float) : Type 0 where
  pub low : (j : ℕ) → j < 2 ^ (w - 1) → S.at ieee v j ≡ h j
  pub high : (j : ℕ) → j < 2 ^ (w - 1) → S.at ieee v (2 ^ w - 1 - j) ≡ h j
