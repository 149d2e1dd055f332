-- The backward step from half to half, in every window.
use Rattle.std.specs.Prelude.{ℕ, Float}
use Rattle.transfer_matrix.specs.Job.{Step}
use Rattle.half_vectors.specs.Half.{there_and_back, backward_half}

-- backward, from the half there and back: in a window of 1 its one entry stands for both of the pair
abbrev pub backward_fold : ℕ → Step Float → Float → (ℕ → Float) → ℕ → Float
backward_fold w s sc h = backward_half w s sc (there_and_back w h)
