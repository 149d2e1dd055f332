-- Jobs with the bits of their answers, and the test that the definition at binary64 gives those bits.
use Rattle.std.specs.Prelude.{Bool, true, ◌&&◌, List, [], ◌∷◌, map, ℕ, eqb, Float}
use Rattle.std.specs.Float.{binary64}
use Rattle.std.specs.Float.Ieee.{of_bits, to_bits}
use Rattle.transfer_matrix.specs.Job.{Edge, Job, Manner, window_of}
use Rattle.transfer_matrix.specs.Sweep.{answer}
use Rattle.transfer_matrix.specs.Rounded.{ieee}

pub record Answered : Type 0 where
  pub job : Job Float
  pub u : ℕ
  pub v : ℕ
  pub bits : ℕ

-- A kept edge whose factor is given by its bits.
abbrev pub bond : ℕ → ℕ → ℕ → Edge Float
bond a b factor = record { early = a; late = b; factor = of_bits binary64 factor }

abbrev pub answered : (last floor : ℕ) → List (Edge Float) → Manner → (u v bits : ℕ) → Answered
answered last floor es manner u v bits =
    record { job = record { last = last; window = window_of floor (map (λ e. e.early) es) (map (λ e. e.late) es); edges = es; manner = manner }; u = u; v = v; bits = bits }

unfoldable pub agree : List Answered → Bool
unfolding answer to_bits of_bits window_of
agree [] = true
agree (a ∷ as') = eqb (to_bits binary64 (answer ieee a.job a.u a.v)) a.bits && agree as'
