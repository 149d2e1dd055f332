-- Which values of Z give an answer, and what is said of the answers of all pairs.
use Rattle.std.specs.Prelude.{◌≡◌, Bool, true, false, not, ◌&&◌, List, ℕ, zero, length, Float}
use Rattle.std.specs.Float.{inf}
use Rattle.std.specs.Float.Ieee.{lt}
use Rattle.list_laws.specs.Search.{some}
use Rattle.transfer_matrix.specs.Job.{Job}
use Rattle.transfer_matrix.specs.Room.{later}
use Rattle.transfer_matrix.specs.Rounded.{ieee}
use Rattle.transfer_matrix.specs.Sweep as S

-- Finite and above zero.
unfoldable pub soundly : Float → Bool
soundly z = lt ieee.𝟘 z && lt z (inf false)

-- Some pair's Z is not finite and above zero.
unfoldable pub unsound : Job Float → List ℕ → List ℕ → Bool
unfolding soundly some
unsound J us vs = some (λ i. not (soundly (S.Z ieee J (later us vs i)))) (length us)

-- What is said of the pairs: whether every Z is sound, and if so the answers.
pub record Outcome (J : Job Float) (us vs : List ℕ) (results : List Float) (sound : Bool) : Type 0 where
  pub told : sound ≡ not (unsound J us vs)
  pub values : sound ≡ true → results ≡ S.answers ieee J us vs
