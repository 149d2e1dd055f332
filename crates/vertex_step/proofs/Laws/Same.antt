-- What is said of a half reads only its own numbers.
use Rattle.std.specs.Prelude.{◌≡◌, List, ℕ, ◌-◌, ◌^◌, ◌<◌, Float}
use Rattle.std.proofs.Common.{subst}
use Rattle.half_vectors.specs.Symmetric.{SymmetricHalf}
pub use Rattle.half_vectors.proofs.Laws.Symmetric.{symmetric_ext}
use Rattle.half_vectors.specs.Antisymmetric.{AntisymmetricHalf}

module _ {w : ℕ} {h g : ℕ → Float} {v : List Float} where
  pub antisymmetric_ext : AntisymmetricHalf w h v → ((j : ℕ) → j < 2 ^ (w - 1) → g j ≡ h j) → AntisymmetricHalf w g v
  antisymmetric_ext o same = record { low = λ j b. rw (same j b) (o.low j b); high = λ j b. rw (same j b) (o.high j b) }

-- the vector by another name
pub symmetric_as : {w : ℕ} {h : ℕ → Float} {v v' : List Float} → SymmetricHalf w h v → v ≡ v' → SymmetricHalf w h v'
symmetric_as {w} {h} e same = subst (λ (x : List Float). SymmetricHalf w h x) same e
