-- Laws of what specs/Walks defines.
use Rattle.std.specs.Prelude.{◌≡◌, refl, Option, Some, None, List, ℕ, ◌<◌}
use Rattle.std.proofs.Common.{ap, arith}
use Rattle.std.proofs.Math.Decide.{dec_lt}
use Rattle.distance.specs.Walks.{Walk, Distance}

module _ (early late : List ℕ) where
  -- a vertex is at length 0 from itself
  pub distance-same : (u : ℕ) → Distance early late u u (Some 0)
  unfolding Walk
  distance-same u = (refl, λ j h p. omega arith)

  -- answers that are right are equal
  pub distance-only : (u v : ℕ) (r s : Option ℕ) → Distance early late u v r → Distance early late u v s → r ≡ s
  distance-only u v (Some j) (Some k) p q = ap Some (same (dec_lt j k) (dec_lt k j))
    where
      same : Dec (j < k) → Dec (k < j) → j ≡ k
      same (yes h) m = absurd (q.1 j h p.0)
      same (no n) (yes h) = absurd (p.1 k h q.0)
      same (no n) (no m) = omega arith
  distance-only u v (Some j) None p q = absurd (q j p.0)
  distance-only u v None (Some k) p q = absurd (p k q.0)
  distance-only u v None None p q = refl
