-- Where the sums of a pair are read.
use Rattle.std.specs.Prelude.{◌≡◌, Bool, List, ◌⊎◌, ℕ, ◌-◌, ◌≤◌, ◌<◌, length, get_or, Float}
use Rattle.transfer_matrix.specs.Job.{Job}
use Rattle.transfer_matrix.specs.Room.{earlier, later}
use Rattle.transfer_matrix.specs.Rounded.{ieee}
use Rattle.transfer_matrix.specs.Sweep as S
use Rattle.plan_steps.specs.Layout.{forward_place, backward_place}
use Rattle.half_vectors.specs.Symmetric.{SymmetricHalf}
use Rattle.pair_sums.specs.Terms.{half_at}
use Rattle.pair_sums.specs.declared.sums.Source.{Source}
use Rattle.pair_sums.specs.declared.sums.Sums.{Sums}
use Rattle.pair_sums.specs.Pair.{Sourced, SumsOf}
use Rattle.vertex_step.specs.Ready.{Still}
use Rattle.propagation.specs.declared.current.CurrentVector.{CurrentVector}
use Rattle.pair_correlations.specs.declared.pair.Aim.{Aim}
use Rattle.propagation.specs.Current.{PlanSwept, CurrentKnown}

-- The pair u < v has the places that it needs.
pub record PairPlaces (plan : List ℕ) (n w u v : ℕ) : Type 0 where
  pub order : u < v
  pub inside : v < n
  pub forward : 0 < forward_place plan v
  pub backward : 0 < backward_place plan v
  pub propagated : w ≤ v - u → 0 < forward_place plan u

-- The pairs of the order from number `from` on have theirs.
pub record PlacedFrom (plan us vs order : List ℕ) (n w from : ℕ) : Type 0 where
  pub places : (k : ℕ) → from ≤ k → k < length order → PairPlaces plan n w (earlier us vs (get_or order k 0)) (later us vs (get_or order k 0))

-- What is summed at s in the room r is Z and N of the pair u < v.
pub record SourceOf (J : Job Float) (r : List Float) (w u v : ℕ) (s : Source) : Type 0 where
  pub z_of : (t : Sums) → SumsOf r w s t → t.z ≡ S.Z ieee J v
  pub n-of : (t : Sums) → SumsOf r w s t → t.n ≡ S.N ieee J u v

-- Of a direct pair both sums are read at the later vertex v, whose forward vector lies at place f and whose backward one at place b.
pub record DirectSource (f b u v : ℕ) (s : Source) : Type 0 where
  pub forward : s.f ≡ f
  pub other : s.g ≡ f
  pub backward : s.b ≡ b
  pub bit : s.d ≡ v - u

-- At the places f and b lie the halves of vertex v.
pub record VertexHalves (J : Job Float) (r : List Float) (w f b v : ℕ) : Type 0 where
  pub window : J.window ≡ w
  pub forward : SymmetricHalf w (half_at r w f) (S.forward ieee J v)
  pub backward : SymmetricHalf w (half_at r w b) (S.backward ieee J v)

-- The sums of the pair u < v can be read, and the current vector is still known.
pub record Aimed (plan : List ℕ) (r₀ r : List Float) (n w scales u v : ℕ) (current : CurrentVector) (a : Aim) : Type 0 where
  pub moving : a.current.place < 2
  pub still : Still r₀ r w scales
  pub sourced : Sourced (length r) w a.source
  pub known : (J : Job Float) (elementwise : Bool) → PlanSwept J plan r₀ n w scales elementwise → CurrentKnown J r₀ n w current → CurrentKnown J r n w a.current
  pub source_of : (J : Job Float) (elementwise : Bool) → PlanSwept J plan r₀ n w scales elementwise → CurrentKnown J r₀ n w current → SourceOf J r w u v a.source

-- Pair q is pair p, or a direct one.
abbrev pub Second : (us vs : List ℕ) (w p q : ℕ) → Type 0
Second us vs w p q = (q ≡ p) ⊎ (later us vs q - earlier us vs q < w)

-- s is where the sums of pair q are read, being those of pair p, which are read at `first`, or direct.
abbrev pub SecondSource : (plan us vs : List ℕ) (p q : ℕ) (first s : Source) → Type 0
SecondSource plan us vs p q first s = ((q ≡ p) × (s ≡ first)) ⊎ ((q ≡ p → ⊥) × DirectSource (forward_place plan (later us vs q)) (backward_place plan (later us vs q)) (earlier us vs q) (later us vs q) s)
