-- Laws of what specs/Layout defines.
use Rattle.std.specs.Prelude.{◌≡◌, List, length}
use Rattle.std.proofs.Math.Path.{refl, ap}
use Rattle.std.proofs.Common.{◌∙◌, arith}
use Prim.Native.Nat.{ℕ, zero, suc, ◌+◌, ◌≤◌, ◌<◌}
use Rattle.plan_steps.specs.Layout.{left_edge_at, near_count_at, near_edges_at, near_bits_at, near_count, near_edge, near_bit, named, near_from, step_by, Vertex, SameStep}

-- ---- plans that say the same of t's edges: the numbers before the places are equal

module _ {K : Type 0} (factor : ℕ → K) where
  pub near-length : (plan : List ℕ) (t i k : ℕ) → length (near_from factor plan t i k) ≡ k
  unfolding near_from
  near-length plan t i zero = refl
  near-length plan t i (suc k) = ap suc (near-length plan t (suc i) k)

  pub near_ext : (p q : List ℕ) (t i k : ℕ)
      → ((j : ℕ) → i ≤ j → j < i + k → (near_bit q t j ≡ near_bit p t j) × (near_edge q t j ≡ near_edge p t j))
      → near_from factor q t i k ≡ near_from factor p t i k
  unfolding near_from
  near_ext p q t i zero h = refl
  near_ext p q t i (suc k) h =
      let a = h i (omega arith) (omega arith) in
      rw (a.0, a.1, near_ext p q t (suc i) k (λ j b c. h j (omega arith) (omega arith)))

  pub step-keep : (p q : List ℕ) (t : ℕ) → SameStep p q t → near_count p t ≤ 4 → step_by factor q t ≡ step_by factor p t
  step-keep p q t same few =
      let l = ap (named factor) (same left_edge_at (omega arith)) in
      let o =
      ap (near_from factor q t 0) (same near_count_at (omega arith))
      ∙ near_ext p q t 0 (near_count p t) (λ j a b. (same (near_bits_at + j) (omega arith), same (near_edges_at + j) (omega arith))) in
      cc

pub vertex-keep : (p q : List ℕ) (w m t : ℕ) → SameStep p q t → Vertex p w m t → Vertex q w m t
vertex-keep p q w m t same g =
    let count : near_count q t ≡ near_count p t = same near_count_at (omega arith) in
    let few = g.few in
    record {
      left = rw (same left_edge_at (omega arith)) g.left;
      few = rw count few;
      edge = λ i b. rw (same (near_edges_at + i) (omega arith)) (g.edge i (rw count at b));
      low = λ i b. rw (same (near_bits_at + i) (omega arith)) (g.low i (rw count at b));
      rising = λ i j a b. rw (same (near_bits_at + i) (omega arith), same (near_bits_at + j) (omega arith)) (g.rising i j a (rw count at b));
    }
