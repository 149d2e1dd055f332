-- Climbing in a list of parents: a climb that has reached a root stays there, and how deep a vertex stands.
use Rattle.std.specs.Prelude.{◌≡◌, List, eqb}
use Rattle.std.proofs.Math.Path.{refl, sym}
use Rattle.std.proofs.Common.{ap, ◌∙◌, eq-eqb, ne_eqb}
use Rattle.std.proofs.Math.Bool.{cond}
use Prim.Native.Nat.{ℕ, zero, suc, ◌≤◌, zero-le, suc-le-suc}
use Rattle.std.proofs.Math.Decide.{ℕ_discrete}
use Rattle.union_find.specs.Forest.{parent, climb}

abbrev pub Own : List ℕ → ℕ → Type 0
Own p v = parent p v ≡ v

module _ (p : List ℕ) where
  climb-parent : (k v : ℕ) → climb p k (parent p v) ≡ parent p (climb p k v)
  unfolding climb
  climb-parent zero v = refl
  climb-parent (suc k) v = climb-parent k (parent p v)

  -- a climb that has ended stays
  pub climb-on : (k v : ℕ) → Own p (climb p k v) → climb p k (parent p v) ≡ climb p k v
  climb-on k v h = climb-parent k v ∙ h

  pub climb-more : (k v : ℕ) → Own p (climb p k v) → climb p (suc k) v ≡ climb p k v
  unfolding climb
  climb-more k v h = climb-on k v h

  pub climb-own : (k v : ℕ) → Own p v → climb p k v ≡ v
  unfolding climb
  climb-own zero v h = refl
  climb-own (suc k) v h = rw h (climb-own k v h)

  -- no two vertices are each other's parent where the climb ends
  pub no_pair : (k v : ℕ) → parent p (parent p v) ≡ v → Own p (climb p k v) → Own p v
  unfolding climb
  no_pair zero v e h = h
  no_pair (suc k) v e h = let o : Own p (parent p v) = no_pair k (parent p v) (ap (parent p) e) h in sym o ∙ e

  -- steps from v to its root, at most k
  pub depth : ℕ → ℕ → ℕ
  depth zero v = 0
  depth (suc k) v = cond (eqb (parent p v) v) 0 (suc (depth k (parent p v)))

  pub depth_le : (d k v : ℕ) → Own p (climb p k v) → depth d v ≤ k
  unfolding depth climb
  depth_le zero k v h = zero-le
  depth_le (suc d) k v h = go (λ (j : ℕ). depth_le d j (parent p v)) (ℕ_discrete (parent p v) v) k h
    where
      go : ((j : ℕ) → Own p (climb p j (parent p v)) → depth d (parent p v) ≤ j) → Dec (parent p v ≡ v)
          → (k : ℕ) → Own p (climb p k v) → cond (eqb (parent p v) v) 0 (suc (depth d (parent p v))) ≤ k
      go ih (yes e) k h = rw (eq-eqb (parent p v) v e) zero-le
      go ih (no n) zero h = absurd (n h)
      go ih (no n) (suc k) h = rw (ne_eqb (parent p v) v n) (suc-le-suc (ih k h))

  depth-ends : (d v : ℕ) → Own p (climb p d v) → Own p (climb p (depth d v) v)
  unfolding depth climb
  depth-ends zero v h = h
  depth-ends (suc d) v h = go (depth-ends d (parent p v) h) (ℕ_discrete (parent p v) v)
    where
      go : Own p (climb p (depth d (parent p v)) (parent p v)) → Dec (parent p v ≡ v)
          → Own p (climb p (cond (eqb (parent p v) v) 0 (suc (depth d (parent p v)))) v)
      go ih (yes e) = rw (eq-eqb (parent p v) v e) e
      go ih (no n) = rw (ne_eqb (parent p v) v n) ih

  -- a vertex that is no root is one step deeper than its parent
  pub depth-above : (d v : ℕ) → Own p (climb p d v) → (parent p v ≡ v → ⊥)
      → (j : ℕ) × (depth d v ≡ suc j) × Own p (climb p j (parent p v))
  unfolding depth climb
  depth-above zero v h n = absurd (n h)
  depth-above (suc d) v h n = (depth d (parent p v), rw (ne_eqb (parent p v) v n), depth-ends d (parent p v) h)
