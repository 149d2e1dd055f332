-- A vertex takes its parent's parent: no root changes, and the climb gets shorter. This is a turn of the loop of `find`.
use Rattle.std.specs.Prelude.{◌≡◌, List, length, set}
use Rattle.std.proofs.Math.Path.{refl, sym, ap}
use Rattle.std.proofs.Common.{◌∙◌, length-set}
use Prim.Native.Nat.{ℕ, zero, suc, ◌<◌, suc-le-suc}
use Rattle.std.proofs.Math.Decide.{ℕ_discrete}
use Rattle.union_find.specs.Forest.{parent, climb, links, root, Forest, Kept, Found}
use Rattle.union_find.proofs.Laws.Climb.{Own, climb-on, climb-own, no_pair, depth, depth_le, depth-above}
use Rattle.union_find.proofs.Laws.Store.{at_x, at_other, set-inside, links-same}

abbrev grandparent : List ℕ → ℕ → ℕ
grandparent p x = parent p (parent p x)

abbrev half : List ℕ → ℕ → List ℕ
half p x = set p x (grandparent p x)

module _ (p : List ℕ) (x : ℕ) (x< : x < length p) where
  half-own : (r : ℕ) → Own p r → Own (half p x) r
  half-own r h = go (ℕ_discrete r x)
    where
      go : Dec (r ≡ x) → Own (half p x) r
      go (yes e) = rw (e, at_x p x (grandparent p x) x<) (let o : Own p x = rw e at h in ap (parent p) o ∙ o)
      go (no n) = at_other p x (grandparent p x) r n ∙ h

  half-climb : (k v : ℕ) → Own p (climb p k v) → climb (half p x) k v ≡ climb p k v
  unfolding climb
  half-climb zero v h = refl
  half-climb (suc k) v h = go (λ (u : ℕ). half-climb k u) (ℕ_discrete v x)
    where
      go : ((u : ℕ) → Own p (climb p k u) → climb (half p x) k u ≡ climb p k u) → Dec (v ≡ x)
          → climb (half p x) k (parent (half p x) v) ≡ climb p k (parent p v)
      go ih (yes e) =
          let up : climb p k (grandparent p v) ≡ climb p k (parent p v) = climb-on p k (parent p v) h in
          let to : parent (half p x) v ≡ grandparent p v =
          ap (parent (half p x)) e ∙ at_x p x (grandparent p x) x< ∙ ap (grandparent p) (sym e) in
          ap (climb (half p x) k) to ∙ ih (grandparent p v) (rw up h) ∙ up
      go ih (no n) = ap (climb (half p x) k) (at_other p x (grandparent p x) v n) ∙ ih (parent p v) h

module _ (p : List ℕ) (F : Forest p) (x : ℕ) (x< : x < length p) where
  up_up : root p (grandparent p x) ≡ root p x
  unfolding root
  up_up =
      let o = F.settles x x< in
      let e : climb p (links 0 p) (parent p x) ≡ climb p (links 0 p) x = climb-on p (links 0 p) x o in
      climb-on p (links 0 p) (parent p x) (rw e o) ∙ e

  module _ (n : parent p x ≡ x → ⊥) where
    half-root : (v : ℕ) → v < length p → root (half p x) v ≡ root p v
    unfolding root
    half-root v h =
        let e = links-same p x (grandparent p x) x< n (λ q. n (no_pair p (links 0 p) x q (F.settles x x<))) in
        rw e (half-climb p x x< (links 0 p) v (F.settles v h))

    halved : Kept p (half p x)
    halved =
        record {
          len = length-set p x (grandparent p x);
          forest = record {
            inside = set-inside p x (grandparent p x) x< F.inside (F.inside (parent p x) (F.inside x x<));
            settles = λ v h.
                let h' : v < length p = rw (length-set p x (grandparent p x)) at h in
                rw (half-root v h') (half-own p x x< (root p v) (F.settles v h'));
          };
          same = half-root;
        }

    -- the loop's measure falls
    pub shallower : depth (half p x) (links 0 (half p x)) (grandparent p x) < depth p (links 0 p) x
    unfolding root
    shallower =
        let above = depth-above p (links 0 p) x (F.settles x x<) n in
        let j = above.0 in
        let z = grandparent p x in
        let e : climb p j z ≡ climb p j (parent p x) = climb-on p j (parent p x) above.2 in
        let o : Own p (climb p j z) = rw e above.2 in
        let o' : Own (half p x) (climb (half p x) j z) = rw (half-climb p x x< j z o) (half-own p x x< (climb p j z) o) in
        rw above.1 (suc-le-suc (depth_le (half p x) (links 0 (half p x)) j z o'))

pub kept_refl : {p : List ℕ} → Forest p → Kept p p
kept_refl F = record { len = refl; forest = F; same = λ v h. refl }

pub kept_trans : {p q r : List ℕ} → Kept p q → Kept q r → Kept p r
kept_trans A B =
    record {
      len = B.len ∙ A.len;
      forest = B.forest;
      same = λ v h. B.same v (rw A.len h) ∙ A.same v h;
    }

-- ---- what the loop of `find` keeps: x has the root of v, at which it began
pub record Climbing (p₀ : List ℕ) (v : ℕ) (p : List ℕ) (x : ℕ) : Type 0 where
  pub kept : Kept p₀ p
  pub below : x < length p
  pub same : root p x ≡ root p₀ v

module _ {p₀ : List ℕ} {v : ℕ} {p : List ℕ} {x : ℕ} (I : Climbing p₀ v p x) where
  pub parent-inside : parent p x < length p
  parent-inside = I.kept.forest.inside x I.below

  pub turn : (parent p x ≡ x → ⊥) → Climbing p₀ v (half p x) (grandparent p x)
  turn n =
      let F = I.kept.forest in
      let z< : grandparent p x < length p = F.inside (parent p x) parent-inside in
      let K = halved p F x I.below n in
      record {
        kept = kept_trans I.kept K;
        below = rw (length-set p x (grandparent p x)) z<;
        same = K.same (grandparent p x) z< ∙ up_up p F x I.below ∙ I.same;
      }

  pub ends : Own p x → Found p₀ v x p
  unfolding root
  ends o =
      record {
        kept = I.kept;
        is = sym (climb-own p (links 0 p) x o) ∙ I.same;
        own = o;
        inside = rw (← I.kept.len) I.below;
      }
