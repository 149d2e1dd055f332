-- What one store into a list of parents changes: a parent, and the number of links.
use Rattle.std.specs.Prelude.{◌≡◌, List, [], ◌∷◌, ℕ, zero, suc, ◌+◌, ◌<◌, length, set}
use Rattle.std.proofs.Common.{add-zero, zero-add, not-suc-le-zero, le_of_suc-le-suc, arith, length-set, get_or-set_same, get_or-set_other, eq-eqb, ne_eqb}
use Rattle.std.proofs.Math.Decide.{ℕ_discrete}
use Rattle.union_find.specs.Forest.{parent, link, links}
use Rattle.union_find.proofs.Laws.Climb.{Own}

module _ (p : List ℕ) (x z : ℕ) where
  pub at_x : x < length p → parent (set p x z) x ≡ z
  at_x h = get_or-set_same p x z 0 h

  pub at_other : (v : ℕ) → (v ≡ x → ⊥) → parent (set p x z) v ≡ parent p v
  at_other v n = get_or-set_other p x v z 0 n

  pub set-inside : x < length p → ((v : ℕ) → v < length p → parent p v < length p) → z < length p
      → (v : ℕ) → v < length (set p x z) → parent (set p x z) v < length (set p x z)
  set-inside x< i z< v h = go (ℕ_discrete v x)
    where
      go : Dec (v ≡ x) → parent (set p x z) v < length (set p x z)
      go (yes e) = rw (e, at_x x<, length-set p x z) z<
      go (no n) = rw (at_other v n, length-set p x z) (i v (rw (length-set p x z) at h))

links-set : (p : List ℕ) (v x z : ℕ) → x < length p → links v (set p x z) + link (v + x) (parent p x) ≡ links v p + link (v + x) z
unfolding links
links-set [] v x z h = absurd (not-suc-le-zero h)
links-set (y ∷ p) v zero z h = rw add-zero (omega arith)
links-set (y ∷ p) v (suc x) z h =
    let ih : links (suc v) (set p x z) + link (suc v + x) (parent p x) ≡ links (suc v) p + link (suc v + x) z =
    links-set p (suc v) x z (le_of_suc-le-suc h) in
    let e : suc v + x ≡ v + suc x = omega arith in
    omega (arith, rw e at ih)

-- another parent for a vertex that is no root
pub links-same : (p : List ℕ) (x z : ℕ) → x < length p → (parent p x ≡ x → ⊥) → (z ≡ x → ⊥) → links 0 (set p x z) ≡ links 0 p
links-same p x z h n m =
    let e = links-set p 0 x z h in
    omega (arith, simp (zero-add, ne_eqb _ _ n, ne_eqb _ _ m) at e)

-- a parent for a root
pub links-one : (p : List ℕ) (x z : ℕ) → x < length p → Own p x → (z ≡ x → ⊥) → links 0 (set p x z) ≡ suc (links 0 p)
links-one p x z h o m =
    let e = links-set p 0 x z h in
    omega (arith, simp (zero-add, eq-eqb _ _ o, ne_eqb _ _ m) at e)
