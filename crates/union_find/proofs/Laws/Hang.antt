-- A root takes another root as its parent: the vertices below it take that root. This is what `union` does after two calls of `find`.
use Rattle.std.specs.Prelude.{◌≡◌, Bool, true, false, cond, eqb, length}
use Rattle.std.proofs.Math.Path.{refl, ap}
use Rattle.std.proofs.Common.{sym, ◌∙◌, arith, length-set, eq-eqb, ne_eqb, lt-ltb, le-ltb}
use mathlib.Core.List.{List}
use Prim.Native.Nat.{ℕ, zero, suc, ◌≤◌, ◌<◌}
use Rattle.std.proofs.Math.Decide.{ℕ_discrete}
use Rattle.std.proofs.Math.ListN.{set}
use Rattle.union_find.proofs.Laws.Merging.{merge-same}
use Rattle.union_find.specs.Forest.{parent, climb, links, root, Forest, Kept, Found, Merged, MergedLower}
use Rattle.union_find.proofs.Laws.Climb.{Own, climb-more, climb-own}
use Rattle.union_find.proofs.Laws.Store.{at_x, at_other, set-inside, links-one}
use Rattle.union_find.proofs.Laws.Halve.{kept_trans}

module _ (p : List ℕ) (a b : ℕ) (a< : a < length p) (oa : Own p a) (ob : Own p b) (n : b ≡ a → ⊥) where
  hung_own : (r : ℕ) → (r ≡ a → ⊥) → Own p r → Own (set p a b) r
  hung_own r m h = at_other p a b r m ∙ h

  hung_other : (k v : ℕ) → (climb p k v ≡ a → ⊥) → climb (set p a b) k v ≡ climb p k v
  unfolding climb
  hung_other zero v m = refl
  hung_other (suc k) v m =
      let no : v ≡ a → ⊥ = λ e. m (ap (λ (y : ℕ). climb p k (parent p y)) e ∙ climb-own p (suc k) a oa) in
      ap (climb (set p a b) k) (at_other p a b v no) ∙ hung_other k (parent p v) m

  hung_same : (k v : ℕ) → climb p k v ≡ a → climb (set p a b) (suc k) v ≡ b
  unfolding climb
  hung_same zero v e = ap (parent (set p a b)) e ∙ at_x p a b a<
  hung_same (suc k) v e = go (hung_same k (parent p v) e) (ℕ_discrete v a)
    where
      q : List ℕ
      q = set p a b

      go : climb q (suc k) (parent p v) ≡ b → Dec (v ≡ a) → climb q (suc k) (parent q v) ≡ b
      go ih (yes d) = ap (climb q (suc k)) (ap (parent q) d ∙ at_x p a b a<) ∙ climb-own q (suc k) b (hung_own b n ob)
      go ih (no d) = ap (climb q (suc k)) (at_other p a b v d) ∙ ih

  module _ (F : Forest p) (b< : b < length p) where
    hung_root : (v : ℕ) → v < length p → root (set p a b) v ≡ cond (eqb (root p v) a) b (root p v)
    unfolding root
    hung_root v h = rw (links-one p a b a< oa n) (go (ℕ_discrete r a))
      where
        r : ℕ
        r = climb p (links 0 p) v

        go : Dec (r ≡ a) → climb (set p a b) (suc (links 0 p)) v ≡ cond (eqb r a) b r
        go (yes e) = rw (eq-eqb _ _ e) (hung_same (links 0 p) v e)
        go (no m) =
            let s : climb (set p a b) (links 0 p) v ≡ r = hung_other (links 0 p) v m in
            rw (ne_eqb _ _ m) (climb-more (set p a b) (links 0 p) v (rw s (hung_own r m (F.settles v h))) ∙ s)

    hung_settles : (v : ℕ) → v < length p → Own (set p a b) (root (set p a b) v)
    hung_settles v h = rw (hung_root v h) (go (ℕ_discrete (root p v) a))
      where
        go : Dec (root p v ≡ a) → Own (set p a b) (cond (eqb (root p v) a) b (root p v))
        go (yes e) = rw (eq-eqb _ _ e) (hung_own b n ob)
        go (no m) = rw (ne_eqb _ _ m) (hung_own (root p v) m (F.settles v h))

    hung_forest : Forest (set p a b)
    hung_forest =
        record {
          inside = set-inside p a b a< F.inside b<;
          settles = λ v h. hung_settles v (rw (length-set p a b) at h);
        }

climb-inside : (p : List ℕ) → Forest p → (k v : ℕ) → v < length p → climb p k v < length p
unfolding climb
climb-inside p F zero v h = h
climb-inside p F (suc k) v h = climb-inside p F k (parent p v) (F.inside v h)

root-inside : (p : List ℕ) → Forest p → (v : ℕ) → v < length p → root p v < length p
unfolding root
root-inside p F v h = climb-inside p F (links 0 p) v h

-- of a forest s with the roots of p, that of x is hung below that of y
hung : {p s : List ℕ} → Kept p s → (x y rx ry : ℕ) → x < length p → y < length p → rx ≡ root p x → ry ≡ root p y → (rx ≡ ry → ⊥)
    → Merged p x y true (set s rx ry)
hung {p} {s} K x y rx ry x< y< ix iy n =
    let m : ry ≡ rx → ⊥ = λ e. n (sym e) in
    let ox = own x rx x< ix in
    let oy = own y ry y< iy in
    let bx = below x rx x< ix in
    let by = below y ry y< iy in
    record {
      len = length-set s rx ry ∙ K.len;
      forest = hung_forest s rx ry bx ox oy m K.forest by;
      roots = λ v h. hung_root s rx ry bx ox oy m K.forest by v (rw K.len h) ∙ rw (K.same v h, ix, iy);
      is = rw (ne_eqb (root p x) (root p y) (λ e. n (ix ∙ e ∙ sym iy)));
    }
  where
    own : (z r : ℕ) → z < length p → r ≡ root p z → Own s r
    own z r z< i = let e : root s z ≡ r = K.same z z< ∙ sym i in rw e at (K.forest.settles z (rw K.len z<))

    below : (z r : ℕ) → z < length p → r ≡ root p z → r < length s
    below z r z< i = rw (i ∙ sym (K.same z z<)) (root-inside s K.forest z (rw K.len z<))

module _ {p q s : List ℕ} {a b ra rb : ℕ} (a< : a < length p) (b< : b < length p) (A : Found p a ra q) (B : Found q b rb s) where
  both : Kept p s
  both = kept_trans A.kept B.kept

  is_b : rb ≡ root p b
  is_b = B.is ∙ A.kept.same b b<

  pub one_set : ra ≡ rb → Merged p a b false s
  one_set e =
      let ab : root p a ≡ root p b = sym A.is ∙ e ∙ is_b in
      record {
        len = both.len;
        forest = both.forest;
        roots = λ v h. both.same v h ∙ sym (merge-same (root p) a b ab v);
        is = rw (eq-eqb (root p a) (root p b) ab);
      }

  pub two_sets : (ra ≡ rb → ⊥) → Merged p a b true (set s ra rb)
  two_sets n = hung both a b ra rb a< b< A.is is_b n

  -- ---- the lower root stays

  pub first-lower : ra < rb → MergedLower p a b true (set s rb ra)
  first-lower l =
      let M = hung both b a rb ra b< a< is_b A.is (λ e. absurd (omega arith)) in
      let less : root p a < root p b = omega (arith, A.is, is_b) in
      record {
        len = M.len;
        forest = M.forest;
        roots = λ v h. M.roots v h ∙ rw (lt-ltb (root p a) (root p b) less);
        is = rw (ne_eqb (root p a) (root p b) (λ e. absurd (omega arith)));
      }

  -- a merge in which the second root is no higher
  second-lower : {r : Bool} {t : List ℕ} → rb ≤ ra → Merged p a b r t → MergedLower p a b r t
  second-lower l M =
      let less : root p b ≤ root p a = omega (arith, A.is, is_b) in
      record { len = M.len; forest = M.forest; roots = λ v h. M.roots v h ∙ rw (le-ltb (root p a) (root p b) less); is = M.is }

  pub other-lower : rb < ra → MergedLower p a b true (set s ra rb)
  other-lower l = second-lower (omega arith) (two_sets (λ e. absurd (omega arith)))

  pub lower-one : rb ≤ ra → ra ≤ rb → MergedLower p a b false s
  lower-one l m = second-lower l (one_set (omega arith))
