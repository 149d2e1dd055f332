-- Laws of what specs/Components defines.
use Rattle.std.specs.Prelude.{◌≡◌, refl, Bool, true, false, not, List, eqb, length}
use Rattle.std.proofs.Common.{sym, ap, ◌∙◌, le_refl, add-one, arith, eq-eqb, ne_eqb, eqb-true}
use Rattle.std.proofs.Math.Bool.{cond}
use Prim.Native.Nat.{ℕ, zero, suc, ◌+◌, ◌-◌, ◌≤◌, ◌<◌}
use Rattle.std.proofs.Math.Decide.{ℕ_discrete}
use Rattle.list_laws.specs.Count.{count}
use Rattle.list_laws.proofs.Laws.Count.{count_zero, count_hit, count_miss, count_ext}
use Rattle.forest.specs.Paths.{end, Edges, Joined}
use Rattle.union_find.specs.Merging.{merge}
use Rattle.forest.specs.Labels.{labels, is_tree}
use Rattle.union_find.proofs.Laws.Merging.{merge_in, merge_out, merge-same}
use Rattle.forest.proofs.Laws.Labels.{label-own, label-below}
use Rattle.forest.proofs.Laws.Labels.{joined-labels, labels-joined}
use Rattle.forest.specs.Components.{stands, component_count}

-- ---- what is counted: each component has exactly one vertex that stands for it, its label
module _ (early late : List ℕ) where
  pub component_stands : (v : ℕ) → stands early late (length early) (labels early late (length early) v) ≡ true
  component_stands v = eq-eqb _ _ (label-own early late (length early) v)

  pub component_joined : (v : ℕ) → Joined early late (length early) v (labels early late (length early) v)
  component_joined v =
      labels-joined early late (length early) v (labels early late (length early) v) (sym (label-own early late (length early) v))

  pub component_once : (u v : ℕ) → stands early late (length early) u ≡ true → stands early late (length early) v ≡ true
      → Joined early late (length early) u v → u ≡ v
  component_once u v p q j = sym (eqb-true _ _ p) ∙ joined-labels early late j ∙ eqb-true _ _ q

-- ---- counts of two tests

count-all : (test : ℕ → Bool) (n : ℕ) → ((i : ℕ) → test i ≡ true) → count test n ≡ n
unfolding count
count-all test zero h = refl
count-all test (suc n) h = rw (h n) (omega (arith, count-all test n h))

-- tests that differ at r alone
module _ (s t : ℕ → Bool) (r : ℕ) (sr : s r ≡ true) (tr : t r ≡ false) (same : (i : ℕ) → (i ≡ r → ⊥) → s i ≡ t i) where
  count_less : (n : ℕ) → r < n → count s n ≡ count t n + 1
  unfolding count
  count_less zero h = absurd (omega arith)
  count_less (suc n) h = go (count_less n) (ℕ_discrete n r)
    where
      go : (r < n → count s n ≡ count t n + 1) → Dec (n ≡ r) → count s n + cond (s n) 1 0 ≡ count t n + cond (t n) 1 0 + 1
      go ih (yes e) =
          let before : count s n ≡ count t n = count_ext s t n (λ i l. same i (λ d. absurd (omega arith))) in
          rw (e, sr, tr) (omega (arith, rw e at before))
      go ih (no m) = rw (same n m) (omega (arith, ih (omega arith)))

-- ---- a merge of two labels, where each label is its own: a's label falls away, and no other

-- how many of the vertices below n are their own label
abbrev pub own_count : (ℕ → ℕ) → ℕ → ℕ
own_count f n = count (λ v. eqb (f v) v) n

module _ (f : ℕ → ℕ) (a b n : ℕ) where
  merge_none : f a ≡ f b → own_count (merge f a b) n ≡ own_count f n
  merge_none e =
      count_ext (λ v. eqb (merge f a b v) v) (λ v. eqb (f v) v) n (λ v l. ap (λ (x : ℕ). eqb x v) (merge-same f a b e v))

  module _ (own : (v : ℕ) → f (f v) ≡ f v) (ne : f a ≡ f b → ⊥) where
    merge-other : (v : ℕ) → (v ≡ f a → ⊥) → eqb (f v) v ≡ eqb (merge f a b v) v
    merge-other v m = go (ℕ_discrete (f v) (f a))
      where
        go : Dec (f v ≡ f a) → eqb (f v) v ≡ eqb (merge f a b v) v
        go (yes e) =
            ne_eqb _ _ (λ q. m (sym q ∙ e))
            ∙ sym (ne_eqb _ _ (λ q. ne (sym e ∙ ap f (sym q ∙ merge_in f a b v e) ∙ own b)))
        go (no k) = ap (λ (x : ℕ). eqb x v) (sym (merge_out f a b v k))

    merge-one : f a < n → own_count f n ≡ own_count (merge f a b) n + 1
    merge-one h =
        let falls : eqb (merge f a b (f a)) (f a) ≡ false = ne_eqb _ _ (λ e. ne (sym e ∙ merge_in f a b (f a) (own a))) in
        count_less (λ v. eqb (f v) v) (λ v. eqb (merge f a b v) v) (f a) (eq-eqb _ _ (own a)) falls merge-other n h

  -- the merged labels as a function: one less where two were merged
  pub one_less : (g : ℕ → ℕ) → ((v : ℕ) → g v ≡ merge f a b v) → ((v : ℕ) → f (f v) ≡ f v) → f a < n
      → cond (not (eqb (f a) (f b))) 1 0 + own_count g n ≡ own_count f n
  one_less g is own below = rw same (go (ℕ_discrete (f a) (f b)))
    where
      same : own_count g n ≡ own_count (merge f a b) n
      same = count_ext (λ v. eqb (g v) v) (λ v. eqb (merge f a b v) v) n (λ v l. ap (λ (x : ℕ). eqb x v) (is v))

      go : Dec (f a ≡ f b) → cond (not (eqb (f a) (f b))) 1 0 + own_count (merge f a b) n ≡ own_count f n
      go (yes e) = rw (eq-eqb _ _ e) (omega (arith, merge_none e))
      go (no m) = rw (ne_eqb _ _ m) (omega (arith, merge-one own m below))

-- labels that begin as the vertices themselves, and of which each tree edge merges two: trees and labels together are as many as the vertices
pub own_and_trees : (n : ℕ) (tree : ℕ → Bool) (g : ℕ → ℕ → ℕ) (k : ℕ) → ((v : ℕ) → g 0 v ≡ v)
    → ((i : ℕ) → i < k → cond (tree i) 1 0 + own_count (g (suc i)) n ≡ own_count (g i) n) → count tree k + own_count (g k) n ≡ n
unfolding count
own_and_trees n tree g zero start step = rw (count_zero tree) (omega (arith, count-all (λ v. eqb (g 0 v) v) n (λ v. eq-eqb _ _ (start v))))
own_and_trees n tree g (suc k) start step = omega (arith, own_and_trees n tree g k start (λ i l. step i (omega arith)), step k (omega arith))

module _ {n : ℕ} {early late : List ℕ} (E : Edges n early late) where
  pub component_below : (v : ℕ) → v < n → labels early late (length early) v < n
  component_below v h = label-below early late E (length early) (le_refl (length early)) v h

  -- ---- each tree edge makes of two components one

  one_merged : (i : ℕ) → i < length early → cond (is_tree early late i) 1 0 + own_count (labels early late (suc i)) n ≡ own_count (labels early late i) n
  unfolding labels is_tree
  one_merged i h =
      one_less (labels early late i) (end early i) (end late i) n (labels early late (suc i)) (λ v. refl) (label-own early late i)
      (label-below early late E i (omega arith) (end early i) (E.early-below i h))

  pub trees_and_components : count (is_tree early late) (length early) + component_count n early late ≡ n
  unfolding component_count labels
  trees_and_components = own_and_trees n (is_tree early late) (labels early late) (length early) (λ v. refl) one_merged
