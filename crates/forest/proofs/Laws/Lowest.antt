-- Laws of what specs/Lowest defines.
use Rattle.std.specs.Prelude.{◌≡◌, Bool, true, false, not, List, ◌⊎◌, eqb, ltb, length}
use Rattle.std.proofs.Math.Path.{refl}
use Rattle.std.proofs.Common.{sym, ap, ◌∙◌, inl, inr, add-one, arith, eq-eqb, ne_eqb, eqb-true, lt-ltb, le-ltb}
use Rattle.std.proofs.Math.Bool.{cond}
use Prim.Native.Nat.{ℕ, zero, suc, ◌+◌, ◌≤◌, ◌<◌}
use Rattle.std.proofs.Math.Decide.{ℕ_discrete, dec_lt}
use Rattle.std.proofs.Math.Nat.{le_refl}
use Rattle.std.proofs.lemmas.Bool.{eqb-false}
use Rattle.list_laws.specs.Count.{count}
use Rattle.list_laws.proofs.Laws.Count.{count_zero, count_hit, count_miss}
use Rattle.forest.specs.Paths.{end, Edges, Joined}
use Rattle.union_find.specs.Merging.{merge}
use Rattle.forest.specs.Labels.{labels, is_tree}
use Rattle.union_find.proofs.Laws.Merging.{merge_in, merge_out, merge-own, merge-below}
use Rattle.forest.proofs.Laws.Labels.{joined-labels, labels-joined}
use Rattle.forest.specs.Components.{component_count}
use Rattle.forest.proofs.Laws.Components.{own_count, one_less, own_and_trees, trees_and_components}
use Rattle.union_find.specs.Merging.{merge_lower}
use Rattle.forest.specs.Lowest.{lowest}

-- ---- one merge, whichever of the two labels stays

-- u and v have one label after the labels of a and b are merged
abbrev Meet : (ℕ → ℕ) → ℕ → ℕ → ℕ → ℕ → Type 0
Meet f a b u v = (f u ≡ f v) ⊎ (((f u ≡ f a) × (f v ≡ f b)) ⊎ ((f u ≡ f b) × (f v ≡ f a)))

module _ (f : ℕ → ℕ) (a b : ℕ) where
  merged_meet : (u v : ℕ) → merge f a b u ≡ merge f a b v → Meet f a b u v
  merged_meet u v e = go (ℕ_discrete (f u) (f a)) (ℕ_discrete (f v) (f a))
    where
      go : Dec (f u ≡ f a) → Dec (f v ≡ f a) → Meet f a b u v
      go (yes p) (yes q) = inl (p ∙ sym q)
      go (yes p) (no q) = inr (inl (p, sym (merge_out f a b v q) ∙ sym e ∙ merge_in f a b u p))
      go (no p) (yes q) = inr (inr (sym (merge_out f a b u p) ∙ e ∙ merge_in f a b v q, q))
      go (no p) (no q) = inl (sym (merge_out f a b u p) ∙ e ∙ merge_out f a b v q)

  at_b : (v : ℕ) → f v ≡ f b → merge f a b v ≡ f b
  at_b v e = go (ℕ_discrete (f v) (f a))
    where
      go : Dec (f v ≡ f a) → merge f a b v ≡ f b
      go (yes p) = merge_in f a b v p
      go (no p) = merge_out f a b v p ∙ e

  meet_merged : (u v : ℕ) → Meet f a b u v → merge f a b u ≡ merge f a b v
  meet_merged u v (inl e) = ap (λ (x : ℕ). cond (eqb x (f a)) (f b) x) e
  meet_merged u v (inr (inl (p, q))) = merge_in f a b u p ∙ sym (at_b v q)
  meet_merged u v (inr (inr (p, q))) = at_b u p ∙ sym (merge_in f a b v q)

meet-turned : (f : ℕ → ℕ) (a b u v : ℕ) → Meet f a b u v → Meet f b a u v
meet-turned f a b u v (inl e) = inl e
meet-turned f a b u v (inr (inl p)) = inr (inr p)
meet-turned f a b u v (inr (inr p)) = inr (inl p)

-- labels that tell the same vertices apart
pub record Alike (f g : ℕ → ℕ) : Type 0 where
  pub to : (u v : ℕ) → f u ≡ f v → g u ≡ g v
  pub from : (u v : ℕ) → g u ≡ g v → f u ≡ f v

meet_alike : {f g : ℕ → ℕ} → ((u v : ℕ) → f u ≡ f v → g u ≡ g v) → (a b u v : ℕ) → Meet f a b u v → Meet g a b u v
meet_alike h a b u v (inl e) = inl (h u v e)
meet_alike h a b u v (inr (inl (p, q))) = inr (inl (h u a p, h v b q))
meet_alike h a b u v (inr (inr (p, q))) = inr (inr (h u b p, h v a q))

-- the two ways in which the lower label stays
lower-is : (f : ℕ → ℕ) (a b : ℕ) → ((f a < f b) × ((v : ℕ) → merge_lower f a b v ≡ merge f b a v)) ⊎ ((f b ≤ f a) × ((v : ℕ) → merge_lower f a b v ≡ merge f a b v))
lower-is f a b = go (dec_lt (f a) (f b))
  where
    go : Dec (f a < f b) → ((f a < f b) × ((v : ℕ) → merge_lower f a b v ≡ merge f b a v)) ⊎ ((f b ≤ f a) × ((v : ℕ) → merge_lower f a b v ≡ merge f a b v))
    go (yes l) = inl (l, λ v. rw (lt-ltb (f a) (f b) l))
    go (no m) = let h : f b ≤ f a = omega arith in inr (h, λ v. rw (le-ltb (f a) (f b) h))

merge_alike : (f g : ℕ → ℕ) (a b : ℕ) → Alike f g → Alike (merge_lower f a b) (merge g a b)
merge_alike f g a b A = go (lower-is f a b)
  where
    go : ((f a < f b) × ((v : ℕ) → merge_lower f a b v ≡ merge f b a v)) ⊎ ((f b ≤ f a) × ((v : ℕ) → merge_lower f a b v ≡ merge f a b v))
        → Alike (merge_lower f a b) (merge g a b)
    go (inl (l, is)) = record {
      to = λ u v e. meet_merged g a b u v (meet_alike A.to a b u v (meet-turned f b a u v (merged_meet f b a u v (sym (is u) ∙ e ∙ is v))));
      from = λ u v e. is u ∙ meet_merged f b a u v (meet-turned f a b u v (meet_alike A.from a b u v (merged_meet g a b u v e))) ∙ sym (is v);
    }
    go (inr (l, is)) = record {
      to = λ u v e. meet_merged g a b u v (meet_alike A.to a b u v (merged_meet f a b u v (sym (is u) ∙ e ∙ is v)));
      from = λ u v e. is u ∙ meet_merged f a b u v (meet_alike A.from a b u v (merged_meet g a b u v e)) ∙ sym (is v);
    }

-- ---- the lowest label of each vertex, edge by edge

module _ (early late : List ℕ) where
  abbrev low : ℕ → ℕ → ℕ
  low = lowest early late

  -- what holds of a merge either way holds of the one that leaves the lower label
  each_way : (P : (ℕ → ℕ) → Type 0) (f : ℕ → ℕ) (a b : ℕ) → ((g : ℕ → ℕ) → ((v : ℕ) → g v ≡ merge f b a v) → P g)
      → ((g : ℕ → ℕ) → ((v : ℕ) → g v ≡ merge f a b v) → P g) → P (merge_lower f a b)
  each_way P f a b one other = go (lower-is f a b)
    where
      go : ((f a < f b) × ((v : ℕ) → merge_lower f a b v ≡ merge f b a v)) ⊎ ((f b ≤ f a) × ((v : ℕ) → merge_lower f a b v ≡ merge f a b v))
          → P (merge_lower f a b)
      go (inl (l, is)) = one (merge_lower f a b) is
      go (inr (l, is)) = other (merge_lower f a b) is

  own_by : (f g : ℕ → ℕ) (a b : ℕ) → ((v : ℕ) → f (f v) ≡ f v) → ((v : ℕ) → g v ≡ merge f a b v) → (v : ℕ) → g (g v) ≡ g v
  own_by f g a b own is v = ap g (is v) ∙ is (merge f a b v) ∙ merge-own f a b own v ∙ sym (is v)

  -- it is itself a vertex with this label,
  pub lowest-own : (i v : ℕ) → low i (low i v) ≡ low i v
  unfolding lowest
  lowest-own zero v = refl
  lowest-own (suc i) v =
      each_way (λ g. (v : ℕ) → g (g v) ≡ g v) (low i) (end early i) (end late i)
      (λ g is. own_by (low i) g (end late i) (end early i) (lowest-own i) is)
      (λ g is. own_by (low i) g (end early i) (end late i) (lowest-own i) is) v

  -- no higher than the vertex,
  pub lowest-least : (i v : ℕ) → low i v ≤ v
  unfolding lowest
  lowest-least zero v = le_refl v
  lowest-least (suc i) v = go (lower-is (low i) (end early i) (end late i)) (lowest-least i v)
    where
      a : ℕ
      a = end early i

      b : ℕ
      b = end late i

      taken : (x y : ℕ) → low i y ≤ low i x → low i v ≤ v → merge (low i) x y v ≤ v
      taken x y l h = at (ℕ_discrete (low i v) (low i x))
        where
          at : Dec (low i v ≡ low i x) → merge (low i) x y v ≤ v
          at (yes e) = rw (merge_in (low i) x y v e) (omega arith)
          at (no m) = rw (merge_out (low i) x y v m) h

      go : ((low i a < low i b) × ((v : ℕ) → merge_lower (low i) a b v ≡ merge (low i) b a v))
          ⊎ ((low i b ≤ low i a) × ((v : ℕ) → merge_lower (low i) a b v ≡ merge (low i) a b v)) → low i v ≤ v → merge_lower (low i) a b v ≤ v
      go (inl (l, is)) h = rw (is v) (taken b a (omega arith) h)
      go (inr (l, is)) h = rw (is v) (taken a b l h)

  -- and tells apart what the labels do
  pub lowest_alike : (i : ℕ) → Alike (low i) (labels early late i)
  unfolding lowest labels
  lowest_alike zero = record { to = λ u v e. e; from = λ u v e. e }
  lowest_alike (suc i) = merge_alike (low i) (labels early late i) (end early i) (end late i) (lowest_alike i)

  -- an edge is a tree edge exactly where its ends differ in the lowest label before it
  pub tree_apart : (i : ℕ) → is_tree early late i ≡ not (eqb (low i (end early i)) (low i (end late i)))
  unfolding is_tree
  tree_apart i = go (ℕ_discrete (low i (end early i)) (low i (end late i)))
    where
      A : Alike (low i) (labels early late i)
      A = lowest_alike i

      go : Dec (low i (end early i) ≡ low i (end late i))
          → not (eqb (labels early late i (end early i)) (labels early late i (end late i)))
          ≡ not (eqb (low i (end early i)) (low i (end late i)))
      go (yes e) = rw (eq-eqb _ _ e, eq-eqb _ _ (A.to _ _ e))
      go (no m) = rw (ne_eqb _ _ m, ne_eqb _ _ (λ e. m (A.from _ _ e)))

  -- ---- by paths

  pub lowest-none : (v : ℕ) → low (length early) v ≡ v → (u : ℕ) → u < v → Joined early late (length early) u v → ⊥
  lowest-none v e u h j =
      let same : low (length early) u ≡ low (length early) v = (lowest_alike (length early)).from u v (joined-labels early late j) in
      omega (arith, lowest-least (length early) u)

  pub lowest-some : (v : ℕ) → (low (length early) v ≡ v → ⊥) → (u : ℕ) × (u < v) × Joined early late (length early) u v
  lowest-some v m =
      let u = low (length early) v in
      let less : u < v = omega (arith, lowest-least (length early) v) in
      (u, less, labels-joined early late (length early) u v ((lowest_alike (length early)).to u v (lowest-own (length early) v)))

-- ---- as many as there are components

eqb_turned : (x y : ℕ) → eqb x y ≡ eqb y x
eqb_turned x y = go (ℕ_discrete x y)
  where
    go : Dec (x ≡ y) → eqb x y ≡ eqb y x
    go (yes e) = rw e
    go (no m) = ne_eqb x y m ∙ sym (ne_eqb y x (λ e. m (sym e)))

module _ {n : ℕ} {early late : List ℕ} (E : Edges n early late) where
  pub lowest-below : (i : ℕ) (v : ℕ) → v < n → lowest early late i v < n
  lowest-below i v h = omega (arith, lowest-least early late i v)

  one_lower : (i : ℕ) → i < length early → cond (is_tree early late i) 1 0 + own_count (lowest early late (suc i)) n ≡ own_count (lowest early late i) n
  unfolding lowest
  one_lower i h =
      rw (tree_apart early late i)
      (each_way early late (λ g. cond (not (eqb (f a) (f b))) 1 0 + own_count g n ≡ own_count f n) f a b
      (λ g is. rw (eqb_turned (f a) (f b)) (one_less f b a n g is own (lowest-below i b (E.late_below i h))))
      (λ g is. one_less f a b n g is own (lowest-below i a (E.early-below i h))))
    where
      f : ℕ → ℕ
      f v = lowest early late i v

      a : ℕ
      a = end early i

      b : ℕ
      b = end late i

      own : (v : ℕ) → f (f v) ≡ f v
      own v = lowest-own early late i v

  -- so many vertices are the lowest of their component
  pub lowest-count : count (λ v. eqb (lowest early late (length early) v) v) n ≡ component_count n early late
  unfolding lowest
  lowest-count =
      omega (arith, own_and_trees n (is_tree early late) (lowest early late) (length early) (λ v. refl) one_lower, trees_and_components E)
