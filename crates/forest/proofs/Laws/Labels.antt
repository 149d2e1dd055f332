-- Laws of what specs/Labels defines.
use Rattle.std.specs.Prelude.{◌≡◌, true, false, cond, List, ◌⊎◌, eqb, length}
use Rattle.std.proofs.Math.Path.{refl, sym, ap, subst}
use Rattle.std.proofs.Common.{◌∙◌, inl, inr, le_refl, not-suc-le-zero, arith, eq-eqb, ne_eqb, eqb-true}
use Rattle.std.proofs.Math.Bool.{not, true≢false}
use Prim.Native.Nat.{ℕ, zero, suc, ◌≤◌, ◌<◌}
use Rattle.std.proofs.Math.Decide.{ℕ_discrete}
use Rattle.std.proofs.lemmas.Bool.{not-false}
use Rattle.union_find.proofs.Laws.Merging.{merge_in, merge_out, merge-below, merge-own, merge_cong, merge-late}
use Rattle.forest.specs.Paths.{end, Edges, Link, Joined, stay, along, Closes}
use Rattle.forest.specs.Labels.{labels, is_tree}

module _ (early late : List ℕ) where
  -- ---- paths

  onto : {i u v w : ℕ} → Joined early late i u v → Joined early late i v w → Joined early late i u w
  onto stay q = q
  onto (along s p) q = along s (onto p q)

  more : {i u v : ℕ} → Joined early late i u v → Joined early late (suc i) u v
  more stay = stay
  more (along s p) = along (s.0, omega (arith, s.1), s.2) (more p)

  flip : {i u v : ℕ} → Link early late i u v → Link early late i v u
  flip s = (s.0, s.1, go s.2)
    where
      go : {A B C D : Type 0} → (A × B) ⊎ (C × D) → (D × C) ⊎ (B × A)
      go (inl x) = inr (x.1, x.0)
      go (inr y) = inl (y.1, y.0)

  last : (i : ℕ) → Link early late (suc i) (end early i) (end late i)
  last i = (i, le_refl (suc i), inl (refl, refl))

  -- ---- one label, one path

  label_in : (i v : ℕ) → labels early late i v ≡ labels early late i (end early i)
      → labels early late (suc i) v ≡ labels early late i (end late i)
  unfolding labels
  label_in i v e = merge_in (labels early late i) (end early i) (end late i) v e

  label_out : (i v : ℕ) → (labels early late i v ≡ labels early late i (end early i) → ⊥)
      → labels early late (suc i) v ≡ labels early late i v
  unfolding labels
  label_out i v n = merge_out (labels early late i) (end early i) (end late i) v n

  -- the ends of an edge have one label after it
  edge-labels : (i e : ℕ) → e < i → labels early late i (end early e) ≡ labels early late i (end late e)
  unfolding labels
  edge-labels zero e h = absurd (not-suc-le-zero h)
  edge-labels (suc i) e h = go (edge-labels i e) (ℕ_discrete e i)
    where
      go : (e < i → labels early late i (end early e) ≡ labels early late i (end late e)) → Dec (e ≡ i)
          → labels early late (suc i) (end early e) ≡ labels early late (suc i) (end late e)
      go ih (yes q) = rw q (label_in i (end early i) refl ∙ sym (merge-late (labels early late i) (end early i) (end late i)))
      go ih (no n) = merge_cong (labels early late i) (end early i) (end late i) (end early e) (end late e) (ih (omega arith))

  pub joined-labels : {i u v : ℕ} → Joined early late i u v → labels early late i u ≡ labels early late i v
  joined-labels stay = refl
  joined-labels {i} (along {u = u} {v = v} (e, h, ends) p) = go ends ∙ joined-labels p
    where
      go : ((u ≡ end early e) × (v ≡ end late e)) ⊎ ((u ≡ end late e) × (v ≡ end early e)) → labels early late i u ≡ labels early late i v
      go (inl q) = rw (q.0, q.1) (edge-labels i e h)
      go (inr q) = rw (q.0, q.1) (sym (edge-labels i e h))

  pub labels-joined : (i u v : ℕ) → labels early late i u ≡ labels early late i v → Joined early late i u v
  unfolding labels
  labels-joined zero u v e = subst (λ (x : ℕ). Joined early late zero u x) e stay
  labels-joined (suc i) u v e = go (labels-joined i) (ℕ_discrete (f u) (f (end early i))) (ℕ_discrete (f v) (f (end early i)))
    where
      f : ℕ → ℕ
      f x = labels early late i x

      go : ((x y : ℕ) → f x ≡ f y → Joined early late i x y) → Dec (f u ≡ f (end early i)) → Dec (f v ≡ f (end early i))
          → Joined early late (suc i) u v
      go ih (yes p) (yes q) = more (ih u v (p ∙ sym q))
      go ih (yes p) (no q) =
          onto (more (ih u (end early i) p)) (along (last i) (more (ih (end late i) v (sym (label_in i u p) ∙ e ∙ label_out i v q))))
      go ih (no p) (yes q) =
          onto (more (ih u (end late i) (sym (label_out i u p) ∙ e ∙ label_in i v q)))
          (along (flip (last i)) (more (ih (end early i) v (sym q))))
      go ih (no p) (no q) = more (ih u v (sym (label_out i u p) ∙ e ∙ label_out i v q))

  -- ---- a label is itself a vertex of the graph, and has this label

  pub label-own : (i v : ℕ) → labels early late i (labels early late i v) ≡ labels early late i v
  unfolding labels
  label-own zero v = refl
  label-own (suc i) v = merge-own (labels early late i) (end early i) (end late i) (label-own i) v

  pub label-below : {n : ℕ} → Edges n early late → (i : ℕ) → i ≤ length early → (v : ℕ) → v < n → labels early late i v < n
  unfolding labels
  label-below E zero h v l = l
  label-below {n} E (suc i) h v l =
      let below = label-below E i (omega arith) in
      merge-below (labels early late i) (end early i) (end late i) n (below (end late i) (E.late_below i h)) v (below v l)

  -- ---- an edge passes the test exactly where no path of earlier edges joins its ends

  pub tree_open : (e : ℕ) → is_tree early late e ≡ true → Closes early late e → ⊥
  unfolding is_tree
  tree_open e t p = true≢false (sym t ∙ ap not (eq-eqb _ _ (joined-labels p)))

  pub free_closes : (e : ℕ) → is_tree early late e ≡ false → Closes early late e
  unfolding is_tree
  free_closes e t = labels-joined e (end early e) (end late e) (eqb-true _ _ (not-false _ t))
