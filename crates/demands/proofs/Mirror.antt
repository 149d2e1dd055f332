-- The mirror rule: where every spin is flipped, index k becomes 2^window - 1 - k. What it says of the vectors of one job and its pairs; and of the halves in
-- the room, which stand for these vectors and for no others.
use Rattle.std.specs.Prelude.{◌≡◌, true, List, ℕ, ◌+◌, ◌-◌, ◌^◌, ◌≤◌, ◌<◌, T, Float, length}
use Rattle.std.proofs.Common.{sym, subst}
use Rattle.std.specs.Float.Ieee.{eq}
use Rattle.std.specs.Float.Ieee.Scale.{finite}
use Rattle.std.specs.Float.Ieee.Positive.{positive-finite}
use Rattle.rounding.proofs.Laws.Alike.{alike_is, alike_sym, alike_neg}
use Rattle.rounding.proofs.Laws.Negation.{neg_neg}
use Rattle.transfer_matrix.specs.Job.{Job}
use Rattle.transfer_matrix.specs.Room.{earlier, later, Arrangement, keeps_forward, keeps_backward}
use Rattle.transfer_matrix.specs.Rounded.{ieee}
use Rattle.transfer_matrix.specs.Sweep as S
use Rattle.bounds.proofs.Bounds.{forward-finite, backward-finite, propagated-under}
use Rattle.half_vectors.specs.Symmetric.{SymmetricHalf}
use Rattle.half_vectors.specs.Antisymmetric.{AntisymmetricHalf}
use Rattle.plan_steps.specs.Layout.{forward_place, backward_place}
use Rattle.pair_sums.specs.Terms.{half_at}
use Rattle.vertex_step.specs.Ready.{Forward, Backward}
use Rattle.sweep_places.specs.BackwardInvariant.{NewestBackward}
use Rattle.propagation.specs.Current.{Reached}
use Rattle.pair_correlations.specs.Aim.{VertexHalves}
use Rattle.demands.proofs.OneJob.{Z-positive}
use Rattle.demands.specs.OneJob.{Sound}
use Rattle.demands.proofs.Laws.Kept.{forward_for, backward_for}
use Rattle.demands.proofs.Laws.Mirror.{alike_equal, forwards_symmetric, backwards_symmetric, propagated_opposite}
use Rattle.demands.specs.Mirror.{mirror, Mirrored, LowerHalf, LowerHalfAlike}

module _ {J : Job Float} {us vs : List ℕ} (ok : Sound J us vs) where
  Z-finite : (i : ℕ) → i < length us → T (finite (S.Z ieee J (later us vs i)))
  Z-finite i l = positive-finite (S.Z ieee J (later us vs i)) (Z-positive ok i l)

  pub mirrored : Mirrored J us vs
  mirrored =
      let wide = ok.checked.window in
      record {
        forward = λ i l t k h b.
            alike_equal (alike_is (sym ((forwards_symmetric J wide t).flipped k b))) (forward-finite J ok.checked (later us vs i) t h (Z-finite i l) k b);
        backward = λ i l k b.
            alike_equal (alike_is (sym ((backwards_symmetric J wide (later us vs i)).flipped k b))) (backward-finite J ok.checked (later us vs i) (Z-finite i l) k b);
        propagated = λ i l t k h b.
            alike_equal (propagated_opposite J wide (earlier us vs i) t k b)
            ((propagated-under J ok.checked (earlier us vs i) t k).size
            (forward-finite J ok.checked (later us vs i) (earlier us vs i + t) h (Z-finite i l) k b)).is_finite;
        forward-same = λ t k b. sym ((forwards_symmetric J wide t).flipped k b);
        backward-same = λ t k b. sym ((backwards_symmetric J wide t).flipped k b);
        propagated_alike = λ u t k b. propagated_opposite J wide u t k b;
      }

-- The vectors that are kept for a job's pairs are among these, in either arrangement.
module _ {J : Job Float} {us vs : List ℕ} (m : Mirrored J us vs) where
  pub kept-forward : (t k : ℕ) → keeps_forward J.window us vs t ≡ true → k < 2 ^ J.window
      → T (eq (S.at ieee (S.forward ieee J t) k) (S.at ieee (S.forward ieee J t) (mirror J.window k)))
  kept-forward t k e b = forward_for J.window us vs t (λ i l h. m.forward i l t k h b) e

  pub kept-backward : (arrangement : Arrangement) (t k : ℕ) → keeps_backward arrangement J.window us vs t ≡ true → k < 2 ^ J.window
      → T (eq (S.at ieee (S.backward ieee J t) k) (S.at ieee (S.backward ieee J t) (mirror J.window k)))
  kept-backward arrangement t k e b =
      backward_for J.window us vs t arrangement
      (λ i l h.
      subst (λ (v : ℕ). T (eq (S.at ieee (S.backward ieee J v) k) (S.at ieee (S.backward ieee J v) (mirror J.window k)))) h (m.backward i l k b)) e

-- ---- the room: a place holds 2 ^ (w - 1) numbers, the lower half of a vector

symmetric_lower : {r : List Float} {w p : ℕ} {v : List Float} → SymmetricHalf w (half_at r w p) v → LowerHalf r w p v
symmetric_lower e = record { low = λ j b. sym (e.low j b); high = λ j b. sym (e.high j b) }

antisymmetric_lower : {r : List Float} {w p : ℕ} {v : List Float} → AntisymmetricHalf w (half_at r w p) v → LowerHalfAlike r w p v
antisymmetric_lower e = record { low = λ j b. alike_sym (e.low j b); high = λ j b. rw neg_neg at (alike_sym (alike_neg (e.high j b))) }

-- The forward sweep leaves the halves of the definition's forward vectors,
pub forward-halves : {J : Job Float} {plan : List ℕ} {r : List Float} {w scales t : ℕ} → Forward J plan r w scales t → (u : ℕ) → u < t → 0 < forward_place plan u
    → LowerHalf r w (forward_place plan u) (S.forward ieee J u)
forward-halves g u l p = symmetric_lower (g.vectors u l p)

-- the backward sweep those of its backward vectors, where they are kept,
pub backward-halves : {J : Job Float} {plan : List ℕ} {r : List Float} {n w t : ℕ} → Backward J plan r n w t → (u : ℕ) → t ≤ u → u < n → 0 < backward_place plan u
    → LowerHalf r w (backward_place plan u) (S.backward ieee J u)
backward-halves g u a l p = symmetric_lower (g.vectors u a l p)

-- and at the vertex where it stops that of the newest, kept or not.
pub newest-half : {J : Job Float} {plan : List ℕ} {r : List Float} {n w t src : ℕ} {most : Float} → NewestBackward J plan r n w t src most
    → LowerHalf r w src (S.backward ieee J t)
unfolding S.backward
newest-half g = symmetric_lower g.vector

-- A direct pair is answered from the halves of its later vertex's vectors, kept or in passing,
pub vertex-halves : {J : Job Float} {r : List Float} {w f b v : ℕ} → VertexHalves J r w f b v
    → LowerHalf r w f (S.forward ieee J v) × LowerHalf r w b (S.backward ieee J v)
vertex-halves g = (symmetric_lower g.forward, symmetric_lower g.backward)

-- and a propagated one from the half of the definition's propagated vector, wherever it has come to:
pub reached-half : {J : Job Float} {r : List Float} {w u t at : ℕ} → Reached J r w u t at → LowerHalfAlike r w at (S.propagated ieee J u (t - u))
reached-half g = antisymmetric_lower g.vector
