-- What is summed where a pair's sums are read is the definition's N and Z.
use mathlib.Core.Path.{◌≡◌, refl, sym, ap, ◌∙◌, subst}
use mathlib.Core.Bool.{Bool}
use mathlib.Core.List.{List}
use Prim.Native.Nat.{ℕ, ◌-◌, ◌^◌, ◌≤◌, ◌<◌}
use native.Mathlib.Omega.{arith}
use lib.ListN.{length}
use lib.Ieee.{Float}
use borrow.Author.Tests.{lt-ltb, le-ltb}
use Rattle.transfer_matrix.specs.Arithmetic.{sum, signed_sum}
use Rattle.transfer_matrix.specs.Job.{Job}
use Rattle.transfer_matrix.specs.Rounded.{ieee}
use Rattle.transfer_matrix.specs.Sweep as S
use Rattle.plan_steps.specs.Layout.{forward_place, backward_place}
use Rattle.step_tables.specs.Place.{Place}
use Rattle.half_vectors.specs.Symmetric.{SymmetricHalf}
use Rattle.half_vectors.specs.Antisymmetric.{AntisymmetricHalf}
use Rattle.pair_sums.specs.Terms.{half_at, terms, signs}
use Rattle.pair_sums.specs.declared.sums.Source.{Source}
use Rattle.pair_sums.specs.Pair.{Sourced, SumsOf}
use Rattle.pair_sums.proofs.Laws.Vertex.{Z-is, direct_is, propagated-is}
use Rattle.vertex_step.specs.Ready.{Ready}
use Rattle.vertex_step.proofs.Laws.Ready.{still-none, still-ready, moving-place}
use Rattle.propagation.specs.declared.current.CurrentVector.{CurrentVector}
use Rattle.pair_correlations.specs.declared.pair.Aim.{Aim}
use Rattle.propagation.specs.Current.{PlanSwept, Propagated}
use Rattle.propagation.proofs.Laws.Current.{still-passed}
use Rattle.pair_correlations.specs.Aim.{PairPlaces, VertexHalves, SourceOf, DirectSource, Aimed}

-- of the halves at places f and b
abbrev z_at : List Float → ℕ → ℕ → ℕ → Float
z_at r w f b = sum ieee (2 ^ w) (terms w (half_at r w f) (half_at r w b))

-- of the halves at places g and b, subtracted where bits 0 and d differ
abbrev n_at : List Float → ℕ → ℕ → ℕ → ℕ → Float
n_at r w d g b = signed_sum ieee (2 ^ w) (signs w d) (terms w (half_at r w g) (half_at r w b))

-- ---- the sums over the job's vectors

module _ (J : Job Float) (w u v : ℕ) (window : J.window ≡ w) where
  nearer : v - u < w → S.N ieee J u v ≡ S.direct_n ieee J u v
  unfolding S.N
  nearer l = rw (lt-ltb (v - u) J.window (omega arith))

  far : w ≤ v - u → S.N ieee J u v ≡ S.propagated_n ieee J u v
  unfolding S.N
  far l = rw (le-ltb (v - u) J.window (omega arith))

  module _ (h k : ℕ → Float) (wide : 1 ≤ w) (backward-is : SymmetricHalf w k (S.backward ieee J v)) where
    z_sum : SymmetricHalf w h (S.forward ieee J v) → sum ieee (2 ^ w) (terms w h k) ≡ S.Z ieee J v
    z_sum =
        subst
        (λ (m : ℕ). 1 ≤ m → SymmetricHalf m k (S.backward ieee J v) → SymmetricHalf m h (S.forward ieee J v) → sum ieee (2 ^ m) (terms m h k) ≡ S.Z ieee J v) window
        (λ a b c. Z-is J h k u v a b c) wide backward-is

    direct-sum : v - u < w → SymmetricHalf w h (S.forward ieee J v) → signed_sum ieee (2 ^ w) (signs w (v - u)) (terms w h k) ≡ S.N ieee J u v
    direct-sum l e =
        subst
        (λ (m : ℕ). 1 ≤ m → SymmetricHalf m k (S.backward ieee J v) → v - u < m → SymmetricHalf m h (S.forward ieee J v)
        → signed_sum ieee (2 ^ m) (signs m (v - u)) (terms m h k) ≡ S.direct_n ieee J u v) window
        (λ a b c d. direct_is J h k u v a b c d) wide backward-is l e
        ∙ sym (nearer l)

    propagated-sum : w ≤ v - u → AntisymmetricHalf w h (S.propagated ieee J u (v - u)) → signed_sum ieee (2 ^ w) (signs w w) (terms w h k) ≡ S.N ieee J u v
    propagated-sum l o =
        subst
        (λ (m : ℕ). 1 ≤ m → SymmetricHalf m k (S.backward ieee J v) → AntisymmetricHalf m h (S.propagated ieee J u (v - u))
        → signed_sum ieee (2 ^ m) (signs m m) (terms m h k) ≡ S.propagated_n ieee J u v) window
        (λ a b c. propagated-is J h k u v a b c) wide backward-is o
        ∙ sym (far l)

-- ---- the places of v

module _ (plan : List ℕ) (len n w scales u v : ℕ) (ready : Ready plan len n w scales) (pair : PairPlaces plan n w u v) where
  pub forward-at : Place len w (forward_place plan v)
  forward-at =
      let fits = ready.forward.fits v pair.inside pair.forward in
      record { wide = ready.wide; narrow = ready.narrow; inside = omega (arith, ready.ends) }

  pub backward-at : Place len w (backward_place plan v)
  backward-at =
      let fits = ready.backward.fits v pair.inside pair.backward in
      record { wide = ready.wide; narrow = ready.narrow; inside = omega (arith, ready.ends) }

  -- there both sweeps left the halves of v
  pub swept-halves : (J : Job Float) (r : List Float) (elementwise : Bool) → PlanSwept J plan r n w scales elementwise
      → VertexHalves J r w (forward_place plan v) (backward_place plan v) v
  swept-halves J r elementwise passed =
      record {
        window = passed.of.window;
        forward = passed.swept.forward.vectors v pair.inside pair.forward;
        backward = passed.swept.backward.vectors v (omega arith) pair.inside pair.backward;
      }

z-at : (J : Job Float) (r : List Float) (w f b u v : ℕ) → VertexHalves J r w f b v → 1 ≤ w → z_at r w f b ≡ S.Z ieee J v
z-at J r w f b u v h wide = z_sum J w u v h.window _ _ wide h.backward h.forward

-- ---- a direct pair

-- where its sums are read is decided by the vertices and their places
source_is : (s : Source) {f g b d : ℕ} → s.f ≡ f → s.g ≡ g → s.b ≡ b → s.d ≡ d → s ≡ record { f = f; g = g; b = b; d = d }
source_is s {f} {g} {b} {d} ef eg eb ed =
    ap (λ (x : ℕ). record { f = x; g = s.g; b = s.b; d = s.d }) ef
    ∙ ap (λ (x : ℕ). record { f = f; g = x; b = s.b; d = s.d }) eg
    ∙ ap (λ (x : ℕ). record { f = f; g = g; b = x; d = s.d }) eb
    ∙ ap (λ (x : ℕ). record { f = f; g = g; b = b; d = x }) ed

pub direct-same : (f b u v u' : ℕ) (s t : Source) → DirectSource f b u v s → DirectSource f b u' v t → u' ≡ u → t ≡ s
direct-same f b u v u' s t d e same =
    source_is t e.forward e.other e.backward (e.bit ∙ ap (λ (k : ℕ). v - k) same)
    ∙ sym (source_is s d.forward d.other d.backward d.bit)

module _ (r : List Float) (w f b u v : ℕ) (s : Source) (at_f : Place (length r) w f) (at_b : Place (length r) w b) (order : u < v) (near : v - u < w)
    (d : DirectSource f b u v s) where
  pub direct-sourced : Sourced (length r) w s
  direct-sourced = record {
    forward = rw d.forward at_f;
    other = rw d.other at_f;
    backward = rw d.backward at_b;
    some = rw d.bit (omega arith);
    small = rw d.bit (omega (arith, at_f.narrow));
  }

  pub direct_of : (J : Job Float) → VertexHalves J r w f b v → SourceOf J r w u v s
  direct_of J h = record {
    z_of = λ t g. rw (d.forward, d.backward) at g.z_is ∙ z-at J r w f b u v h at_f.wide;
    n-of = λ t g. rw (d.other, d.backward, d.bit) at g.n-is ∙ direct-sum J w u v h.window _ _ at_f.wide h.backward near h.forward;
  }

-- ---- what the code returns

module _ (plan : List ℕ) (r₀ : List Float) (n w scales u v : ℕ) (current : CurrentVector) (s : Source) (ready : Ready plan (length r₀) n w scales)
    (pair : PairPlaces plan n w u v) (d : DirectSource (forward_place plan v) (backward_place plan v) u v s) where
  -- with the room r, of r₀'s length
  halves : (r : List Float) → length r ≡ length r₀ → Place (length r) w (forward_place plan v) × Place (length r) w (backward_place plan v)
  halves r e = rw e (forward-at plan (length r₀) n w scales u v ready pair, backward-at plan (length r₀) n w scales u v ready pair)

  pub aimed_direct : v - u < w → current.place < 2 → (a : Aim) → a.source ≡ s → a.current ≡ current → Aimed plan r₀ r₀ n w scales u v current a
  aimed_direct l low a es eh =
      record {
        moving = rw eh low;
        still = still-none r₀ w scales;
        sourced = rw es (direct-sourced r₀ w _ _ u v s (halves r₀ refl).0 (halves r₀ refl).1 pair.order l d);
        known = λ J elementwise passed known. rw eh known;
        source_of = λ J elementwise passed known. rw es
            (direct_of r₀ w _ _ u v s (halves r₀ refl).0 (halves r₀ refl).1 pair.order l d J (swept-halves plan (length r₀) n w scales u v ready pair J r₀ elementwise passed));
      }

  -- the propagated vector is read in place of the forward one, with the window's bit
  pub aimed_far : (r : List Float) (on : ℕ) → w ≤ v - u → Propagated plan r₀ r n w scales u v current on → (a : Aim)
      → a.source ≡ record { f = s.f; g = on; b = s.b; d = w } → a.current ≡ record { vertex = u; reached = v; place = on }
      → Aimed plan r₀ r n w scales u v current a
  aimed_far r on l g a es eh =
      let p = still-ready plan r₀ r n w scales g.still ready in
      let now : (J : Job Float) (elementwise : Bool) → PlanSwept J plan r₀ n w scales elementwise → PlanSwept J plan r n w scales elementwise =
      λ J elementwise passed. still-passed J plan r₀ r n w scales elementwise ready g.still passed in
      let halves-now : (J : Job Float) (elementwise : Bool) → PlanSwept J plan r₀ n w scales elementwise
      → VertexHalves J r w (forward_place plan v) (backward_place plan v) v =
      λ J elementwise passed. swept-halves plan (length r) n w scales u v p pair J r elementwise (now J elementwise passed) in
      record {
        moving = rw eh g.moving;
        still = g.still;
        sourced = rw es (record {
          forward = rw d.forward (forward-at plan (length r) n w scales u v p pair);
          other = moving-place _ _ _ _ _ _ p g.moving;
          backward = rw d.backward (backward-at plan (length r) n w scales u v p pair);
          some = ready.wide;
          small = omega (arith, ready.narrow);
        });
        known = λ J elementwise passed known. rw eh (record { reached = λ _. g.reached J elementwise passed known });
        source_of = λ J elementwise passed known. rw es (record {
          z_of = λ t h. rw (d.forward, d.backward) at h.z_is
              ∙ z-at J r w _ _ u v (halves-now J elementwise passed) ready.wide;
          n-of = λ t h. rw d.backward at h.n-is
              ∙ propagated-sum J w u v passed.of.window _ _ ready.wide
              (halves-now J elementwise passed).backward l (g.reached J elementwise passed known).vector;
        });
      }
