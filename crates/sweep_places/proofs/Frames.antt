-- What a sweep leaves as it was, step by step; and what the steps ask of the room.
use mathlib.Core.Path.{◌≡◌, refl, ◌∙◌}
use mathlib.Core.List.{List}
use Prim.Native.Nat.{ℕ, ◌+◌, ◌≤◌, ◌<◌}
use native.Mathlib.Omega.{arith}
use lib.ListN.{length}
use lib.Ieee.{Float}
use Rattle.transfer_matrix.specs.Job.{Job}
use Rattle.plan_steps.specs.Layout.{forward_place, backward_place}
use Rattle.step_tables.specs.Place.{Place}
use Rattle.vertex_step.proofs.Laws.Same.{symmetric_ext}
use Rattle.vertex_step.specs.Frame.{Fits}
use Rattle.vertex_step.proofs.Laws.Frame.{half-held, Wrote, wrote_length, wrote_other, wrote_drop}
use Rattle.vertex_step.specs.Ready.{Ready, Own, Stepping, Forward, Backward}
use Rattle.vertex_step.proofs.Laws.Ready.{tail-scale}
use Rattle.sweep_places.specs.Kept.{Since}

-- ---- what is asked

module _ {plan : List ℕ} {len n w scales : ℕ} (g : Ready plan len n w scales) where
  pub place_of : (p : ℕ) → Fits w scales p → Place len w p
  place_of p f = let e = g.ends in record { wide = g.wide; narrow = g.narrow; inside = omega arith }

  pub stepping : (t src dst : ℕ) → t < n → Fits w scales src → Fits w scales dst → (src ≡ dst → ⊥) → Stepping plan len w (scales + n) t src dst
  stepping t src dst b f d other =
      record {
        reads = record { holds = omega (arith, g.holds); ends = g.ends; vertex = g.vertex t b };
        places = record { from = place_of src f; to = place_of dst d; other = other };
      }

-- ---- what stays

pub since_none : (place : ℕ → ℕ) (r : List Float) (n w k : ℕ) → Since place r r n w k
since_none place r n w k = record { same = refl; tail = refl; vectors = λ u b p. refl }

pub since-then : {place : ℕ → ℕ} {r₀ r r' : List Float} {n w k : ℕ} → Since place r₀ r n w k → Since place r r' n w k → Since place r₀ r' n w k
since-then s a = record { same = a.same ∙ s.same; tail = a.tail ∙ s.tail; vectors = λ u b p. a.vectors u b p ∙ s.vectors u b p }

-- a vector that is written where none of these is kept
pub since_wrote : {plan : List ℕ} (place : ℕ → ℕ) (r r' : List Float) {n w scales : ℕ} (k p : ℕ) → Ready plan (length r) n w scales → Own place n w scales
    → scales ≤ k → Fits w scales p → ((u : ℕ) → u < n → 0 < place u → place u ≡ p → ⊥) → Wrote r r' w p → Since place r r' n w k
since_wrote place r r' {w = w} k p g own h f off d =
    let b = (place_of g p f).inside in
    record {
      same = wrote_length r r' w p d b;
      tail = wrote_drop r r' w p d b k (omega arith);
      vectors = λ u c q. wrote_other r r' w p d b (place u) (off u c q) (place_of g (place u) (own.fits u c q)).inside;
    }

-- what the forward sweep left is there still
pub since-forward : {plan : List ℕ} {r₀ r : List Float} {n w scales : ℕ} → Since (forward_place plan) r₀ r n w scales → (J : Job Float)
    → Forward J plan r₀ w scales n → Forward J plan r w scales n
since-forward {plan} {r₀} {r} {n} {w} {scales} s J k =
    record {
      vectors = λ u b p. symmetric_ext (k.vectors u b p) (half-held r₀ r w (forward_place plan u) (s.vectors u b p));
      scaled = λ u b. tail-scale r₀ r scales u s.tail ∙ k.scaled u b;
    }

-- and what the backward sweep before it kept
pub since-backward : {plan : List ℕ} {r₀ r : List Float} {n w k : ℕ} → Since (backward_place plan) r₀ r n w k → (J : Job Float) (c : ℕ)
    → Backward J plan r₀ n w c → Backward J plan r n w c
since-backward {plan} {r₀} {r} {n} {w} s J c k =
    record { vectors = λ u a b p. symmetric_ext (k.vectors u a b p) (half-held r₀ r w (backward_place plan u) (s.vectors u b p)) }
