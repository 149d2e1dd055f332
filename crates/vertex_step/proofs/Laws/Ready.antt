-- Laws of what specs/Ready defines.
use Rattle.std.specs.Prelude.{◌≡◌, refl, List, ℕ, ◌+◌, ◌≤◌, ◌<◌, length, get_or, drop, Float}
use Rattle.std.proofs.Common.{sym, ap, ◌∙◌, arith, get_or-drop, drop-drop}
use Rattle.std.specs.Float.{nan}
use Rattle.transfer_matrix.specs.Job.{Job}
use Rattle.step_tables.specs.Place.{Place}
use Rattle.half_vectors.specs.Symmetric.{SymmetricHalf}
use Rattle.pair_sums.specs.Terms.{half_at}
use Rattle.vertex_step.specs.Frame.{Fits}
use Rattle.vertex_step.proofs.Laws.Frame.{moving-fits, half-held, Wrote, wrote_length, wrote_other, wrote_drop}
use Rattle.vertex_step.proofs.Laws.Same.{symmetric_ext}
use Rattle.vertex_step.specs.Ready.{Ready, BothSwept, Still}

-- a moving place lies in the room
pub moving-place : (plan : List ℕ) (len n w scales p : ℕ) → Ready plan len n w scales → p < 2 → Place len w p
moving-place plan len n w scales p g l =
    record { wide = g.wide; narrow = g.narrow; inside = omega (arith, g.ends, moving-fits w scales p l g.moving) }

-- ---- what is in the room

-- ---- what stays

pub still-none : (r : List Float) (w scales : ℕ) → Still r r w scales
still-none r w scales = record { same = refl; tail = refl; places = λ p a b. refl }

pub still-then : (r₀ r₁ r₂ : List Float) (w scales : ℕ) → Still r₀ r₁ w scales → Still r₁ r₂ w scales → Still r₀ r₂ w scales
still-then r₀ r₁ r₂ w scales a b =
    record { same = b.same ∙ a.same; tail = b.tail ∙ a.tail; places = λ p c d. b.places p c d ∙ a.places p c d }

pub still-ready : (plan : List ℕ) (r₀ r : List Float) (n w scales : ℕ) → Still r₀ r w scales → Ready plan (length r₀) n w scales
    → Ready plan (length r) n w scales
still-ready plan r₀ r n w scales s p = rw s.same p

-- the factors behind the scales
pub tail-factors : (r₀ r : List Float) (scales n : ℕ) → drop scales r ≡ drop scales r₀ → drop (scales + n) r ≡ drop (scales + n) r₀
tail-factors r₀ r scales n e = sym (drop-drop n scales r) ∙ ap (drop n) e ∙ drop-drop n scales r₀

-- a scale
pub tail-scale : (r₀ r : List Float) (scales u : ℕ) → drop scales r ≡ drop scales r₀ → get_or r (scales + u) nan ≡ get_or r₀ (scales + u) nan
tail-scale r₀ r scales u e = sym (get_or-drop scales r u nan) ∙ ap (λ (l : List Float). get_or l u nan) e ∙ get_or-drop scales r₀ u nan

-- so is the half of a place behind the moving ones
still-half : (r₀ r : List Float) (w scales p : ℕ) → Still r₀ r w scales → 2 ≤ p → Fits w scales p → (v : List Float)
    → SymmetricHalf w (half_at r₀ w p) v → SymmetricHalf w (half_at r w p) v
still-half r₀ r w scales p s h f v e = symmetric_ext e (half-held r₀ r w p (s.places p h f))

pub still-swept : (J : Job Float) (plan : List ℕ) (r₀ r : List Float) (n w scales : ℕ) → Ready plan (length r₀) n w scales → Still r₀ r w scales
    → BothSwept J plan r₀ n w scales → BothSwept J plan r n w scales
still-swept J plan r₀ r n w scales p s k =
    record {
      forward = record {
        vectors = λ u b q. still-half r₀ r w scales _ s (p.forward.high u b q) (p.forward.fits u b q) _ (k.forward.vectors u b q);
        scaled = λ u b. tail-scale r₀ r scales u s.tail ∙ k.forward.scaled u b;
      };
      backward = record { vectors = λ u z b q. still-half r₀ r w scales _ s (p.backward.high u b q) (p.backward.fits u b q) _ (k.backward.vectors u z b q) };
    }

-- a half vector that is written to a moving place
pub still_wrote : (plan : List ℕ) (r r' : List Float) (n w scales p : ℕ) → Ready plan (length r) n w scales → p < 2 → Wrote r r' w p → Still r r' w scales
still_wrote plan r r' n w scales p g l d =
    let f = moving-fits w scales p l g.moving in
    let e = g.ends in
    let b : Fits w (length r) p = omega arith in
    record {
      same = wrote_length r r' w p d b;
      tail = wrote_drop r r' w p d b scales f;
      places = λ q c h. wrote_other r r' w p d b q (λ z. omega arith) (omega arith);
    }
