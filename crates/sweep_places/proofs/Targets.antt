-- A step's target lies in the room, is not the source, and keeps no other vertex's vector.
use mathlib.Core.Path.{◌≡◌, sym, ◌∙◌}
use mathlib.Core.Logic.{dite}
use Prim.Native.Nat.{ℕ, ◌*◌, ◌^◌, ◌≤◌, ◌<◌}
use native.Mathlib.Decide.{dec_lt}
use native.Mathlib.Omega.{arith}
use Rattle.vertex_step.specs.Frame.{Fits}
use Rattle.vertex_step.proofs.Laws.Frame.{moving-fits}
use Rattle.vertex_step.specs.Ready.{Own}
use Rattle.sweep_places.specs.Target.{Target, Free}

-- dst is the target of the step from src that makes the vector of t
pub record Aimed (place : ℕ → ℕ) (n w end t src dst : ℕ) : Type 0 where
  pub own : Own place n w end
  pub moving : 2 * 2 ^ w ≤ end
  pub below : t < n
  pub target : Target (place t) src dst

module _ {place : ℕ → ℕ} {n w end t src dst : ℕ} (a : Aimed place n w end t src dst) where
  pub target_fits : Fits w end dst
  target_fits =
      dite (dec_lt 0 (place t))
      (λ p. rw (a.target.keeps p) (a.own.fits t a.below p))
      (λ z. moving-fits w end dst (a.target.moves (omega arith)) a.moving)

  pub target_own : (u : ℕ) → u < n → (u ≡ t → ⊥) → 0 < place u → dst ≡ place u → ⊥
  target_own u l ne p e =
      dite (dec_lt 0 (place t))
      (λ q. ne (sym (a.own.apart t u a.below l q (sym (a.target.keeps q) ∙ e))))
      (λ z. omega (arith, a.target.moves (omega arith), a.own.high u l p))

  -- p keeps a vector of the other kind
  pub target_kind : (p : ℕ) → 2 ≤ p → (p ≡ place t → ⊥) → p ≡ dst → ⊥
  target_kind p l ne e =
      dite (dec_lt 0 (place t))
      (λ q. ne (e ∙ a.target.keeps q))
      (λ z. omega (arith, a.target.moves (omega arith)))

  pub target_other : (Ahead : ℕ → Type 0) → Free place n w end src Ahead → Ahead t → src ≡ dst → ⊥
  target_other Ahead free here e =
      dite (dec_lt 0 (place t))
      (λ q. free.off t a.below here q (e ∙ a.target.keeps q))
      (λ z. a.target.other (omega arith) (sym e))

  pub target_free : (Ahead : ℕ → Type 0) → ((u : ℕ) → Ahead u → u ≡ t → ⊥) → Free place n w end dst Ahead
  target_free Ahead later = record { fits = target_fits; off = λ u l q p e. target_own u l (later u q) p e }
