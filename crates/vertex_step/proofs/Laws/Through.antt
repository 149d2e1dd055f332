-- Laws of what specs/Through defines.
use Rattle.std.specs.Prelude.{◌≡◌, List, ℕ, Float}
use Rattle.std.proofs.Common.{inl, inr, eq-eqb, ne_eqb}
use Rattle.vertex_step.specs.Through.{Second, Through, through}

pub second-of : {plan : List ℕ} {len w factors t last : ℕ} → Through plan len w factors t last → (last ≡ t → ⊥) → Second plan len w factors last
second-of (inl e) ne = absurd (ne e)
second-of (inr s) ne = s

-- ---- laws

module _ (step : ℕ → Float → (ℕ → Float) → ℕ → Float) (t last : ℕ) (scale then : Float) (h : ℕ → Float) where
  pub through-one : last ≡ t → through step t last scale then h ≡ step t scale h
  unfolding through
  through-one e = rw (eq-eqb last t e)

  pub through-two : (last ≡ t → ⊥) → through step t last scale then h ≡ step last then (step t scale h)
  unfolding through
  through-two e = rw (ne_eqb last t e)
