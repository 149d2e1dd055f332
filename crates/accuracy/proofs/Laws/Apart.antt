-- Laws of what specs/Apart defines.
use Rattle.std.specs.Prelude.{◌≡◌, ℕ, ◌+◌, ◌≤◌, Float}
use Rattle.std.proofs.Common.{sym, ◌∙◌, ap₂, subst}
use Rattle.fraction.proofs.Fraction.{ℚ, oneℚ, addℚ}
use Rattle.fraction.proofs.Value.{value}
use Rattle.accuracy.specs.Ring.{nat}
use Rattle.accuracy.proofs.Laws.Ring.{◌⊹◌, ◌⋆◌, ◌≼◌, ≼_refl, ≼-of, ≼_trans, ≼_add, *-one, add_take}
use Rattle.accuracy.proofs.Within.{Within}
use Rattle.accuracy.proofs.Laws.Within.{within_neg, within_mono, within-≼}
use Rattle.accuracy.specs.Rounds.{ε}
use Rattle.accuracy.proofs.Close.{Close, gain}
use Rattle.accuracy.proofs.Laws.Roundings.{most_roundings, gain_bound}
use Rattle.accuracy.proofs.Apart.{Apart}

-- What differs by a number of size r at most is r apart.
pub apart_of : (x y a r : ℚ) → x ≡ y ⊹ a → Within a r → Apart x y r
apart_of x y a r e w = record {
  below = subst (λ z. z ≼ y ⊹ r) (sym e) (≼_add (≼_refl y) (within-≼ w));
  above =
      let h = within-≼ (within_neg w) in
      record { rest = h.rest; is = ap₂ addℚ e h.is ∙ add_take y a h.rest; nonneg = h.nonneg };
}

-- What k roundings do to a number of size at most one: k + 1 units of ε at most.
pub close-apart : (k : ℕ) (x : Float) (e : ℚ) → k ≤ most_roundings → Close k x e oneℚ → Apart (value x) e (nat (k + 1) ⋆ ε)
close-apart k x e h c = apart_of (value x) e c.error (nat (k + 1) ⋆ ε) c.is (within_mono c.small (≼_trans (≼-of _ _ (*-one (gain k))) (gain_bound k h)))
