-- Laws of what specs/Close defines.
use Rattle.std.specs.Prelude.{◌≡◌, refl, ℕ, zero, suc, ◌+◌, ◌-◌, ◌≤◌, T, Float}
use Rattle.std.proofs.Common.{sym, ◌∙◌, ap, ap₂, subst, add-zero, add-suc, arith}
use Rattle.std.specs.Float.{binary64}
use Rattle.std.specs.Float.Ieee.{add, sub, mul, div, neg}
use Rattle.std.specs.Float.Ieee.Positive.{positive}
use Rattle.std.specs.Float.Ieee.Scale.{finite}
use Rattle.fraction.proofs.Fraction.{ℚ, zeroℚ, oneℚ, addℚ, mulℚ, negℚ, invℚ}
use Rattle.fraction.proofs.Laws.Fraction.{pos_inv}
use Rattle.fraction.proofs.Value.{value}
use Rattle.fraction.proofs.Laws.Value.{value_pos}
use Rattle.accuracy.specs.Ring.{NonNeg}
use Rattle.accuracy.proofs.Laws.Ring.{◌⊹◌, ◌⋆◌, ‐◌, ◌≼◌, ≼_trans, ≼-times, ≼-more, sorted, spread, nn_add, nn_mul, nn_zero, nn_pos}
use Rattle.accuracy.proofs.Laws.Ring.{nn_one, *_assoc, +_assoc, +_zero, zero_*, *-+, +-*, neg_+}
use Rattle.accuracy.proofs.Within.{Within}
use Rattle.accuracy.proofs.Laws.Within.{within_nonneg, within_zero, within_neg, within_mono, within_add, within_mul, within_nn}
use Rattle.accuracy.specs.Rounds.{ε}
use Rattle.accuracy.proofs.Laws.Rounds.{ε_nn, Rounds}
use Rattle.accuracy.specs.Laws.Rounds.{smallest}
use Rattle.accuracy.proofs.Laws.Operations.{add_rounds, sub_rounds, mul_rounds, div_rounds, value_neg}
use Rattle.accuracy.proofs.Close.{gain, Close}

pub gain_nn : (k : ℕ) → NonNeg (gain k)
unfolding gain
gain_nn zero = nn_zero
gain_nn (suc k) = nn_add _ _ (gain_nn k) (nn_mul _ _ ε_nn (nn_add _ _ nn_one (gain_nn k)))

-- Roundings one after the other.
pub gain_add : (k l : ℕ) → gain (k + l) ≡ (gain k ⊹ gain l) ⊹ gain k ⋆ gain l
unfolding gain
gain_add k zero = ap gain (add-zero k) ∙ ring (gain k)
  where
    ring : (a : ℚ) → a ≡ (a ⊹ zeroℚ) ⊹ a ⋆ zeroℚ
    ring a = simp spread
gain_add k (suc l) = ap gain (add-suc k l) ∙ ap (λ x. x ⊹ ε ⋆ (oneℚ ⊹ x)) (gain_add k l) ∙ ring (gain k) (gain l) ε
  where
    ring : (a b e : ℚ) → ((a ⊹ b) ⊹ a ⋆ b) ⊹ e ⋆ (oneℚ ⊹ ((a ⊹ b) ⊹ a ⋆ b)) ≡ (a ⊹ (b ⊹ e ⋆ (oneℚ ⊹ b))) ⊹ a ⋆ (b ⊹ e ⋆ (oneℚ ⊹ b))
    ring a b e = simp (spread, sorted)

-- The more roundings, the more they come to.
pub gain_mono : (k l : ℕ) → k ≤ l → gain k ≼ gain l
gain_mono k l h =
    let e : k + (l - k) ≡ l = omega arith in
    subst (λ (n : ℕ). gain k ≼ gain n) e (record {
      rest = gain (l - k) ⊹ gain k ⋆ gain (l - k);
      is = gain_add k (l - k) ∙ +_assoc _ _ _;
      nonneg = nn_add _ _ (gain_nn (l - k)) (nn_mul _ _ (gain_nn k) (gain_nn (l - k)));
    })

-- A double that stands for e is close to e, with no rounding.
pub close-exact : (x : Float) (e m : ℚ) → value x ≡ e → Within e m → Close 0 x e m
unfolding gain
close-exact x e m h w = record { error = zeroℚ; is = h ∙ sym (+_zero e); small = subst (Within zeroℚ) (sym (zero_* m)) (within_zero zeroℚ nn_zero); size = w }

-- More roundings allow more.
pub close_mono : {k : ℕ} {x : Float} {e m : ℚ} (l : ℕ) → k ≤ l → Close k x e m → Close l x e m
close_mono {k} {x} {e} {m} l h c = record {
  error = c.error;
  is = c.is;
  small = within_mono c.small (subst (λ z. gain k ⋆ m ≼ z) refl (right (gain_mono k l h)));
  size = c.size;
}
  where
    right : gain k ≼ gain l → gain k ⋆ m ≼ gain l ⋆ m
    right h = record { rest = h.rest ⋆ m; is = ap (λ z. z ⋆ m) h.is ∙ +-* _ _ _; nonneg = nn_mul _ _ h.nonneg (within_nn c.size) }

-- One rounding more, of a number up to M, which is not below the smallest normal double.
close_rounds : {k : ℕ} {z : Float} {q e d m : ℚ} (M : ℚ) → Rounds z q → q ≡ e ⊹ d → Within d (gain k ⋆ m) → Within e m
    → m ≼ M → smallest ≼ M → Close (suc k) z e M
unfolding gain
close_rounds {k} {z} {q} {e} {d} {m} M r h w s l f =
    let g = gain k in
    let d' : Within d (g ⋆ M) = within_mono w (≼-times g (gain_nn k) l) in
    let e' : Within e M = within_mono s l in
    let whole : Within q (M ⊹ g ⋆ M) = subst (λ x. Within x (M ⊹ g ⋆ M)) (sym h) (within_add e' d') in
    let n : NonNeg (g ⋆ M) = within_nn d' in
    let err : Within r.error (ε ⋆ (M ⊹ g ⋆ M)) = r.small (M ⊹ g ⋆ M) whole (≼_trans f (≼-more M (g ⋆ M) n)) in
    record {
      error = d ⊹ r.error;
      is = r.is ∙ ap (λ x. x ⊹ r.error) h ∙ +_assoc e d r.error;
      small = subst (Within (d ⊹ r.error)) (ring g M ε) (within_add d' err);
      size = e';
    }
  where
    ring : (g M u : ℚ) → g ⋆ M ⊹ u ⋆ (M ⊹ g ⋆ M) ≡ (g ⊹ u ⋆ (oneℚ ⊹ g)) ⋆ M
    ring g M u = simp (spread, sorted)

module _ {k : ℕ} {x y : Float} {e f m n : ℚ} where
  -- The rounded sum, difference, negative, product and quotient of numbers that are close.
  pub close_add : (M : ℚ) → T (finite (add binary64 x y)) → Close k x e m → Close k y f n → m ⊹ n ≼ M → smallest ≼ M
      → Close (suc k) (add binary64 x y) (e ⊹ f) M
  close_add M h a b l s =
      close_rounds M (add_rounds x y h) (ap₂ addℚ a.is b.is ∙ ring e a.error f b.error)
      (subst (Within (a.error ⊹ b.error)) (sym (*-+ (gain k) m n)) (within_add a.small b.small)) (within_add a.size b.size) l s
    where
      ring : (e a f b : ℚ) → (e ⊹ a) ⊹ (f ⊹ b) ≡ (e ⊹ f) ⊹ (a ⊹ b)
      ring e a f b = simp sorted

  pub close_sub : (M : ℚ) → T (finite (sub binary64 x y)) → Close k x e m → Close k y f n → m ⊹ n ≼ M → smallest ≼ M
      → Close (suc k) (sub binary64 x y) (e ⊹ ‐ f) M
  close_sub M h a b l s =
      close_rounds M (sub_rounds x y h) (ap₂ (λ p q. p ⊹ ‐ q) a.is b.is ∙ ring e a.error f b.error)
      (subst (Within (a.error ⊹ ‐ b.error)) (sym (*-+ (gain k) m n)) (within_add a.small (within_neg b.small)))
      (within_add a.size (within_neg b.size)) l s
    where
      ring : (e a f b : ℚ) → (e ⊹ a) ⊹ ‐ (f ⊹ b) ≡ (e ⊹ ‐ f) ⊹ (a ⊹ ‐ b)
      ring e a f b = simp (neg_+, sorted)

pub close_neg : {k : ℕ} {x : Float} {e m : ℚ} → Close k x e m → Close k (neg x) (‐ e) m
close_neg {k} {x} {e} {m} c = record {
  error = ‐ c.error;
  is = value_neg x ∙ ap negℚ c.is ∙ neg_+ e c.error;
  small = within_neg c.small;
  size = within_neg c.size;
}

pub close_mul : {k l : ℕ} {x y : Float} {e f m n : ℚ} (M : ℚ) → T (finite (mul binary64 x y)) → Close k x e m → Close l y f n → m ⋆ n ≼ M → smallest ≼ M
    → Close (suc (k + l)) (mul binary64 x y) (e ⋆ f) M
close_mul {k} {l} {x} {y} {e} {f} {m} {n} M h a b s t =
    close_rounds M (mul_rounds x y h) (ap₂ mulℚ a.is b.is ∙ expand e a.error f b.error)
    (subst (Within ((a.error ⋆ f ⊹ e ⋆ b.error) ⊹ a.error ⋆ b.error)) (ring (gain k) (gain l) m n ∙ ap (λ z. z ⋆ (m ⋆ n)) (sym (gain_add k l)))
    (within_add (within_add (within_mul a.small b.size) (within_mul a.size b.small)) (within_mul a.small b.small)))
    (within_mul a.size b.size) s t
  where
    expand : (e a f b : ℚ) → (e ⊹ a) ⋆ (f ⊹ b) ≡ e ⋆ f ⊹ ((a ⋆ f ⊹ e ⋆ b) ⊹ a ⋆ b)
    expand e a f b = simp (spread, sorted)

    ring : (g h m n : ℚ) → ((g ⋆ m) ⋆ n ⊹ m ⋆ (h ⋆ n)) ⊹ (g ⋆ m) ⋆ (h ⋆ n) ≡ ((g ⊹ h) ⊹ g ⋆ h) ⋆ (m ⋆ n)
    ring g h m n = simp (spread, sorted)

pub close_div : {k : ℕ} {x : Float} {e m : ℚ} (y : Float) (M : ℚ) → T (positive y) → T (finite (div binary64 x y)) → Close k x e m
    → m ⋆ invℚ (value y) ≼ M → smallest ≼ M → Close (suc k) (div binary64 x y) (e ⋆ invℚ (value y)) M
close_div {k} {x} {e} {m} y M p h a s t =
    let i = invℚ (value y) in
    let w : Within i i = within_nonneg i (nn_pos i (pos_inv (value y) (value_pos y p))) in
    close_rounds M (div_rounds x y p h) (ap (λ z. z ⋆ i) a.is ∙ +-* e a.error i)
    (subst (Within (a.error ⋆ i)) (*_assoc (gain k) m i) (within_mul a.small w)) (within_mul a.size w) s t
