-- What k roundings come to: (1 + ε) ^ k - 1 as a multiple of ε.
use Rattle.std.specs.Prelude.{◌≡◌}
use Rattle.std.proofs.Common.{sym, ◌∙◌, subst₂, mul-le-mul, mul-le-mul_left, le_trans, lit≤}
use Rattle.std.proofs.Math.Path.{ap, subst}
use Prim.Native.Nat.{ℕ, zero, suc, ◌+◌, ◌*◌, ◌-◌, ◌^◌, ◌≤◌, ◌<◌}
use native.Mathlib.Omega.{arith}
use Rattle.fraction.proofs.Fraction.{ℚ, oneℚ}
use Rattle.accuracy.specs.Ring.{nat}
use Rattle.accuracy.proofs.Laws.Ring.{◌⊹◌, ◌⋆◌, ◌≼◌, ≼_refl, ≼-of, ≼_trans, ≼_add, ≼-times, nat_add, nat_mul, nn_add, sorted, spread}
use Rattle.accuracy.proofs.Laws.Ring.{nn_one, +-*, +_assoc, +_zero, zero_+, one-*, *-one, *_assoc, *_comm}
use Rattle.accuracy.specs.Rounds.{ε}
use Rattle.accuracy.proofs.Laws.Rounds.{ε_nn, ε-one}
use Rattle.accuracy.proofs.Close.{gain}
use Rattle.accuracy.proofs.Laws.Close.{gain_nn}
use Rattle.accuracy.proofs.Laws.Sizes.{cancel, above-nat, same, nat_mono}

≼-ε : {x y : ℚ} → x ≼ y → x ⋆ ε ≼ y ⋆ ε
≼-ε {x} {y} h = subst₂ ◌≼◌ (*_comm ε x) (*_comm ε y) (≼-times ε ε_nn h)

-- ---- Bernoulli's inequality, G being one over ε

module _ (G : ℕ) (G-one : nat G ⋆ ε ≡ oneℚ) where
  -- (1 + ε) m is at most m + 1, where m is at most 1 / ε.
  one_more : (m : ℕ) → m ≤ G → (oneℚ ⊹ ε) ⋆ nat m ≼ nat (suc m)
  one_more m h =
      let e : suc m ≡ m + 1 = omega arith in
      subst₂ ◌≼◌ (sym (+-* oneℚ ε (nat m) ∙ ap (λ z. z ⊹ ε ⋆ nat m) (one-* (nat m)))) (sym (ap nat e ∙ nat_add m 1))
      (≼_add (≼_refl (nat m)) (subst (λ z. ε ⋆ nat m ≼ z) (*_comm ε (nat G) ∙ G-one) (≼-times ε ε_nn (nat_mono m G h))))

  bernoulli : (k : ℕ) → k ≤ G → (oneℚ ⊹ gain k) ⋆ nat (G - k) ≼ nat G
  unfolding gain
  bernoulli zero h = let z : G - 0 ≡ G = omega arith in ≼-of _ _ (ap (λ x. x ⋆ nat (G - 0)) (+_zero oneℚ) ∙ one-* _ ∙ ap nat z)
  bernoulli (suc k) h =
      let m = G - suc k in
      let e : suc (G - suc k) ≡ G - k = omega arith in
      let x = subst (λ (n : ℕ). (oneℚ ⊹ ε) ⋆ nat m ≼ nat n) e (one_more m (omega arith)) in
      ≼_trans (≼-of _ _ (ring (gain k) ε (nat m)))
      (≼_trans (≼-times (oneℚ ⊹ gain k) (nn_add _ _ nn_one (gain_nn k)) x) (bernoulli k (omega arith)))
    where
      ring : (g e m : ℚ) → (oneℚ ⊹ (g ⊹ e ⋆ (oneℚ ⊹ g))) ⋆ m ≡ (oneℚ ⊹ g) ⋆ ((oneℚ ⊹ e) ⋆ m)
      ring g e m = simp (spread, sorted)

  enough : (k c : ℕ) → k ≤ G → k * G ≤ c * (G - k) → nat G ≼ nat (G - k) ⋆ (oneℚ ⊹ nat c ⋆ ε)
  enough k c l h =
      let e : G ≡ G - k + k = omega arith in
      let b : nat k ≼ (nat c ⋆ nat (G - k)) ⋆ ε =
      subst₂ ◌≼◌ (ap (λ z. z ⋆ ε) (nat_mul k G) ∙ *_assoc (nat k) (nat G) ε ∙ ap (λ z. nat k ⋆ z) G-one ∙ *-one (nat k)) (ap (λ z. z ⋆ ε) (nat_mul c (G - k)))
      (≼-ε (nat_mono (k * G) (c * (G - k)) h)) in
      subst₂ ◌≼◌ (sym (ap nat e ∙ nat_add (G - k) k)) (ring (nat (G - k)) (nat c) ε) (≼_add (≼_refl (nat (G - k))) b)
    where
      ring : (m k e : ℚ) → m ⊹ (k ⋆ m) ⋆ e ≡ m ⋆ (oneℚ ⊹ k ⋆ e)
      ring m k e = simp (spread, sorted)

  gain-within : (k c : ℕ) → k < G → k * G ≤ c * (G - k) → gain k ≼ nat c ⋆ ε
  gain-within k c l h =
      let m = nat (G - k) in
      let x : m ⋆ (oneℚ ⊹ gain k) ≼ m ⋆ (oneℚ ⊹ nat c ⋆ ε) =
      ≼_trans (≼_trans (≼-of _ _ (*_comm m (oneℚ ⊹ gain k))) (bernoulli k (omega arith))) (enough k c (omega arith) h) in
      off (cancel m (oneℚ ⊹ gain k) (oneℚ ⊹ nat c ⋆ ε) (above-nat (G - k) (omega arith)) x)
    where
      off : {a b : ℚ} → oneℚ ⊹ a ≼ oneℚ ⊹ b → a ≼ b
      off {a} {b} h = record { rest = h.rest; is = same oneℚ b (a ⊹ h.rest) (h.is ∙ +_assoc oneℚ a h.rest); nonneg = h.nonneg }

-- Up to so many roundings, k of them come to at most (k + 1) ε: k (k + 1) is at most 2 ^ 53.
abbrev pub most_roundings : ℕ
most_roundings = 94906264

pub gain_bound : (k : ℕ) → k ≤ most_roundings → gain k ≼ nat (k + 1) ⋆ ε
gain_bound k h =
    gain-within (2 ^ 53) ε-one k (k + 1) (wide k most_roundings (2 ^ 53) (lit≤ tt) h) (less k (2 ^ 53) (square k most_roundings (2 ^ 53) (lit≤ tt) h))
  where
    wide : (k m g : ℕ) → m + 1 ≤ g → k ≤ m → k < g
    wide k m g a b = omega arith

    square : (k m g : ℕ) → m * (m + 1) ≤ g → k ≤ m → k * (k + 1) ≤ g
    square k m g a b = le_trans (mul-le-mul b (omega arith)) a

    split : (k m G : ℕ) → G ≡ m + k → k * (k + 1) ≤ G → k * G ≤ (k + 1) * m
    split k m G e h = omega (arith, ap (λ z. k * z) e)

    less : (k G : ℕ) → k * (k + 1) ≤ G → k * G ≤ (k + 1) * (G - k)
    less k G h = split k (G - k) G (omega arith) h

-- Up to 2 ^ 52 of them come to at most twice as many.
pub gain-double : (k : ℕ) → k ≤ 2 ^ 52 → gain k ≼ nat (2 * k) ⋆ ε
gain-double k h = gain-within (2 ^ 53) ε-one k (2 * k) (wide k (2 ^ 52) (2 ^ 53) (lit≤ tt) h) (half k (2 ^ 52) (2 ^ 53) (lit≤ tt) h)
  where
    wide : (k m g : ℕ) → m + 1 ≤ g → k ≤ m → k < g
    wide k m g a b = omega arith

    half : (k m g : ℕ) → 2 * m ≤ g → k ≤ m → k * g ≤ 2 * k * (g - k)
    half k m g a b = let l : g ≤ 2 * (g - k) = omega arith in le_trans (mul-le-mul_left k l) (omega arith)

-- One rounding comes to ε.
pub gain-one : gain 1 ≡ ε
unfolding gain
gain-one = zero_+ _ ∙ ap (λ z. ε ⋆ z) (+_zero oneℚ) ∙ *-one ε

-- Up to 2 ^ 26 of them come to a half at most.
pub gain-half : (k : ℕ) → k ≤ 2 ^ 26 → gain k ⊹ gain k ≼ oneℚ
gain-half k l =
    let b = gain_bound k (le_trans l (lit≤ tt)) in
    ≼_trans (≼_add b b) (≼_trans (≼-of _ _ (sym (+-* (nat (k + 1)) (nat (k + 1)) ε) ∙ ap (λ z. z ⋆ ε) (sym (nat_add (k + 1) (k + 1)))))
    (≼_trans (≼-ε (nat_mono (k + 1 + (k + 1)) (2 ^ 53) (wide k (2 ^ 26) (2 ^ 53) (lit≤ tt) l))) (≼-of _ _ ε-one)))
  where
    wide : (k m g : ℕ) → m + 1 + (m + 1) ≤ g → k ≤ m → k + 1 + (k + 1) ≤ g
    wide k m g a b = omega arith

pub twice-ε : ε ⊹ ε ≼ oneℚ
twice-ε = subst (λ z. z ⊹ z ≼ oneℚ) gain-one (gain-half 1 (lit≤ tt))
