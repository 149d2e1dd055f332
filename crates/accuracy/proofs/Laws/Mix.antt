-- Weights, which are from b to one over b, and sums of two numbers with such weights: no such sum is much larger or smaller than another.
use Rattle.std.specs.Prelude.{◌≡◌}
use Rattle.std.proofs.Common.{sym, ◌∙◌, ap, ap₂, subst, subst₂}
use Rattle.fraction.proofs.Fraction.{ℚ, oneℚ, addℚ}
use Rattle.accuracy.specs.Ring.{NonNeg}
use Rattle.accuracy.proofs.Laws.Ring.{◌⊹◌, ◌⋆◌, ◌≼◌, ≼_refl, ≼-of, ≼_trans, ≼_add, ≼-times, ≼_mul, ≼-more, ≼_nn, nn_add, nn_mul, nn_one}
use Rattle.accuracy.proofs.Laws.Ring.{sorted, spread, *-one, one-*, *_assoc, *-+, +_comm}

-- x is from b to one over b.
pub record Weight (b x : ℚ) : Type 0 where
  pub least : b ≼ x
  pub most : b ⋆ x ≼ oneℚ

module _ {a b : ℚ} (A : NonNeg a) (B : NonNeg b) where
  -- Products of weights are weights, and wider ranges have more of them.
  pub weight_mul : {x y : ℚ} → Weight a x → Weight b y → Weight (a ⋆ b) (x ⋆ y)
  weight_mul {x} {y} h k = record {
    least = ≼_mul A (≼_nn B k.least) h.least k.least;
    most = subst₂ ◌≼◌ (sym (ring a b x y)) (*-one oneℚ) (≼_mul (nn_mul _ _ A (≼_nn A h.least)) nn_one h.most k.most);
  }
    where
      ring : (a b x y : ℚ) → (a ⋆ b) ⋆ (x ⋆ y) ≡ (a ⋆ x) ⋆ (b ⋆ y)
      ring a b x y = simp sorted

  pub weight_less : {x : ℚ} → a ≼ b → Weight b x → Weight a x
  weight_less {x} l h = record { least = ≼_trans l h.least; most = ≼_trans (≼_mul A (≼_nn B h.least) l (≼_refl x)) h.most }

-- Of two weights, one is b b times the other or more.
pub weight-ratio : {b x y : ℚ} → NonNeg b → Weight b x → Weight b y → (b ⋆ b) ⋆ x ≼ y
weight-ratio {b} {x} {y} B h k =
    ≼_trans (subst₂ ◌≼◌ (sym (*_assoc b b x)) (*-one b) (≼-times b B h.most)) k.least

-- At the scale c, z is made of A and B: their sum, each with a weight from t to one over t.
pub record Mix (t c A B z : ℚ) : Type 0 where
  pub x : ℚ
  pub y : ℚ
  pub is : z ≡ x ⋆ (c ⋆ A) ⊹ y ⋆ (c ⋆ B)
  pub x-weight : Weight t x
  pub y-weight : Weight t y

module _ {t : ℚ} (t-nn : NonNeg t) where
  module _ {c A B z : ℚ} (h : Mix t c A B z) (cA : NonNeg (c ⋆ A)) (cB : NonNeg (c ⋆ B)) where
    first_nn : NonNeg (h.x ⋆ (c ⋆ A))
    first_nn = nn_mul _ _ (≼_nn t-nn h.x-weight.least) cA

    second_nn : NonNeg (h.y ⋆ (c ⋆ B))
    second_nn = nn_mul _ _ (≼_nn t-nn h.y-weight.least) cB

    -- Such a sum is t times each of its numbers or more, and t times it is their sum or less.
    pub mix_first : t ⋆ (c ⋆ A) ≼ z
    mix_first = subst (λ q. t ⋆ (c ⋆ A) ≼ q) (sym h.is) (≼_trans (≼_mul t-nn cA h.x-weight.least (≼_refl _)) (≼-more _ _ second_nn))

    pub mix-second : t ⋆ (c ⋆ B) ≼ z
    mix-second = subst (λ q. t ⋆ (c ⋆ B) ≼ q) (sym (h.is ∙ +_comm _ _)) (≼_trans (≼_mul t-nn cB h.y-weight.least (≼_refl _)) (≼-more _ _ first_nn))

    pub mix-most : t ⋆ z ≼ c ⋆ A ⊹ c ⋆ B
    mix-most =
        ≼_trans (≼-of _ _ (ap (λ q. t ⋆ q) h.is ∙ ring t h.x (c ⋆ A) h.y (c ⋆ B)))
        (subst₂ (λ p q. (t ⋆ h.x) ⋆ (c ⋆ A) ⊹ (t ⋆ h.y) ⋆ (c ⋆ B) ≼ p ⊹ q) (one-* (c ⋆ A)) (one-* (c ⋆ B))
        (≼_add (≼_mul (nn_mul _ _ t-nn (≼_nn t-nn h.x-weight.least)) cA h.x-weight.most (≼_refl _))
        (≼_mul (nn_mul _ _ t-nn (≼_nn t-nn h.y-weight.least)) cB h.y-weight.most (≼_refl _))))
      where
        ring : (t x a y b : ℚ) → t ⋆ (x ⋆ a ⊹ y ⋆ b) ≡ (t ⋆ x) ⋆ a ⊹ (t ⋆ y) ⋆ b
        ring t x a y b = simp (spread, sorted)

    pub mix_nn : NonNeg z
    mix_nn = subst NonNeg (sym h.is) (nn_add _ _ first_nn second_nn)

  -- Sums of two numbers, of which each is r times its fellow or more: one is t t r times the other or more.
  pub mix-ratio : {c A B z A' B' z' : ℚ} (r : ℚ) → Mix t c A B z → Mix t c A' B' z' → NonNeg c → NonNeg A → NonNeg B → NonNeg A' → NonNeg B' → NonNeg r
      → r ⋆ A ≼ A' → r ⋆ B ≼ B' → ((t ⋆ t) ⋆ r) ⋆ z ≼ z'
  mix-ratio {c} {A} {B} {z} {A'} {B'} {z'} r h k C nA nB nA' nB' nr a b =
      subst₂ ◌≼◌ (ring (t ⋆ t) r h.x c A h.y B ∙ ap (λ q. ((t ⋆ t) ⋆ r) ⋆ q) (sym h.is)) (sym k.is)
      (≼_add
      (≼_mul (nn_mul _ _ (nn_mul _ _ t-nn t-nn) (≼_nn t-nn h.x-weight.least)) (nn_mul _ _ C nA') (weight-ratio t-nn h.x-weight k.x-weight) (≼-times c C a))
      (≼_mul (nn_mul _ _ (nn_mul _ _ t-nn t-nn) (≼_nn t-nn h.y-weight.least)) (nn_mul _ _ C nB') (weight-ratio t-nn h.y-weight k.y-weight)
      (≼-times c C b)))
    where
      one : (s r x c A : ℚ) → (s ⋆ x) ⋆ (c ⋆ (r ⋆ A)) ≡ (s ⋆ r) ⋆ (x ⋆ (c ⋆ A))
      one s r x c A = simp sorted

      ring : (t r x c A y B : ℚ) → (t ⋆ x) ⋆ (c ⋆ (r ⋆ A)) ⊹ (t ⋆ y) ⋆ (c ⋆ (r ⋆ B)) ≡ (t ⋆ r) ⋆ (x ⋆ (c ⋆ A) ⊹ y ⋆ (c ⋆ B))
      ring t r x c A y B = ap₂ addℚ (one t r x c A) (one t r y c B) ∙ sym (*-+ (t ⋆ r) (x ⋆ (c ⋆ A)) (y ⋆ (c ⋆ B)))
