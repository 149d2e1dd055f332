-- Laws of what specs/Raw defines.
use Rattle.std.specs.Prelude.{◌≡◌, refl, true, false, ℕ, suc, ◌+◌, ◌*◌, ◌-◌, ◌<◌}
use Rattle.std.proofs.Common.{sym, ◌∙◌, ap, lt_of_mul-lt-mul_right, arith, ltb-true, lt-ltb, le-ltb}
use Rattle.std.proofs.Math.Nat.{eq_of_mul-eq-mul_right}
use Rattle.std.proofs.Math.Decide.{dec_lt}
use Rattle.fraction.specs.Laws.Raw.{◌~◌}
use Rattle.fraction.specs.Raw.{Raw, raw, bottom, bottoms, add_r, mul_r, neg_r, pos_r, inv_r}

-- 2/4 and 1/2
two_quarters : raw 2 0 3 ~ raw 1 0 1
two_quarters = refl

trans_poly : (p m D q n E r o F : ℕ) → p * E + n * D ≡ q * D + m * E → q * F + o * E ≡ r * E + n * F
    → (p * F + o * D) * E ≡ (r * D + m * F) * E
trans_poly p m D q n E r o F h k = omega (arith, ap (λ u. u * F) h, ap (λ u. u * D) k)

pub ~_trans : (x y z : Raw) → x ~ y → y ~ z → x ~ z
~_trans x y z h k =
    eq_of_mul-eq-mul_right (bottom y) (omega arith) _ _
    (trans_poly x.plus x.minus (bottom x) y.plus y.minus (bottom y) z.plus z.minus (bottom z) h k)

raw-path : {p q m n d e : ℕ} → p ≡ q → m ≡ n → d ≡ e → raw p m d ≡ raw q n e
raw-path a b c = λ i. raw (a i) (b i) (c i)

-- ---- sum, product and negative

bottoms-is : (d e : ℕ) → suc (bottoms d e) ≡ suc d * suc e
unfolding bottoms
bottoms-is d e = omega arith

bottoms_comm : (d e : ℕ) → bottoms d e ≡ bottoms e d
unfolding bottoms
bottoms_comm d e = omega arith

bottoms_assoc : (d e f : ℕ) → bottoms (bottoms d e) f ≡ bottoms d (bottoms e f)
unfolding bottoms
bottoms_assoc d e f = omega arith

bottoms-one : (d : ℕ) → bottoms d 0 ≡ d
unfolding bottoms
bottoms-one d = omega arith

-- 1/2 + 1/3 and -1/2 * 2/3
half_and_third : add_r (raw 1 0 1) (raw 1 0 2) ≡ raw 5 0 5
unfolding bottoms
half_and_third = refl

minus_half_of_two_thirds : mul_r (raw 0 1 1) (raw 2 0 2) ≡ raw 0 2 5
unfolding bottoms
minus_half_of_two_thirds = refl

add_poly : (p m D q n E r o F : ℕ) → p * E + n * D ≡ q * D + m * E
    → (p * F + r * D) * (E * F) + (n * F + o * E) * (D * F) ≡ (q * F + r * E) * (D * F) + (m * F + o * D) * (E * F)
add_poly p m D q n E r o F h = omega (arith, ap (λ u. u * (F * F)) h)

pub add_r_cong : (x y z : Raw) → x ~ y → add_r x z ~ add_r y z
add_r_cong x y z h =
    rw (bottoms-is x.below z.below, bottoms-is y.below z.below)
    (add_poly x.plus x.minus (bottom x) y.plus y.minus (bottom y) z.plus z.minus (bottom z) h)

mul_poly : (p m D q n E r o F : ℕ) → p * E + n * D ≡ q * D + m * E
    → (p * r + m * o) * (E * F) + (q * o + n * r) * (D * F) ≡ (q * r + n * o) * (D * F) + (p * o + m * r) * (E * F)
mul_poly p m D q n E r o F h = omega (arith, ap (λ u. u * (F * r)) h, ap (λ u. u * (F * o)) h)

pub mul_r_cong : (x y z : Raw) → x ~ y → mul_r x z ~ mul_r y z
mul_r_cong x y z h =
    rw (bottoms-is x.below z.below, bottoms-is y.below z.below)
    (mul_poly x.plus x.minus (bottom x) y.plus y.minus (bottom y) z.plus z.minus (bottom z) h)

pub neg_r_cong : (x y : Raw) → x ~ y → neg_r x ~ neg_r y
neg_r_cong x y h = omega arith

pub add_r_comm : (x y : Raw) → add_r x y ≡ add_r y x
add_r_comm x y = raw-path (omega arith) (omega arith) (bottoms_comm _ _)

pub add_r_assoc : (x y z : Raw) → add_r (add_r x y) z ≡ add_r x (add_r y z)
add_r_assoc x y z = raw-path (simp bottoms-is (omega arith)) (simp bottoms-is (omega arith)) (bottoms_assoc _ _ _)

pub add_r_zero : (x : Raw) → add_r x (raw 0 0 0) ≡ x
add_r_zero x = raw-path (omega arith) (omega arith) (bottoms-one _)

pub add_r-neg_r : (x : Raw) → add_r x (neg_r x) ~ raw 0 0 0
add_r-neg_r x = omega arith

pub mul_r_comm : (x y : Raw) → mul_r x y ≡ mul_r y x
mul_r_comm x y = raw-path (omega arith) (omega arith) (bottoms_comm _ _)

pub mul_r_assoc : (x y z : Raw) → mul_r (mul_r x y) z ≡ mul_r x (mul_r y z)
mul_r_assoc x y z = raw-path (omega arith) (omega arith) (bottoms_assoc _ _ _)

pub mul_r-one : (x : Raw) → mul_r x (raw 1 0 0) ≡ x
mul_r-one x = raw-path (omega arith) (omega arith) (bottoms-one _)

spread_poly : (p m D q n E r o F : ℕ)
    → (p * (q * F + r * E) + m * (n * F + o * E)) * ((D * E) * (D * F))
    ≡ ((p * q + m * n) * (D * F) + (p * r + m * o) * (D * E)) * (D * (E * F))
spread_poly p m D q n E r o F = omega arith

pub mul_r-add_r : (x y z : Raw) → mul_r x (add_r y z) ~ add_r (mul_r x y) (mul_r x z)
mul_r-add_r x y z =
    simp bottoms-is
    (rw (
      spread_poly x.plus x.minus (bottom x) y.plus y.minus (bottom y) z.plus z.minus (bottom z),
      spread_poly x.plus x.minus (bottom x) y.minus y.plus (bottom y) z.minus z.plus (bottom z),
    ))

-- ---- the sign, and the inverse: one over zero counts as zero

zero_is_not_above : pos_r (raw 1 1 0) ≡ false
zero_is_not_above = refl

-- 1 / (-2/3)
one_over_minus_two_thirds : inv_r (raw 0 2 2) ≡ raw 0 3 1
one_over_minus_two_thirds = refl

-- x is (a + 1) / bottom x, zero, or its negative
data Sign (x : Raw) : Type 0 where
  above : (a : ℕ) → x.plus ≡ x.minus + suc a → Sign x
  level : x.plus ≡ x.minus → Sign x
  under : (a : ℕ) → x.minus ≡ x.plus + suc a → Sign x

sign : (x : Raw) → Sign x
sign x = go (dec_lt x.minus x.plus) (dec_lt x.plus x.minus)
  where
    go : Dec (x.minus < x.plus) → Dec (x.plus < x.minus) → Sign x
    go (yes h) d = above (x.plus - suc x.minus) (omega arith)
    go (no h) (yes k) = under (x.minus - suc x.plus) (omega arith)
    go (no h) (no k) = level (omega arith)

-- the same number has the same sign
data Alike (x y : Raw) : Type 0 where
  above₂ : (a b : ℕ) → x.plus ≡ x.minus + suc a → y.plus ≡ y.minus + suc b → Alike x y
  level₂ : x.plus ≡ x.minus → y.plus ≡ y.minus → Alike x y
  under₂ : (a b : ℕ) → x.minus ≡ x.plus + suc a → y.minus ≡ y.plus + suc b → Alike x y

alike : (x y : Raw) → x ~ y → Alike x y
alike x y h = go (sign x)
  where
    go : Sign x → Alike x y
    go (above a e) =
        let k : y.minus < y.plus = lt_of_mul-lt-mul_right (bottom x) (omega (arith, ap (λ u. u * bottom y) e)) in
        above₂ a (y.plus - suc y.minus) e (omega arith)
    go (level e) =
        level₂ e (eq_of_mul-eq-mul_right (bottom x) (omega arith) _ _ (omega (arith, ap (λ u. u * bottom y) e)))
    go (under a e) =
        let k : y.plus < y.minus = lt_of_mul-lt-mul_right (bottom x) (omega (arith, ap (λ u. u * bottom y) e)) in
        under₂ a (y.minus - suc y.plus) e (omega arith)

inv_r-above : (x : Raw) (a : ℕ) → x.plus ≡ x.minus + suc a → inv_r x ≡ raw (bottom x) 0 a
inv_r-above x a e = rw (lt-ltb x.minus x.plus (omega arith)) (raw-path refl refl (omega arith))

inv_r-level : (x : Raw) → x.plus ≡ x.minus → inv_r x ≡ raw 0 0 0
inv_r-level x e = rw (le-ltb x.minus x.plus (omega arith), le-ltb x.plus x.minus (omega arith))

inv_r-under : (x : Raw) (a : ℕ) → x.minus ≡ x.plus + suc a → inv_r x ≡ raw 0 (bottom x) a
inv_r-under x a e =
    rw (le-ltb x.minus x.plus (omega arith), lt-ltb x.plus x.minus (omega arith)) (raw-path refl refl (omega arith))

pub inv_r_cong : (x y : Raw) → x ~ y → inv_r x ~ inv_r y
inv_r_cong x y h = go (alike x y h)
  where
    go : Alike x y → inv_r x ~ inv_r y
    go (above₂ a b e f) = rw (inv_r-above x a e, inv_r-above y b f) (omega (arith, ap (λ u. u * bottom y) e, ap (λ u. u * bottom x) f))
    go (level₂ e f) = rw (inv_r-level x e, inv_r-level y f)
    go (under₂ a b e f) = rw (inv_r-under x a e, inv_r-under y b f) (omega (arith, ap (λ u. u * bottom y) e, ap (λ u. u * bottom x) f))

pub pos_r_cong : (x y : Raw) → x ~ y → pos_r x ≡ pos_r y
pos_r_cong x y h = go (alike x y h)
  where
    go : Alike x y → pos_r x ≡ pos_r y
    go (above₂ a b e f) = lt-ltb x.minus x.plus (omega arith) ∙ sym (lt-ltb y.minus y.plus (omega arith))
    go (level₂ e f) = le-ltb x.minus x.plus (omega arith) ∙ sym (le-ltb y.minus y.plus (omega arith))
    go (under₂ a b e f) = le-ltb x.minus x.plus (omega arith) ∙ sym (le-ltb y.minus y.plus (omega arith))

pub mul_r-inv_r : (x : Raw) → (x ~ raw 0 0 0 → ⊥) → mul_r x (inv_r x) ~ raw 1 0 0
mul_r-inv_r x h = go (sign x)
  where
    go : Sign x → mul_r x (inv_r x) ~ raw 1 0 0
    go (above a e) = rw (inv_r-above x a e, bottoms-is) (omega (arith, ap (λ u. u * bottom x) e))
    go (level e) = absurd (h (omega arith))
    go (under a e) = rw (inv_r-under x a e, bottoms-is) (omega (arith, ap (λ u. u * bottom x) e))

-- ---- what is above zero

excess : (x : Raw) → pos_r x ≡ true → (a : ℕ) × (x.plus ≡ x.minus + suc a)
excess x h = let k = ltb-true x.minus x.plus h in (x.plus - suc x.minus, omega arith)

pub pos_r_add : (x y : Raw) → pos_r x ≡ true → pos_r y ≡ true → pos_r (add_r x y) ≡ true
pos_r_add x y h k =
    let (a, e) = excess x h in
    let (b, f) = excess y k in
    lt-ltb (add_r x y).minus (add_r x y).plus (omega (arith, ap (λ u. u * bottom y) e, ap (λ u. u * bottom x) f))

pub pos_r_mul : (x y : Raw) → pos_r x ≡ true → pos_r y ≡ true → pos_r (mul_r x y) ≡ true
pos_r_mul x y h k =
    let (a, e) = excess x h in
    let (b, f) = excess y k in
    lt-ltb (mul_r x y).minus (mul_r x y).plus (omega (arith, ap (λ u. u * y.plus) e, ap (λ u. u * y.minus) e, ap (λ u. suc a * u) f))

pub pos_r_inv : (x : Raw) → pos_r x ≡ true → pos_r (inv_r x) ≡ true
pos_r_inv x h = let (a, e) = excess x h in rw (inv_r-above x a e) (lt-ltb 0 (bottom x) (omega arith))
