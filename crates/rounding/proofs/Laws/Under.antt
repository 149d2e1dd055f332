-- Laws of what specs/Under defines.
use Rattle.std.specs.Prelude.{◌≡◌, refl, ℕ, ◌+◌, ◌*◌, ◌≤◌, ◌<◌, Bool, true, false, not, ◌&&◌, ◌||◌, cond, T, ltb, eqb, Float}
use Rattle.std.proofs.Common.{sym, ◌∙◌, subst, subst₂, inl, inr, zero-le, le_refl, le_of_eq, le_of_lt, le_antisymm, lt_of_le_of_lt, mul-le-mul_right, mul-le-mul, mul-pos, arith, ltb→lt, lt→ltb, nltb→le, eqb→eq, pow_pos}
use Rattle.std.specs.Float.{nan, inf, fin, Format, binary32, binary64}
use Rattle.std.specs.Float.Ieee.{up, down, round, neg, add, sub, mul, div, lt, le}
use Rattle.std.specs.Float.Ieee.Fits.{and_l, and_i, eq→eqb}
use Rattle.std.specs.Float.Ieee.Scale.{finite}
use Rattle.std.specs.Float.Ieee.Order.{round_mono}
use Rattle.std.specs.Float.Ieee.Positive.{num, den, den_pos, through, positive, positive-finite, own_value, value_pos, first_pos}
use Rattle.std.proofs.Math.Facts.{or_yes}
use Rattle.rounding.specs.Sign.{abs}
use Rattle.rounding.proofs.Laws.Sign.{abs-not_minus, abs-of-not_minus, round_not_minus}
use Rattle.rounding.specs.Laws.Sign.{not_minus}
use Rattle.rounding.proofs.Laws.Sign.{add_finite, mul_finite, add_not_minus, mul_not_minus, mul_abs, div_abs, add_abs, add_is}
use Rattle.rounding.specs.Under.{nought, unit}
use Rattle.rounding.specs.Laws.Under.{Within, Under}

pub unit-is : (f : Format) → unit ≡ round f false 1 1
unfolding round
unit-is binary32 = refl
unit-is binary64 = refl

-- ---- an order of sizes
pub under_refl : (x : Float) → T (not_minus x) → Under x x
under_refl x p = record { sign = p; size = λ (h : T (finite x)). record { is_finite = h; at_most = le_refl (num x * den x) } }

pub under_trans : {x y z : Float} → Under x y → Under y z → Under x z
under_trans {x} {y} {z} u v = record {
  sign = v.sign;
  size = λ (h : T (finite z)).
      let k = v.size h in
      let l = u.size k.is_finite in
      record {
        is_finite = l.is_finite;
        at_most = through (num x) (num y) (num z) (den x) (den y) (den z) (den_pos y) l.at_most k.at_most;
      };
}

pub under-nought : (x : Float) → T (not_minus x) → Under nought x
under-nought x p = record { sign = p; size = λ (h : T (finite x)). record { is_finite = tt; at_most = omega arith } }

pub within-abs : (x y : Float) → Within (abs x) y → Within x y
within-abs nan y w = w
within-abs (inf s) y w = record { is_finite = w.is_finite; at_most = w.at_most }
within-abs (fin s m e) y w = record { is_finite = tt; at_most = w.at_most }

abs-within : (x y : Float) → Within x y → Within (abs x) y
abs-within nan y w = w
abs-within (inf s) y w = record { is_finite = w.is_finite; at_most = w.at_most }
abs-within (fin s m e) y w = record { is_finite = tt; at_most = w.at_most }

pub abs-under : {x y : Float} → Under x y → Under (abs x) y
abs-under {x} {y} u = record { sign = u.sign; size = λ (h : T (finite y)). abs-within x y (u.size h) }

within_neg : (x y : Float) → Within x y → Within (neg x) y
unfolding neg
within_neg nan y w = w
within_neg (inf s) y w = record { is_finite = w.is_finite; at_most = w.at_most }
within_neg (fin s m e) y w = record { is_finite = tt; at_most = w.at_most }

pub under_neg : {x y : Float} → Under x y → Under (neg x) y
under_neg {x} {y} u = record { sign = u.sign; size = λ (h : T (finite y)). within_neg x y (u.size h) }

-- of two values that a test chooses from
pub cond_under : (b : Bool) {x y X Y : Float} → Under x X → Under y Y → Under (cond b x y) (cond b X Y)
cond_under true p q = p
cond_under false p q = q

pub either_under : (b : Bool) {x y z : Float} → Under x z → Under y z → Under (cond b x y) z
either_under true p q = p
either_under false p q = q

-- ---- what rounds from a smaller fraction is no larger
lt_or_eq : (a b : ℕ) → T (ltb a b || (eqb a b && true)) → a ≤ b
lt_or_eq a b t = elim (or_yes (ltb a b) (eqb a b && true) t) [
  | inl u ↦ le_of_lt (ltb→lt a b u)
  | inr u ↦ le_of_eq (eqb→eq a b (and_l (eqb a b) true u))
]

within_of_le : (x y : Float) → T (not_minus x) → T (not_minus y) → T (le x y) → T (finite y) → Within x y
unfolding le
within_of_le nan y p q h k = absurd h
within_of_le (inf s) nan p q h k = absurd k
within_of_le (inf s) (inf t) p q h k = absurd k
within_of_le (inf true) (fin t n d) p q h k = absurd p
within_of_le (inf false) (fin t n d) p q h k = absurd h
within_of_le (fin s m e) nan p q h k = absurd k
within_of_le (fin s m e) (inf t) p q h k = absurd k
within_of_le (fin true m e) (fin t n d) p q h k = absurd p
within_of_le (fin false m e) (fin true n d) p q h k = absurd q
within_of_le (fin false m e) (fin false n d) p q h k = record { is_finite = tt; at_most = lt_or_eq (m * up e * down d) (n * up d * down e) h }

rounds_within : (f : Format) (z w : Float) (a b c d : ℕ) → 0 < b → 0 < d → a * d ≤ c * b → abs z ≡ round f false a b → w ≡ round f false c d
    → T (finite w) → Within z w
rounds_within f z w a b c d B D h p q k =
    within-abs z w
    (within_of_le (abs z) w (abs-not_minus z) (subst (λ (v : Float). T (not_minus v)) (sym q) (round_not_minus f c d))
    (subst₂ (λ (u v : Float). T (le u v)) (sym p) (sym q) (round_mono f a b c d B D h)) k)

-- ---- the operations
cross_add : (x dx X DX y dy Y DY t : ℕ) → x * DX ≤ X * dx → y * DY ≤ Y * dy → t ≤ x * dy + y * dx
    → t * (DX * DY) ≤ (X * DY + Y * DX) * (dx * dy)
cross_add x dx X DX y dy Y DY t h k l =
    omega (arith, mul-le-mul_right (dy * DY) h, mul-le-mul_right (dx * DX) k, mul-le-mul_right (DX * DY) l)

pub add_under : (f : Format) {x y X Y : Float} → Under x X → Under y Y → Under (add f x y) (add f X Y)
add_under f {x} {y} {X} {Y} u v = record {
  sign = add_not_minus f X Y u.sign v.sign;
  size = λ (h : T (finite (add f X Y))).
      let k = add_finite f X Y h in
      let p = u.size k.0 in
      let q = v.size k.1 in
      let r = add_abs f x y p.is_finite q.is_finite in
      rounds_within f (add f x y) (add f X Y) r.top (den x * den y) (num X * den Y + num Y * den X) (den X * den Y)
      (mul-pos (den_pos x) (den_pos y)) (mul-pos (den_pos X) (den_pos Y))
      (cross_add (num x) (den x) (num X) (den X) (num y) (den y) (num Y) (den Y) r.top p.at_most q.at_most r.most)
      r.is (add_is f X Y k.0 k.1 u.sign v.sign) h;
}

-- a difference may be as large as the sum of the sizes
pub sub_under : (f : Format) {x y X Y : Float} → Under x X → Under y Y → Under (sub f x y) (add f X Y)
unfolding sub
sub_under f u v = add_under f u (under_neg v)

pub mul_under : (f : Format) {x y X Y : Float} → Under x X → Under y Y → Under (mul f x y) (mul f X Y)
mul_under f {x} {y} {X} {Y} u v =
    let s = mul_not_minus f X Y u.sign v.sign in
    record {
      sign = s;
      size = λ (h : T (finite (mul f X Y))).
          let k = mul_finite f X Y h in
          let p = u.size k.0 in
          let q = v.size k.1 in
          rounds_within f (mul f x y) (mul f X Y) (num x * num y) (den x * den y) (num X * num Y) (den X * den Y)
          (mul-pos (den_pos x) (den_pos y)) (mul-pos (den_pos X) (den_pos Y))
          (omega (arith, mul-le-mul p.at_most q.at_most)) (mul_abs f x y p.is_finite q.is_finite)
          (sym (abs-of-not_minus (mul f X Y) s) ∙ mul_abs f X Y k.0 k.1) h;
    }

positive_num : (x : Float) → T (positive x) → 0 < num x
positive_num x p = value_pos x (num x) (den x) p (den_pos x) (own_value x p)

-- a quotient by the bound
pub div_under : (f : Format) {n z : Float} → Under n z → T (positive z) → Under (div f n z) unit
div_under f {n} {z} u p =
    let k = positive-finite z p in
    let w = u.size k in
    record {
      sign = tt;
      size = λ (h : T (finite unit)).
          rounds_within f (div f n z) unit (num n * den z) (num z * den n) 1 1 (mul-pos (positive_num z p) (den_pos n)) (pow_pos 0)
          (omega arith) (div_abs f n z w.is_finite k (positive_num z p)) (unit-is f) h;
    }

-- ---- by the comparisons of a program: -y ≤ x and x ≤ y
lt_or : (a b : ℕ) (e : Bool) → a ≤ b → (a ≡ b → T e) → T (ltb a b || e)
lt_or a b e h k = go (ltb a b) (nltb→le a b)
  where
    go : (c : Bool) → (T (not c) → b ≤ a) → T (c || e)
    go true l = tt
    go false l = k (le_antisymm h (l tt))

-- -a ≤ b
neg_le : (a b : ℕ) → T (ltb 0 (a + b) || (eqb a b && eqb a 0))
neg_le a b =
    lt_or 0 (a + b) (eqb a b && eqb a 0) zero-le
    (λ (p : 0 ≡ a + b).
    let i : a ≡ b = omega arith in
    let j : a ≡ 0 = omega arith in
    and_i (eqb a b) (eqb a 0) (eq→eqb i) (eq→eqb j))

within_le : (x y : Float) → T (not_minus y) → T (finite y) → Within x y → T (le (neg y) x) × T (le x y)
unfolding le neg
within_le nan y p h w = absurd w.is_finite
within_le (inf s) y p h w = absurd w.is_finite
within_le (fin s m e) nan p h w = absurd h
within_le (fin s m e) (inf t) p h w = absurd h
within_le (fin s m e) (fin true n d) p h w = absurd p
within_le (fin false m e) (fin false n d) p h w =
    let a = m * up e * down d in
    let b = n * up d * down e in
    (neg_le b a, lt_or a b (eqb a b && true) w.at_most (λ (i : a ≡ b). and_i (eqb a b) true (eq→eqb i) tt))
within_le (fin true m e) (fin false n d) p h w =
    let a = m * up e * down d in
    let b = n * up d * down e in
    (lt_or a b (eqb b a && true) w.at_most (λ (i : a ≡ b). and_i (eqb b a) true (eq→eqb (sym i)) tt), neg_le a b)

pub under_le : {x y : Float} → Under x y → T (finite y) → T (le x y)
under_le {x} {y} u h = (within_le x y u.sign h (u.size h)).1

pub le_under : {x y : Float} → Under x y → T (finite y) → T (le (neg y) x)
le_under {x} {y} u h = (within_le x y u.sign h (u.size h)).0

pub in_unit : {c : Float} → Under c unit → T (le (neg unit) c) × T (le c unit)
in_unit u = (le_under u tt, under_le u tt)

-- ---- finite and above zero
pub positive-not_minus : (x : Float) → T (positive x) → T (not_minus x)
positive-not_minus nan p = absurd p
positive-not_minus (inf s) p = absurd p
positive-not_minus (fin true m e) p = absurd p
positive-not_minus (fin false m e) p = tt

-- by the tests z > 0 and z < +∞
pub positive_of : (z : Float) → T (lt nought z) → T (lt z (inf false)) → T (positive z)
unfolding lt
positive_of nan h l = absurd h
positive_of (inf true) h l = absurd h
positive_of (inf false) h l = absurd l
positive_of (fin true m e) h l = absurd h
positive_of (fin false m e) h l =
    lt→ltb 0 m (first_pos m (up e) (first_pos (m * up e) 1 (lt_of_le_of_lt zero-le (ltb→lt (0 * down e) (m * up e * 1) h))))

-- and the tests pass
pub positive_tests : (z : Float) → T (positive z) → T (lt nought z) × T (lt z (inf false))
unfolding lt
positive_tests nan p = absurd p
positive_tests (inf s) p = absurd p
positive_tests (fin true m e) p = absurd p
positive_tests (fin false m e) p =
    let h = positive_num (fin false m e) p in
    (lt→ltb (0 * down e) (m * up e * 1) (omega arith), tt)
