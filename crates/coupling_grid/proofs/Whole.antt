-- From -4 to 4 the product with 128 is exact, and it is a whole number where its whole part equals it.
use Rattle.std.proofs.Common.{◌≡◌, ℕ, zero, suc, ◌+◌, ◌-◌, ◌*◌, ◌/◌, ◌%◌, ◌^◌, ◌<◌, ◌≤◌, min, Bool, true, false, cond, not, ◌&&◌, ◌||◌, T, eqb, ◌⊎◌, ℤ, pos, neg_ℤ, sym, refl, ap, ◌∙◌, subst, inl, inr, le_trans, lt_of_le_of_lt, mul-le-mul_right, mul_assoc, div-lt_iff_lt-mul, mul-pos, div-add-mod', zero-mul, le_of_mul-le-mul_right, arith, lit<, lit≤, lt→ltb, pow-add, w64, to_z, of_z, lt-ltb, eq-eqb, ne_eqb, eqb-true, le-leb}
use mathlib.Core.Bool.{beq}
use native.Mathlib.Nat.{eq_of_mul-eq-mul_right}
use lib.Ieee.{Float, nan, inf, fin, binary64, up, down, fits, lt, le, eq, ne, neg, round, of_int, to_signed}
use lib.Ieee.Exact.{HasValue, round_exact}
use lib.Ieee.Fits.{down_pos}
use lib.Ieee.Nearest.{div_same}
use lib.Ieee.Back.{round_whole}
use lib.Ieee.Casts.{to_signed_in}
use mir.ValLaws.{to_z-of_z}
use borrow.Author.Tests.{eqb-false}
use Rattle.rounding.proofs.Laws.Commute.{and-true}
use Rattle.nearest.proofs.Laws.Smallest.{in_smallest}
use Rattle.coupling_grid.specs.Grid.{off_grid}
use Rattle.coupling_grid.proofs.Product.{times128, product_is}
use Rattle.coupling_grid.proofs.Range.{four, within-four, not_endless, not_nan}

-- ---- the product is exact
-- the format holds a value or not whatever its sign
unsigned : (s : Bool) (m : ℕ) (e : ℤ) → T (fits binary64 (fin s m e)) → T (fits binary64 (fin false m e))
unfolding fits
unsigned s zero e f = f
unsigned s (suc m) e f = f

exact : (s : Bool) (m : ℕ) (e : ℤ) → T (fits binary64 (fin false m e)) → m * up e ≤ 4 * down e
    → HasValue (round binary64 s (m * up e * 128) (down e)) s (m * up e * 128) (down e)
exact s m e f l =
    let (q, i, r) = in_smallest binary64 (fin false m e) f tt in
    let b : q * 2 ^ i ≤ 4 * 2 ^ 1074 = bound (m * up e) (down e) (q * 2 ^ i) (2 ^ 1074) (down_pos e) r.same l in
    let w : q * 2 ^ (i + 7) ≡ q * 2 ^ i * 128 = ap (λ (z : ℕ). q * z) (pow-add 2 i 7) ∙ sym (mul_assoc q (2 ^ i) 128) in
    round_exact binary64 s (m * up e * 128) (down e) q (i + 7) (down_pos e) r.short
    (rw w (lt_of_le_of_lt (mul-le-mul_right 128 b) (lit< tt)))
    (rw w (scale (m * up e) (down e) (q * 2 ^ i) (2 ^ 1074) r.same))
  where
    scale : (A d w L : ℕ) → A * L ≡ w * d → A * 128 * L ≡ w * 128 * d
    scale A d w L e = omega (arith, ap (λ (z : ℕ). z * 128) e)

    bound : (A d w L : ℕ) → 0 < d → A * L ≡ w * d → A ≤ 4 * d → w ≤ 4 * L
    bound A d w L D e l = le_of_mul-le-mul_right (let g = mul-le-mul_right L l in omega arith) D

-- y is 128 times x: ±a / c in size, up to 512
pub record Steps (x y : Float) (s : Bool) (a c : ℕ) : Type 0 where
  some : 0 < c
  most : a ≤ 512 * c
  value : HasValue y s a c
  off : off_grid x ≡ not (eqb (a % c) 0)

off-is : (s : Bool) (m : ℕ) (e : ℤ) → m * up e ≤ 4 * down e → off_grid (fin s m e) ≡ not (eqb (m * up e * 128 % down e) 0)
unfolding off_grid
off-is s m e l =
    let b : m * up e * 128 / down e < 513 = (div-lt_iff_lt-mul (down_pos e)).1 (let d = down_pos e in omega arith) in
    rw (le-leb (m * up e * 128 / down e) 512 (omega arith)) (ap not (and-true (eqb (m * up e * 128 % down e) 0)))

pub product : (x : Float) → T (fits binary64 x) → le x four ≡ true → le (neg four) x ≡ true → (s : Bool) × (a : ℕ) × (c : ℕ) × Steps x (times128 x) s a c
product nan f h g = absurd (not_nan h)
product (inf s) f h g = absurd (not_endless s h g)
product (fin s m e) f h g =
    let l = within-four s m e h g in (
      s,
      m * up e * 128,
      down e,
      record {
        some = down_pos e;
        most = omega arith;
        value = subst (λ (v : Float). HasValue v s (m * up e * 128) (down e)) (sym (product_is s m e)) (exact s m e (unsigned s m e f) l);
        off = off-is s m e l;
      },
    )

-- ---- its whole part
-- ±q as a double; 0 has no minus sign there
of-signed : (s : Bool) (q : ℕ) → q ≤ 512 → (t : Bool) × HasValue (of_int binary64 (cond s (neg_ℤ (pos q)) (pos q))) t q 1 × ((t ≡ s) ⊎ (q ≡ 0))
unfolding of_int
of-signed false q h = (false, round_whole binary64 false q (le_trans h (lit≤ tt)), inl refl)
of-signed true zero h = (false, round_whole binary64 false 0 (lit≤ tt), inr refl)
of-signed true (suc q) h = (true, round_whole binary64 true (suc q) (le_trans h (lit≤ tt)), inl refl)

few : (a c : ℕ) → 0 < c → a ≤ 512 * c → a / c ≤ 512
few a c C l = let b : a / c < 513 = (div-lt_iff_lt-mul C).1 (omega arith) in omega arith

whole_part : (y : Float) (s : Bool) (a c : ℕ) → 0 < c → a ≤ 512 * c → HasValue y s a c → to_signed 63 y ≡ cond s (neg_ℤ (pos (a / c))) (pos (a / c))
unfolding to_signed
whole_part nan s a c C l v = absurd v
whole_part (inf t) s a c C l v = absurd v
whole_part (fin t m e) s a c C l v =
    let q : m * up e / down e ≡ a / c = div_same (m * up e) (down e) a c (down_pos e) C v.1 in
    let b = few a c C l in
    let i : min (a / c) (2 ^ 63) ≡ a / c = omega arith in
    let j : min (a / c) (2 ^ 63 - 1) ≡ a / c = omega arith in
    rw (q, v.0, i, j)

-- ---- whether it equals it: n / d is k / 1 and m / e is a / c
module _ (n d m e k a c : ℕ) (D : 0 < d) (E : 0 < e) (C : 0 < c) (p : n * 1 ≡ k * d) (q : m * c ≡ a * e) where
  same_out : n * e ≡ m * d → k * c ≡ a
  same_out h =
      let r : k * d * e * c ≡ a * d * e = omega (arith, ap (λ (z : ℕ). z * (e * c)) p, ap (λ (z : ℕ). z * c) h, ap (λ (z : ℕ). z * d) q) in
      eq_of_mul-eq-mul_right (d * e) (mul-pos D E) (k * c) a (omega arith)

  same_in : k * c ≡ a → n * e ≡ m * d
  same_in h =
      eq_of_mul-eq-mul_right c C (n * e) (m * d)
      (omega (arith, ap (λ (z : ℕ). z * (e * c)) p, ap (λ (z : ℕ). z * (d * e)) h, ap (λ (z : ℕ). z * d) q))

tests_agree : (a b c d : ℕ) → (a ≡ b → c ≡ d) → (c ≡ d → a ≡ b) → eqb a b ≡ eqb c d
tests_agree a b c d f g = go (eqb a b) refl
  where
    go : (t : Bool) → eqb a b ≡ t → t ≡ eqb c d
    go true h = sym (eq-eqb c d (f (eqb-true a b h)))
    go false h = sym (ne_eqb c d (λ q. eqb-false a b h (g q)))

level-is : (a b : ℕ) (t s : Bool) → ((t ≡ s) ⊎ (a ≡ 0)) → (eqb a b && (beq t s || eqb a 0)) ≡ eqb a b
level-is a b t s h = rw (alike t s h) (and-true (eqb a b))
  where
    alike : (t s : Bool) → ((t ≡ s) ⊎ (a ≡ 0)) → (beq t s || eqb a 0) ≡ true
    alike t s (inl e) = rw e (same s)
      where
        same : (s : Bool) → (beq s s || eqb a 0) ≡ true
        same true = refl
        same false = refl
    alike t s (inr e) = rw (eq-eqb a 0 e) (or_is (beq t s))
      where
        or_is : (z : Bool) → (z || true) ≡ true
        or_is true = refl
        or_is false = refl

equal_where_whole : (v y : Float) (t s : Bool) (a c : ℕ) → 0 < c → HasValue v t (a / c) 1 → ((t ≡ s) ⊎ (a / c ≡ 0)) → HasValue y s a c → eq v y ≡ eqb (a % c) 0
unfolding eq
equal_where_whole nan y t s a c C p o v = absurd p
equal_where_whole (inf r) y t s a c C p o v = absurd p
equal_where_whole (fin r n d) nan t s a c C p o v = absurd v
equal_where_whole (fin r n d) (inf z) t s a c C p o v = absurd v
equal_where_whole (fin r n d) (fin z m e) t s a c C p o v =
    let k = a / c in
    let w = div-add-mod' a c in
    level-is (n * up d * down e) (m * up e * down d) r z (signs o)
    ∙ tests_agree (n * up d * down e) (m * up e * down d) (a % c) 0
    (λ h. let x = same_out (n * up d) (down d) (m * up e) (down e) k a c (down_pos d) (down_pos e) C p.1 v.1 h in omega arith)
    (λ h. same_in (n * up d) (down d) (m * up e) (down e) k a c (down_pos d) (down_pos e) C p.1 v.1 (omega arith))
  where
    signs : ((t ≡ s) ⊎ (a / c ≡ 0)) → (r ≡ z) ⊎ (n * up d * down e ≡ 0)
    signs (inl q) = inl (p.0 ∙ q ∙ sym v.0)
    signs (inr q) =
        let kd : a / c * down d ≡ 0 = rw q (zero-mul (down d)) in
        let n0 : n * up d ≡ 0 = omega (arith, p.1) in
        inr (rw n0 (zero-mul (down e)))

-- ---- what the code asks and answers
size_le : (m d a c : ℕ) → 0 < c → a ≤ 512 * c → m * c ≡ a * d → m ≤ 512 * d
size_le m d a c C l h = le_of_mul-le-mul_right (let g = mul-le-mul_right d l in omega arith) C

over_true : (m : ℕ) (e : ℤ) → m * up e ≤ 512 * down e → T (le (fin true 1 (pos 63)) (fin true m e))
unfolding le
over_true m e l = rw (lt-ltb (m * up e * 1) (2 ^ 63 * down e) (let d = down_pos e in omega arith)) tt

over_false : (m : ℕ) (e : ℤ) → T (le (fin true 1 (pos 63)) (fin false m e))
unfolding le
over_false m e = rw (lt-ltb 0 (2 ^ 63 * down e + m * up e * 1) (let d = down_pos e in omega arith)) tt

under_true : (m : ℕ) (e : ℤ) → T (lt (fin true m e) (fin false 1 (pos 63)))
unfolding lt
under_true m e = lt→ltb 0 (m * up e * 1 + 2 ^ 63 * down e) (let d = down_pos e in omega arith)

under_false : (m : ℕ) (e : ℤ) → m * up e ≤ 512 * down e → T (lt (fin false m e) (fin false 1 (pos 63)))
unfolding lt
under_false m e l = lt→ltb (m * up e * 1) (2 ^ 63 * down e) (let d = down_pos e in omega arith)

-- the machine reads the whole part back from its bits
pub read_back : (w : ℤ) (y : Float) → w ≡ to_signed 63 y → to_z w64 (of_z w64 w) ≡ w
read_back w y e = to_z-of_z w64 w (record { sfits = rw e (to_signed_in 63 y) })

module _ {x y : Float} {s : Bool} {a c : ℕ} (t : Steps x y s a c) where
  pub castable : T (le (fin true 1 (pos 63)) y) × T (lt y (fin false 1 (pos 63)))
  castable = go y t.value
    where
      go : (y : Float) → HasValue y s a c → T (le (fin true 1 (pos 63)) y) × T (lt y (fin false 1 (pos 63)))
      go nan v = absurd v
      go (inf r) v = absurd v
      go (fin true m e) v = (over_true m e (size_le (m * up e) (down e) a c t.some t.most v.1), under_true m e)
      go (fin false m e) v = (over_false m e, under_false m e (size_le (m * up e) (down e) a c t.some t.most v.1))

  -- w is the whole part, and r that as a double
  pub answer : (w : ℤ) (r : Float) → w ≡ to_signed 63 y → r ≡ of_int binary64 w → ne r y ≡ off_grid x
  unfolding ne
  answer w r p q =
      let i : r ≡ of_int binary64 (cond s (neg_ℤ (pos (a / c))) (pos (a / c))) = q ∙ ap (of_int binary64) (p ∙ whole_part y s a c t.some t.most t.value) in
      let (u, v, o) = of-signed s (a / c) (few a c t.some t.most) in
      ap not (equal_where_whole r y u s a c t.some (subst (λ (z : Float). HasValue z u (a / c) 1) (sym i) v) o t.value) ∙ sym t.off
