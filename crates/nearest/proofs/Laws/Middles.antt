-- What rounding keeps of a fraction that is in no middle of two values: the middle of that and any other value lies on the other value's side.
use Rattle.std.specs.Prelude.{◌≡◌, Bool, true, false, not, T, leb}
use Rattle.std.proofs.Common.{sym, ap, ◌∙◌, inl, inr, le_trans, le_of_eq, le_of_lt, lt_of_lt_of_le, lt_of_le_of_lt, eq-or-lt_of_le, mul-pos, mul-le-mul_right, mul-lt-mul_of_pos_right, lt_of_mul-lt-mul_right, div-add-mod', mod-lt, le-div_iff_mul-le, arith, leb→le, eqb→eq, pow-add, pow_pos}
use Prim.Native.Nat.{ℕ, suc, ◌+◌, ◌-◌, ◌*◌, ◌/◌, ◌%◌, ◌^◌, ◌≤◌, ◌<◌, compare, Ordering}
use Rattle.std.proofs.Math.Dec.{nleb→lt, is_le, compare_is_eq}
use Rattle.std.specs.Float.{Format}
use Rattle.std.specs.Float.Ieee.{prec, low, size, nearest}
use Rattle.std.specs.Float.Ieee.Digits.{size_reaches}
use Rattle.std.specs.Float.Ieee.Fits.{two}
use Rattle.std.specs.Float.Ieee.Nearest.{closest, nearest-ge}
use Rattle.std.specs.Float.Ieee.Order.{drop, kept}
use Rattle.std.specs.Float.Ieee.Scale.{normal_of_fraction}
use Rattle.nearest.proofs.Laws.Values.{on_grid}

-- what twice the fraction n / (b * 2 ^ k) is next to its nearest whole number q
pub record Within (p n b q k : ℕ) : Type 0 where
  pub least : 2 * q * (b * 2 ^ k) < 2 * n + b * 2 ^ k
  pub most : 2 * n < 2 * q * (b * 2 ^ k) + b * 2 ^ k
  pub normal : 2 ^ (p - 1) * (b * 2 ^ k) ≤ n
  pub long : 2 ^ (p - 1) ≤ q

-- ---- a fraction that is in no middle
closest_within : (n u : ℕ) → 0 < u → (n % u * 2 ≡ u → ⊥) → (2 * closest n u * u < 2 * n + u) × (2 * n < 2 * closest n u * u + u)
closest_within n u U t =
    let r = n % u * 2 in
    go (n / u) (n % u) (compare r u) (leb→le r u) (nleb→lt r u) (eqb→eq r u) (div-add-mod' n u) (mod-lt n U) t
  where
    go : (w r : ℕ) (o : Ordering) → (T (is_le o) → r * 2 ≤ u) → (T (not (is_le o)) → u < r * 2) → (T (compare_is_eq o) → r * 2 ≡ u) → w * u + r ≡ n → r < u
        → (r * 2 ≡ u → ⊥) → (2 * nearest w o * u < 2 * n + u) × (2 * n < 2 * nearest w o * u + u)
    go w r Ordering.lt le gt eq e l t = let h = le tt in (omega arith, omega (arith, t))
    go w r Ordering.eq le gt eq e l t = absurd (t (eq tt))
    go w r Ordering.gt le gt eq e l t =
        let h = gt tt in
        let d : 2 * suc w * u ≡ 2 * (w * u) + 2 * u = omega arith in
        (omega arith, omega arith)

-- ---- what `round` keeps of the fraction a / b, n of the format's smallest values over b
pub rounded-within : (f : Format) (a b : ℕ) → 0 < b → 2 ^ (prec f - 1) * b ≤ a * 2 ^ low f
    → let n = a * 2 ^ low f in let k = drop (prec f) n b in (n % (b * 2 ^ k) * 2 ≡ b * 2 ^ k → ⊥) → Within (prec f) n b (kept (prec f) n b) k
rounded-within f a b B N t =
    let n = a * 2 ^ low f in
    let p = prec f in
    let k = drop p n b in
    let u = b * 2 ^ k in
    let U : 0 < u = mul-pos B (pow_pos k) in
    let z : p ≤ size (n / b) = normal_of_fraction f a b B N in
    let j : p - 1 + k < size (n / b) = omega (arith, two f) in
    let w : 2 ^ (p - 1) * 2 ^ k * b ≤ n = (le-div_iff_mul-le B).0 (le_trans (le_of_eq (sym (pow-add 2 (p - 1) k))) (size_reaches (n / b) (p - 1 + k) j)) in
    let v : 2 ^ (p - 1) * u ≤ n = omega arith in
    let (least, most) = closest_within n u U t in
    record {
      least = least;
      most = most;
      normal = v;
      long = le_trans ((le-div_iff_mul-le U).1 v) (nearest-ge (n / u) (compare (n % u * 2) u));
    }

-- ---- so the middle of q * 2 ^ k smallest values and any other value of the format lies on that value's side
module _ (p n b q k : ℕ) (P : 2 ≤ p) (B : 0 < b) (W : Within p n b q k) where
  pub middle_under : (m i : ℕ) → m < 2 ^ p → m * 2 ^ i < q * 2 ^ k → (m * 2 ^ i + q * 2 ^ k) * b < 2 * n
  middle_under m i M l = go (leb (2 ^ (p - 1) * 2 ^ k) (m * 2 ^ i)) (leb→le (2 ^ (p - 1) * 2 ^ k) (m * 2 ^ i)) (nleb→lt (2 ^ (p - 1) * 2 ^ k) (m * 2 ^ i))
    where
      -- one place lower at least
      lower : (y t : ℕ) → 2 * q * (b * t) < 2 * n + b * t → y + t ≤ q * t → (y + q * t) * b < 2 * n
      lower y t h g = let e : (y + t) * b ≤ q * t * b = mul-le-mul_right b g in omega arith

      go : (c : Bool) → (T c → 2 ^ (p - 1) * 2 ^ k ≤ m * 2 ^ i) → (T (not c) → m * 2 ^ i < 2 ^ (p - 1) * 2 ^ k) → (m * 2 ^ i + q * 2 ^ k) * b < 2 * n
      go true h g =
          let (j, e) = on_grid p k m i P M (h tt) in
          let less : j < q = lt_of_mul-lt-mul_right (2 ^ k) (lt_of_le_of_lt (le_of_eq (sym e)) l) in
          let s : (j + 1) * 2 ^ k ≤ q * 2 ^ k = mul-le-mul_right (2 ^ k) (omega arith) in
          lower (m * 2 ^ i) (2 ^ k) W.least (omega arith)
      go false h g = elim (eq-or-lt_of_le W.long) [
        | inl e ↦
            let y : m * 2 ^ i * b < 2 ^ (p - 1) * 2 ^ k * b = mul-lt-mul_of_pos_right (g tt) B in
            let r : q * 2 ^ k * b ≡ 2 ^ (p - 1) * (b * 2 ^ k) = ap (λ (z : ℕ). z * 2 ^ k * b) (sym e) ∙ omega arith in
            omega (arith, W.normal)
        | inr o ↦
            let s : (2 ^ (p - 1) + 1) * 2 ^ k ≤ q * 2 ^ k = mul-le-mul_right (2 ^ k) (omega arith) in
            lower (m * 2 ^ i) (2 ^ k) W.least (omega (arith, g tt))
      ]

  pub middle_over : (m i : ℕ) → m < 2 ^ p → q * 2 ^ k < m * 2 ^ i → 2 * n < (m * 2 ^ i + q * 2 ^ k) * b
  middle_over m i M l =
      let (j, e) = on_grid p k m i P M (le_trans (mul-le-mul_right (2 ^ k) W.long) (le_of_lt l)) in
      let more : q < j = lt_of_mul-lt-mul_right (2 ^ k) (lt_of_lt_of_le l (le_of_eq e)) in
      let s : (q + 1) * 2 ^ k ≤ j * 2 ^ k = mul-le-mul_right (2 ^ k) (omega arith) in
      let y : (q + 1) * 2 ^ k * b ≤ m * 2 ^ i * b = mul-le-mul_right b (omega arith) in
      omega (arith, W.most)

-- ---- from smallest values to fractions: A / c is w of them, B / d is z; l of them are 1
module _ (l a b c d A B w z : ℕ) (C : 0 < c) (D : 0 < d) (ea : A * l ≡ w * c) (eb : B * l ≡ z * d) where
  sum_is : (A * d + B * c) * b * l ≡ (w + z) * b * (c * d)
  sum_is = omega (arith, ap (λ (u : ℕ). u * (d * b)) ea, ap (λ (u : ℕ). u * (c * b)) eb)

  pub sum-under : (w + z) * b < 2 * (a * l) → (A * d + B * c) * b < 2 * a * (c * d)
  sum-under h =
      let g = mul-lt-mul_of_pos_right h (mul-pos C D) in
      let e : 2 * (a * l) * (c * d) ≡ 2 * a * (c * d) * l = omega arith in
      lt_of_mul-lt-mul_right l (lt_of_le_of_lt (le_of_eq sum_is) (lt_of_lt_of_le g (le_of_eq e)))

  pub sum_over : 2 * (a * l) < (w + z) * b → 2 * a * (c * d) < (A * d + B * c) * b
  sum_over h =
      let g = mul-lt-mul_of_pos_right h (mul-pos C D) in
      let e : 2 * a * (c * d) * l ≡ 2 * (a * l) * (c * d) = omega arith in
      lt_of_mul-lt-mul_right l (lt_of_le_of_lt (le_of_eq e) (lt_of_lt_of_le g (le_of_eq (sym sum_is))))
