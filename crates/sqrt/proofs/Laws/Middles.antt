-- So many places are the nearest: the middle of them and any other value lies on the other value's side of √x.
use Rattle.std.specs.Prelude.{◌≡◌, refl, ◌⊎◌, ℕ, zero, suc, ◌+◌, ◌-◌, ◌*◌, ◌/◌, ◌%◌, ◌^◌, ◌≤◌, ◌<◌, Bool, true, false, not, T, leb, Float}
use Rattle.std.proofs.Common.{sym, ap, ap₂, ◌∙◌, subst, inl, inr, le_trans, le_of_eq, le_of_lt, lt_of_lt_of_le, lt_of_le_of_lt, lt_of_not-le, lt_irrefl, pow-suc, mul-pos, mul_assoc, mul_comm, mul_left_comm, mul_right_comm, add-mul, mul-le-mul, mul-le-mul_left, mul-le-mul_right, mul-lt-mul_of_pos_right, lt_of_mul-lt-mul_right, arith, leb→le, lit≤, pow_pos, pow_mono}
use Rattle.std.proofs.Math.Dec.{nleb→lt}
use Rattle.std.specs.Float.{Format, binary32, binary64}
use Rattle.std.specs.Float.Ieee.{prec, emax, low, fits}
use Rattle.std.specs.Float.Ieee.Exact.{HasValue}
use Rattle.std.specs.Float.Ieee.Fits.{two}
use Rattle.std.specs.Float.Ieee.Positive.{num, den, positive, den_pos, value→cross, positive_of_value}
use Rattle.nearest.proofs.Laws.Smallest.{in_smallest}
use Rattle.nearest.proofs.Laws.Values.{on_grid, order-of, nonnegative-of, lt→cross}
use Rattle.sqrt.specs.Nearest.{NearestRoot}
use Rattle.sqrt.specs.Sqrt.{doubled_square, places}
use Rattle.sqrt.proofs.Laws.Halves.{Halves}

square_lt : (a b : ℕ) → a < b → a * a < b * b
square_lt a b h = lt_of_le_of_lt (mul-le-mul_left a (le_of_lt h)) (mul-lt-mul_of_pos_right h (omega arith))

square-of : (a t : ℕ) → a * t * (a * t) ≡ a * a * (t * t)
square-of a t = simp (mul_assoc, mul_left_comm)

parity : (h : ℕ) → ((h ≡ 2 * (h / 2)) × (places h ≡ h / 2)) ⊎ ((h ≡ 2 * (h / 2) + 1) × (places h ≡ h / 2 + 1))
parity h = go (h % 2) refl
  where
    go : (r : ℕ) → h % 2 ≡ r → ((h ≡ 2 * (h / 2)) × (places h ≡ h / 2)) ⊎ ((h ≡ 2 * (h / 2) + 1) × (places h ≡ h / 2 + 1))
    go zero e = inl (omega arith, omega arith)
    go (suc r) e = inr (omega arith, omega arith)

module _ (f : Format) (n h k : ℕ) (r : Halves f n h k) where
  abbrev root : ℕ
  root = places h * 2 ^ k

  -- where the values of the format are 2 ^ k smallest values apart
  abbrev g : ℕ
  g = 2 ^ (prec f - 1) * 2 ^ k

  half-long : 2 ^ (prec f - 1) ≤ h / 2
  half-long = go (prec f) (two f) r.long
    where
      go : (p : ℕ) → 2 ≤ p → 2 ^ p ≤ h → 2 ^ (p - 1) ≤ h / 2
      go p P l =
          let e : p ≡ suc (p - 1) = omega arith in
          let g : 2 ^ p ≡ 2 ^ (p - 1) * 2 = ap (λ (z : ℕ). 2 ^ z) e ∙ pow-suc 2 (p - 1) in
          omega arith

  pub root_pos : 0 < root
  root_pos = mul-pos (let l = r.long in let p = pow_pos (prec f) in omega arith) (pow_pos k)

  under : (y : ℕ) → y < h * 2 ^ k → y * y < doubled_square f n
  under y l = lt_of_lt_of_le (square_lt y (h * 2 ^ k) l) (le_trans (le_of_eq (square-of h (2 ^ k))) r.least)

  up_to : (y : ℕ) → h % 2 ≡ 1 → y ≤ h * 2 ^ k → y * y < doubled_square f n
  up_to y o l = lt_of_le_of_lt (mul-le-mul l l) (lt_of_le_of_lt (le_of_eq (square-of h (2 ^ k))) (r.no_tie o))

  over : (y : ℕ) → (h + 1) * 2 ^ k ≤ y → doubled_square f n < y * y
  over y l = lt_of_lt_of_le r.most (le_trans (le_of_eq (sym (square-of (h + 1) (2 ^ k)))) (mul-le-mul l l))

  middle_below : (m i : ℕ) → m < 2 ^ prec f → m * 2 ^ i < root → (m * 2 ^ i + root) * (m * 2 ^ i + root) < doubled_square f n
  middle_below m i M l = elim (parity h) [
    | inl (e, a) ↦ under (m * 2 ^ i + root) (even (m * 2 ^ i) (2 ^ k) (e ∙ ap (λ (z : ℕ). 2 * z) (sym a)) l)
    | inr (e, a) ↦
        let y = m * 2 ^ i in
        up_to (y + root) (omega arith) (odd y (2 ^ k) e a (reach a (leb g y) (leb→le g y) (nleb→lt g y)))
  ]
    where
      even : (y t : ℕ) → h ≡ 2 * places h → y < places h * t → y + places h * t < h * t
      even y t e l = subst (λ (z : ℕ). y + places h * t < z * t) (sym e) (omega arith)

      odd : (y t : ℕ) → h ≡ 2 * (h / 2) + 1 → places h ≡ h / 2 + 1 → y ≤ h / 2 * t → y + places h * t ≤ h * t
      odd y t e a l =
          subst (λ (z : ℕ). y + places h * t ≤ z * t) (sym e)
          (subst (λ (z : ℕ). y + z * t ≤ (2 * (h / 2) + 1) * t) (sym a) (omega arith))

      reach : places h ≡ h / 2 + 1 → (b : Bool) → (T b → g ≤ m * 2 ^ i) → (T (not b) → m * 2 ^ i < g) → m * 2 ^ i ≤ h / 2 * 2 ^ k
      reach a true t s =
          let (j, e) = on_grid (prec f) k m i (two f) M (t tt) in
          let below = subst (λ (z : ℕ). m * 2 ^ i < z * 2 ^ k) a l in
          let less : j < h / 2 + 1 = lt_of_mul-lt-mul_right (2 ^ k) (lt_of_le_of_lt (le_of_eq (sym e)) below) in
          le_trans (le_of_eq e) (mul-le-mul_right (2 ^ k) (omega arith))
      reach a false t s = le_trans (le_of_lt (s tt)) (mul-le-mul_right (2 ^ k) half-long)

  middle_above : (m i : ℕ) → m < 2 ^ prec f → root < m * 2 ^ i → doubled_square f n < (m * 2 ^ i + root) * (m * 2 ^ i + root)
  middle_above m i M l = elim (parity h) [
    | inl (e, a) ↦ over (m * 2 ^ i + root) (even (m * 2 ^ i) (2 ^ k) (e ∙ ap (λ (z : ℕ). 2 * z) (sym a)) (reach a))
    | inr (e, a) ↦ over (m * 2 ^ i + root) (odd (m * 2 ^ i) (2 ^ k) (omega arith) l)
  ]
    where
      even : (y t : ℕ) → h ≡ 2 * places h → (places h + 1) * t ≤ y → (h + 1) * t ≤ y + places h * t
      even y t e l = subst (λ (z : ℕ). (z + 1) * t ≤ y + places h * t) (sym e) (omega arith)

      odd : (y t : ℕ) → h + 1 ≡ 2 * places h → places h * t < y → (h + 1) * t ≤ y + places h * t
      odd y t e l = subst (λ (z : ℕ). z * t ≤ y + places h * t) (sym e) (omega arith)

      reach : places h ≡ h / 2 → (places h + 1) * 2 ^ k ≤ m * 2 ^ i
      reach a =
          let long = mul-le-mul_right (2 ^ k) (subst (λ (z : ℕ). 2 ^ (prec f - 1) ≤ z) (sym a) half-long) in
          let (j, e) = on_grid (prec f) k m i (two f) M (le_trans long (le_of_lt l)) in
          let more : places h < j = lt_of_mul-lt-mul_right (2 ^ k) (lt_of_lt_of_le l (le_of_eq e)) in
          le_trans (mul-le-mul_right (2 ^ k) (omega arith)) (le_of_eq (sym e))

  -- and it is far from overflow
  pub root-bounded : n < 2 ^ (low f + suc (emax f)) → root < 2 ^ (low f + suc (emax f))
  root-bounded N =
      let o = 2 ^ (low f + suc (emax f)) in
      let a : root ≤ h * 2 ^ k = mul-le-mul_right (2 ^ k) (let l = r.long in let p = pow_pos (prec f) in omega arith) in
      let s : root * root ≤ doubled_square f n = le_trans (mul-le-mul a a) (le_trans (le_of_eq (square-of h (2 ^ k))) r.least) in
      let w : doubled_square f n < o * o =
      lt_of_lt_of_le (mul-lt-mul_of_pos_right N (pow_pos (suc (suc (low f))))) (mul-le-mul_left o (pow_mono (spare f))) in
      lt_of_not-le (λ (g : o ≤ root). lt_irrefl (o * o) (lt_of_le_of_lt (mul-le-mul g g) (lt_of_le_of_lt s w)))
    where
      spare : (f : Format) → suc (suc (low f)) ≤ low f + suc (emax f)
      spare binary32 = lit≤ tt
      spare binary64 = lit≤ tt

-- ---- from smallest values to fractions: A / a is w of them, B / b is z, X / c is n; l of them are 1
module _ (l a b c A B X w z n : ℕ) (Ca : 0 < a) (Cb : 0 < b) (Cc : 0 < c) (ea : A * l ≡ w * a) (eb : B * l ≡ z * b) (ec : X * l ≡ n * c) where
  sum_is : (A * b + B * a) * l ≡ (w + z) * (a * b)
  sum_is =
      add-mul (A * b) (B * a) l
      ∙ ap₂ (λ (x y : ℕ). x + y) (mul_right_comm A b l ∙ ap (λ (x : ℕ). x * b) ea) (mul_right_comm B a l ∙ ap (λ (x : ℕ). x * a) eb)
      ∙ omega arith

  left_is : (A * b + B * a) * (A * b + B * a) * c * (l * l) ≡ (w + z) * (w + z) * (a * b * (a * b) * c)
  left_is = swap (A * b + B * a) c l ∙ ap (λ (x : ℕ). x * x * c) sum_is ∙ swap' (w + z) (a * b) c
    where
      swap : (s c l : ℕ) → s * s * c * (l * l) ≡ s * l * (s * l) * c
      swap s c l = simp (mul_assoc, mul_comm, mul_left_comm)

      swap' : (s d c : ℕ) → s * d * (s * d) * c ≡ s * s * (d * d * c)
      swap' s d c = simp (mul_assoc, mul_left_comm)

  right_is : 4 * X * (a * b * (a * b)) * (l * l) ≡ n * (l * 4) * (a * b * (a * b) * c)
  right_is = swap X (a * b * (a * b)) l ∙ ap (λ (x : ℕ). x * (l * 4) * (a * b * (a * b))) ec ∙ swap' n c (l * 4) (a * b * (a * b))
    where
      swap : (x d l : ℕ) → 4 * x * d * (l * l) ≡ x * l * (l * 4) * d
      swap x d l = omega arith

      swap' : (n c l d : ℕ) → n * c * l * d ≡ n * l * (d * c)
      swap' n c l d = simp (mul_assoc, mul_comm, mul_left_comm)

  bottom_pos : 0 < a * b * (a * b) * c
  bottom_pos = mul-pos (mul-pos (mul-pos Ca Cb) (mul-pos Ca Cb)) Cc

  sum_below : (w + z) * (w + z) < n * (l * 4) → (A * b + B * a) * (A * b + B * a) * c < 4 * X * (a * b * (a * b))
  sum_below h =
      lt_of_mul-lt-mul_right (l * l)
      (lt_of_le_of_lt (le_of_eq left_is) (lt_of_lt_of_le (mul-lt-mul_of_pos_right h bottom_pos) (le_of_eq (sym right_is))))

  sum-above : n * (l * 4) < (w + z) * (w + z) → 4 * X * (a * b * (a * b)) < (A * b + B * a) * (A * b + B * a) * c
  sum-above h =
      lt_of_mul-lt-mul_right (l * l)
      (lt_of_le_of_lt (le_of_eq right_is) (lt_of_lt_of_le (mul-lt-mul_of_pos_right h bottom_pos) (le_of_eq (sym left_is))))

doubled_is : (f : Format) (n : ℕ) → n * (2 ^ low f * 4) ≡ doubled_square f n
doubled_is f n =
    ap (λ (x : ℕ). n * x) (sym (pow-suc 2 (suc (low f)) ∙ ap (λ (x : ℕ). x * 2) (pow-suc 2 (low f)) ∙ mul_assoc (2 ^ low f) 2 2))

-- the value that is that many places is the nearest one
pub places-nearest : (f : Format) (x v : Float) (n h k : ℕ) → num x * 2 ^ low f ≡ n * den x → Halves f n h k → T (fits f v)
    → HasValue v false (places h * 2 ^ k) (2 ^ low f) → NearestRoot f x v
places-nearest f x v n h k X r fv hv =
    let l = 2 ^ low f in
    let L = pow_pos (low f) in
    let z = places h * 2 ^ k in
    let p : T (positive v) = positive_of_value v z l hv (root_pos f n h k r) in
    let nv = nonnegative-of v p in
    let ev : num v * l ≡ z * den v = value→cross v z l hv in
    record {
      held = fv;
      above = p;
      smaller = λ y fy ny t.
          let (m, i, u) = in_smallest f y fy ny in
          let w = m * 2 ^ i in
          let o : w < z = order-of l (den y) (den v) (num y) (num v) w z L u.same ev (lt→cross y v ny nv t) in
          sum_below l (den y) (den v) (den x) (num y) (num v) (num x) w z n (den_pos y) (den_pos v) (den_pos x) u.same ev X
          (lt_of_lt_of_le (middle_below f n h k r m i u.short o) (le_of_eq (sym (doubled_is f n))));
      larger = λ y fy ny t.
          let (m, i, u) = in_smallest f y fy ny in
          let w = m * 2 ^ i in
          let o : z < w = order-of l (den v) (den y) (num v) (num y) z w L ev u.same (lt→cross v y nv ny t) in
          sum-above l (den y) (den v) (den x) (num y) (num v) (num x) w z n (den_pos y) (den_pos v) (den_pos x) u.same ev X
          (lt_of_le_of_lt (le_of_eq (doubled_is f n)) (middle_above f n h k r m i u.short o));
    }
