-- The order of the floats from +0.0 up.
use Rattle.std.specs.Prelude.{◌≡◌, refl, Bool, true, false, not, ◌&&◌, ℕ, zero, suc, ◌+◌, ◌*◌, ◌%◌, ◌^◌, ◌≤◌, ◌<◌, ℤ, pos, negsuc, T, ltb, eqb, leb, Float}
use Rattle.std.proofs.Common.{sym, ap, ◌∙◌, subst, mul-one, one-mul, pow-suc, mul_left_comm, mul_assoc, zero-lt-suc, le_antisymm, mul-pos, zero-mul, arith, eqb→eq, pow_pos, pow-add, ltb-true, ltb-false, le-ltb}
use Rattle.std.proofs.Math.Nat.{pow-succ', eq_of_mul-eq-mul_right}
use Rattle.std.specs.Float.{nan, inf, fin, binary64}
use Rattle.std.specs.Float.Ieee.{lt, fits, up, down, prec, low, emax}
use Rattle.std.specs.Float.Ieee.Fits.{and_l, up_pos, down_pos}
use Rattle.std.specs.Float.Ieee.Positive.{through}
use Rattle.transfer_matrix.specs.Rounded.{ieee}

-- +0.0, a number above it, or +inf
unfoldable pub plus : Float → Bool
plus nan = false
plus (inf s) = not s
plus (fin s m e) = not s

differ : {A : Type 0} → true ≡ false → A
differ e = absurd (subst (λ (b : Bool). T b) e tt)

-- what is above such a number is one
pub above-plus : (a x : Float) → T (plus a) → lt a x ≡ true → T (plus x)
unfolding plus lt
above-plus (inf false) nan g h = differ (sym h)
above-plus (inf false) (inf t) g h = differ (sym h)
above-plus (inf false) (fin t n d) g h = differ (sym h)
above-plus (fin false m e) nan g h = differ (sym h)
above-plus (fin false m e) (inf false) g h = tt
above-plus (fin false m e) (inf true) g h = differ (sym h)
above-plus (fin false m e) (fin false n d) g h = tt
above-plus (fin false m e) (fin true n d) g h = differ (sym h)
above-plus nan _ g h = elim g [ ]
above-plus (inf true) _ g h = elim g [ ]
above-plus (fin true m e) _ g h = elim g [ ]

pub not_above_itself : (a : Float) → T (plus a) → lt a a ≡ false
unfolding plus lt
not_above_itself (inf false) g = refl
not_above_itself (fin false m e) g = le-ltb (m * up e * down e) (m * up e * down e) (omega arith)
not_above_itself nan g = elim g [ ]
not_above_itself (inf true) g = elim g [ ]
not_above_itself (fin true m e) g = elim g [ ]

-- a < x, and y is not above a: y is not above x
pub still_not : (a x y : Float) → T (plus a) → T (plus x) → lt a x ≡ true → lt a y ≡ false → lt x y ≡ false
unfolding plus lt
still_not (inf false) (inf false) y g g' h k = differ (sym h)
still_not (inf false) (fin false p c) y g g' h k = differ (sym h)
still_not (fin false m e) (inf false) nan g g' h k = refl
still_not (fin false m e) (inf false) (inf t) g g' h k = refl
still_not (fin false m e) (inf false) (fin t n d) g g' h k = refl
still_not (fin false m e) (fin false p c) nan g g' h k = refl
still_not (fin false m e) (fin false p c) (inf false) g g' h k = differ k
still_not (fin false m e) (fin false p c) (inf true) g g' h k = refl
still_not (fin false m e) (fin false p c) (fin true n d) g g' h k = refl
still_not (fin false m e) (fin false p c) (fin false n d) g g' h k =
    let a : m * up e * down c < p * up c * down e = ltb-true _ _ h in
    let b : n * up d * down e ≤ m * up e * down d = ltb-false _ _ k in
    le-ltb (p * up c * down d) (n * up d * down c) (through (n * up d) (m * up e) (p * up c) (down d) (down e) (down c) (down_pos e) b (omega arith))
still_not nan _ y g g' h k = elim g [ ]
still_not (inf false) nan y g g' h k = elim g' [ ]
still_not (inf false) (inf true) y g g' h k = elim g' [ ]
still_not (inf false) (fin true p c) y g g' h k = elim g' [ ]
still_not (inf true) _ y g g' h k = elim g [ ]
still_not (fin false m e) nan y g g' h k = elim g' [ ]
still_not (fin false m e) (inf true) y g g' h k = elim g' [ ]
still_not (fin false m e) (fin true p c) y g g' h k = elim g' [ ]
still_not (fin true m e) _ y g g' h k = elim g [ ]

-- ---- two that fit, neither above the other, are one

even_odd : (m t : ℕ) → m % 2 ≡ 1 → m ≡ 2 * t → ⊥
even_odd m t o h = omega arith

odd_pow : (m n a b : ℕ) → m % 2 ≡ 1 → n % 2 ≡ 1 → m * 2 ^ a ≡ n * 2 ^ b → (m ≡ n) × (a ≡ b)
odd_pow m n zero zero o p h = (sym (mul-one m) ∙ h ∙ mul-one n, refl)
odd_pow m n zero (suc b) o p h =
    absurd (even_odd m (n * 2 ^ b) o (sym (mul-one m) ∙ h ∙ ap (λ (x : ℕ). n * x) (pow-succ' 2 b) ∙ mul_left_comm n 2 (2 ^ b)))
odd_pow m n (suc a) zero o p h =
    absurd (even_odd n (m * 2 ^ a) p (sym (mul-one n) ∙ sym h ∙ ap (λ (x : ℕ). m * x) (pow-succ' 2 a) ∙ mul_left_comm m 2 (2 ^ a)))
odd_pow m n (suc a) (suc b) o p h =
    let r = odd_pow m n a b o p (eq_of_mul-eq-mul_right 2 (zero-lt-suc 1) (m * 2 ^ a) (n * 2 ^ b)
    (mul_assoc m (2 ^ a) 2 ∙ ap (λ (x : ℕ). m * x) (sym (pow-suc 2 a)) ∙ h ∙ ap (λ (x : ℕ). n * x) (pow-suc 2 b) ∙ sym (mul_assoc n (2 ^ b) 2))) in
    (r.0, ap suc r.1)

is_odd : (s : Bool) (m : ℕ) (e : ℤ) → T (fits binary64 (fin s (suc m) e)) → suc m % 2 ≡ 1
unfolding fits
is_odd s m e t =
    let odd = eqb (suc m % 2) 1 in
    let short = ltb (suc m) (2 ^ prec binary64) in
    let fine = leb (down e) (2 ^ low binary64) in
    eqb→eq (suc m % 2) 1
    (and_l odd short (and_l (odd && short) fine (and_l (odd && short && fine) (ltb (suc m * up e) (2 ^ suc (emax binary64) * down e)) t)))

two_up : (p : ℕ) → 0 < p → 2 * p ≡ 1 → ⊥
two_up p h e = omega arith

flat : (e : ℤ) → up e * down e ≡ 1 → e ≡ pos 0
flat (pos zero) h = refl
flat (pos (suc k)) h = absurd (two_up (2 ^ k) (pow_pos k) (sym (pow-succ' 2 k) ∙ sym (mul-one (2 ^ suc k)) ∙ h))
flat (negsuc k) h = absurd (two_up (2 ^ k) (pow_pos k) (sym (pow-succ' 2 k) ∙ sym (one-mul (2 ^ suc k)) ∙ h))

zero_exp : (s : Bool) (e : ℤ) → T (fits binary64 (fin s zero e)) → e ≡ pos 0
unfolding fits
zero_exp s e t = flat e (eqb→eq (up e * down e) 1 t)

same-odd : (m n : ℕ) (e d : ℤ) → m % 2 ≡ 1 → n % 2 ≡ 1 → m * up e * down d ≡ n * up d * down e → (m ≡ n) × (e ≡ d)
same-odd m n (pos a) (pos b) o p h = let r = odd_pow m n a b o p (sym (mul-one _) ∙ h ∙ mul-one _) in (r.0, ap pos r.1)
same-odd m n (pos a) (negsuc b) o p h =
    let r = odd_pow m n (a + suc b) 0 o p (rw pow-add (sym (mul_assoc m (2 ^ a) (2 ^ suc b)) ∙ h ∙ mul-one (n * 1))) in absurd (omega (arith, r.1))
same-odd m n (negsuc a) (pos b) o p h =
    let r = odd_pow n m (b + suc a) 0 p o (rw pow-add (sym (mul_assoc n (2 ^ b) (2 ^ suc a)) ∙ sym h ∙ mul-one (m * 1))) in
    absurd (omega (arith, r.1))
same-odd m n (negsuc a) (negsuc b) o p h =
    let r = odd_pow m n (suc b) (suc a) o p (ap (λ (x : ℕ). x * 2 ^ suc b) (sym (mul-one m)) ∙ h ∙ ap (λ (x : ℕ). x * 2 ^ suc a) (mul-one n)) in
    let e : a ≡ b = omega (arith, r.1) in
    (r.0, ap negsuc e)

some : (m : ℕ) (e d : ℤ) → suc m * up e * down d ≡ 0 → ⊥
some m e d h = let p : 0 < suc m * up e * down d = mul-pos (mul-pos (zero-lt-suc m) (up_pos e)) (down_pos d) in omega arith

none : (e d : ℤ) → zero * up e * down d ≡ 0
none e d = ap (λ (x : ℕ). x * down d) (zero-mul (up e)) ∙ zero-mul (down d)

pub one_float : (a b : Float) → T (plus a) → T (plus b) → T (fits binary64 a) → T (fits binary64 b) → lt a b ≡ false → lt b a ≡ false → a ≡ b
unfolding plus lt
one_float (inf false) (inf false) g g' f f' h k = refl
one_float (inf false) (fin false n d) g g' f f' h k = differ k
one_float (fin false m e) (inf false) g g' f f' h k = differ h
one_float (fin false zero e) (fin false zero d) g g' f f' h k = ap (fin false 0) (zero_exp false e f ∙ sym (zero_exp false d f'))
one_float (fin false zero e) (fin false (suc n) d) g g' f f' h k =
    absurd (some n d e (omega (arith, ltb-false (zero * up e * down d) (suc n * up d * down e) h, none e d)))
one_float (fin false (suc m) e) (fin false zero d) g g' f f' h k =
    absurd (some m e d (omega (arith, ltb-false (zero * up d * down e) (suc m * up e * down d) k, none d e)))
one_float (fin false (suc m) e) (fin false (suc n) d) g g' f f' h k =
    let r = same-odd (suc m) (suc n) e d (is_odd false m e f) (is_odd false n d f') (le_antisymm (ltb-false _ _ k) (ltb-false _ _ h)) in
    λ i. fin false (r.0 i) (r.1 i)
one_float nan b g g' f f' h k = elim g [ ]
one_float (inf false) nan g g' f f' h k = elim g' [ ]
one_float (inf false) (inf true) g g' f f' h k = elim g' [ ]
one_float (inf false) (fin true n d) g g' f f' h k = elim g' [ ]
one_float (inf true) b g g' f f' h k = elim g [ ]
one_float (fin false m e) nan g g' f f' h k = elim g' [ ]
one_float (fin false m e) (inf true) g g' f f' h k = elim g' [ ]
one_float (fin false zero e) (fin true n d) g g' f f' h k = elim g' [ ]
one_float (fin false (suc m) e) (fin true n d) g g' f f' h k = elim g' [ ]
one_float (fin true m e) b g g' f f' h k = elim g [ ]

-- y is not above s, and s is not above r: y is not above r
pub nor_above : (r s y : Float) → T (plus r) → T (plus s) → lt r s ≡ false → lt s y ≡ false → lt r y ≡ false
unfolding plus lt
nor_above (inf false) s nan g g' h k = refl
nor_above (inf false) s (inf t) g g' h k = refl
nor_above (inf false) s (fin t n d) g g' h k = refl
nor_above (fin false m e) (inf false) y g g' h k = differ h
nor_above (fin false m e) (fin false p c) nan g g' h k = refl
nor_above (fin false m e) (fin false p c) (inf false) g g' h k = differ k
nor_above (fin false m e) (fin false p c) (inf true) g g' h k = refl
nor_above (fin false m e) (fin false p c) (fin true n d) g g' h k = refl
nor_above (fin false m e) (fin false p c) (fin false n d) g g' h k =
    let a : p * up c * down e ≤ m * up e * down c = ltb-false _ _ h in
    let b : n * up d * down c ≤ p * up c * down d = ltb-false _ _ k in
    le-ltb (m * up e * down d) (n * up d * down e) (through (n * up d) (p * up c) (m * up e) (down d) (down c) (down e) (down_pos c) b a)
nor_above nan s y g g' h k = elim g [ ]
nor_above (inf true) s y g g' h k = elim g [ ]
nor_above (fin false m e) nan y g g' h k = elim g' [ ]
nor_above (fin false m e) (inf true) y g g' h k = elim g' [ ]
nor_above (fin false m e) (fin true p c) y g g' h k = elim g' [ ]
nor_above (fin true m e) s y g g' h k = elim g [ ]

-- none of these is below +0.0
pub below_origin : (r : Float) → T (plus r) → lt r ieee.𝟘 ≡ false
unfolding plus lt
below_origin (inf false) g = refl
below_origin (fin false m e) g = le-ltb (m * up e * 1) (0 * 1 * down e) (omega arith)
below_origin nan g = elim g [ ]
below_origin (inf true) g = elim g [ ]
below_origin (fin true m e) g = elim g [ ]
