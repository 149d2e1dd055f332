-- The theorem in numbers that code can compute: factors between powers of two, and the bound as a double.
use Rattle.std.specs.Prelude.{◌≡◌, refl, true, false, List, [], ◌∷◌, ℕ, zero, suc, ◌+◌, ◌*◌, ◌-◌, ◌^◌, ◌≤◌, ◌<◌, max, T, leb, ltb, length, Float}
use Rattle.std.proofs.Common.{sym, ◌∙◌, ap₂, subst, le_trans, le_of_eq, mul_assoc, one-mul, mul-zero, mul-suc, mul-pos, lt_of_lt_of_le, mul-lt-mul_of_pos_right, mul-le-mul, arith, ltb-false, ne_eqb, leb→le, ltb→lt, lit≤, pow_pos, pow-add, pow_mono}
use Rattle.std.proofs.Math.Path.{ap, subst₂}
use Rattle.std.proofs.Math.Option.{none}
use Rattle.std.proofs.Math.Decide.{dec_lt}
use Rattle.std.specs.Float.{nan, inf, fin, binary64}
use Rattle.std.specs.Float.Ieee.{round, up, down}
use Rattle.std.specs.Float.Ieee.Exact.{round_exact}
use Rattle.std.specs.Float.Ieee.Fits.{and_l, and_r, down_pos, up_pos}
use Rattle.std.specs.Float.Ieee.Positive.{positive}
use Rattle.fraction.proofs.Fraction.{ℚ, frac, oneℚ, mulℚ, invℚ, posℚ, Posℚ}
use Rattle.fraction.proofs.Value.{value}
use Rattle.fraction.proofs.Laws.Value.{value-plus}
use Rattle.list_laws.proofs.Laws.Search.{none-at}
use Rattle.transfer_matrix.specs.Checked.{All, Kept, Checked}
use Rattle.transfer_matrix.specs.Job.{Edge, Job, back_edge, back_edges, prepend, step_of, too_many_near}
use Rattle.transfer_matrix.specs.Rounded.{ieee}
use Rattle.transfer_matrix.specs.Sweep.{Z, answer}
use Rattle.exactness.specs.Exact.{rational, at_values}
use Rattle.exactness.specs.Textbook.{textbook}
use Rattle.accuracy.specs.Stated.{within_powers, depth, units, roundings_of, error_bound}
use Rattle.accuracy.specs.Ring.{NonNeg, nat}
use Rattle.accuracy.proofs.Laws.Ring.{◌⋆◌, ◌≼◌, nn_pos}
use Rattle.accuracy.specs.Rounds.{ε}
use Rattle.accuracy.proofs.Laws.Rounds.{frac-nat}
use Rattle.accuracy.specs.Laws.Rounds.{smallest}
use Rattle.accuracy.proofs.Laws.Operations.{value-signed, inv_frac}
use Rattle.accuracy.proofs.Close.{Close}
use Rattle.accuracy.proofs.Laws.Powers.{power, θ}
use Rattle.accuracy.proofs.Laws.Factors.{Moderate, EdgesModerate}
use Rattle.accuracy.proofs.Laws.Sizes.{frac_mul, frac-≼}
use Rattle.accuracy.proofs.Apart.{Apart}
use Rattle.accuracy.proofs.Laws.Apart.{close-apart}
use Rattle.accuracy.proofs.Normal.{roundings}
use Rattle.accuracy.proofs.Laws.Room.{Room}
use Rattle.accuracy.proofs.Accuracy.{accurately}

-- ---- powers of two below one

-- 2 ^ -e
abbrev pub two⁻ : ℕ → ℚ
two⁻ e = frac 1 0 (2 ^ e - 1)

two⁻_pos : (e : ℕ) → Posℚ (two⁻ e)
unfolding posℚ
two⁻_pos e = refl

two⁻_less : (a b : ℕ) → a ≤ b → two⁻ b ≼ two⁻ a
two⁻_less a b h = frac-≼ 1 (2 ^ b) 1 (2 ^ a) (pow_pos b) (pow_pos a) (let q = pow_mono h in omega arith)

two⁻_mul : (a b : ℕ) → two⁻ a ⋆ two⁻ b ≡ two⁻ (a + b)
two⁻_mul a b = frac_mul 1 1 (2 ^ a) (2 ^ b) (pow_pos a) (pow_pos b) ∙ ap (λ (n : ℕ). frac 1 0 (n - 1)) (sym (pow-add 2 a b))

two⁻-power : (a n : ℕ) → power (two⁻ a) n ≡ two⁻ (a * n)
unfolding power
two⁻-power a zero = ap two⁻ (sym (mul-zero a))
two⁻-power a (suc n) = ap (λ z. z ⋆ two⁻ a) (two⁻-power a n) ∙ two⁻_mul (a * n) a ∙ ap two⁻ (sym (mul-suc a n))

-- 2 ^ a of 2 ^ -b are 2 ^ -c at most, where a + c is b at most
two⁻-many : (a b c : ℕ) → a + c ≤ b → nat (2 ^ a) ⋆ two⁻ b ≼ two⁻ c
two⁻-many a b c h =
    subst (λ z. z ≼ two⁻ c) (frac-nat (2 ^ a) (2 ^ b - 1))
    (frac-≼ (2 ^ a) (2 ^ b) 1 (2 ^ c) (pow_pos b) (pow_pos c) (le_trans (le_of_eq (sym (pow-add 2 a c))) (le_trans (pow_mono h) (le_of_eq (sym (one-mul (2 ^ b)))))))

-- ---- factors from 2 ^ -κ to 2 ^ κ

moderate : (κ : ℕ) (x : Float) → T (positive x) → T (within_powers κ x) → Moderate (two⁻ κ) x
moderate κ nan p h = absurd p
moderate κ (inf s) p h = absurd p
moderate κ (fin true m e) p h = absurd p
moderate κ (fin false m e) p h = record {
  passed = p;
  least = subst (λ z. two⁻ κ ≼ z) (sym (value-signed false m e))
      (frac-≼ 1 (2 ^ κ) (m * up e) (down e) (pow_pos κ) (down_pos e) (le_trans (le_of_eq (one-mul (down e))) low));
  most = subst (λ z. two⁻ κ ≼ z) (sym (ap invℚ (value-signed false m e) ∙ inv_frac (m * up e) (down e) N (down_pos e)))
      (frac-≼ 1 (2 ^ κ) (down e) (m * up e) (pow_pos κ) N (le_trans (le_of_eq (one-mul (m * up e))) high));
}
  where
    N : 0 < m * up e
    N = mul-pos (ltb→lt 0 m p) (up_pos e)

    low : down e ≤ m * up e * 2 ^ κ
    low = leb→le (down e) (m * up e * 2 ^ κ) (and_l (leb (down e) (m * up e * 2 ^ κ)) (leb (m * up e) (down e * 2 ^ κ)) h)

    high : m * up e ≤ down e * 2 ^ κ
    high = leb→le (m * up e) (down e * 2 ^ κ) (and_r (leb (down e) (m * up e * 2 ^ κ)) (leb (m * up e) (down e * 2 ^ κ)) h)

moderate-all : (κ : ℕ) (J : Job Float) (es : List (Edge Float)) → All (Kept (λ x. T (positive x)) J) es → All (λ e. T (within_powers κ e.factor)) es
    → EdgesModerate (two⁻ κ) es
moderate-all κ J [] k h = tt
moderate-all κ J (e ∷ es) k h = (moderate κ e.factor k.0.passed h.0, moderate-all κ J es k.1 h.1)

-- ---- how many near edges a vertex has

no_edge : (J : Job Float) (es : List (Edge Float)) → All (Kept (λ x. T (positive x)) J) es → (t d : ℕ) → J.last < t → back_edge es t d ≡ none
unfolding back_edge
no_edge J [] k t d h = refl
no_edge J (e ∷ es) k t d h = let z = k.0.inside in rw (ne_eqb e.late t (λ q. omega arith)) (no_edge J es k.1 t d h)

no_edges : (J : Job Float) → All (Kept (λ x. T (positive x)) J) J.edges → (t d n : ℕ) → J.last < t → length (back_edges J.edges t d n) ≡ 0
unfolding back_edges prepend
no_edges J k t d zero h = refl
no_edges J k t d (suc n) h = rw (no_edge J J.edges k t d h) (no_edges J k t (suc d) n h)

-- Past the last vertex there are none.
everywhere : (J : Job Float) → Checked (λ x. T (positive x)) J → (p : ℕ) → ((t : ℕ) → t ≤ J.last → length (step_of J t).others ≤ p)
    → (t : ℕ) → length (step_of J t).others ≤ p
everywhere J ok p h t = go (dec_lt t (suc J.last))
  where
    go : Dec (t < suc J.last) → length (back_edges J.edges t 1 (J.window - 1)) ≤ p
    go (yes l) = h t (omega arith)
    go (no l) = let e = no_edges J ok.edges t 1 (J.window - 1) (omega arith) in omega arith

-- A job with no vertex of too many near edges has at most four a vertex.
pub four : (J : Job Float) → too_many_near (suc J.last) J.window J.edges ≡ false → (t : ℕ) → t ≤ J.last → length (step_of J t).others ≤ 4
unfolding too_many_near
four J h t l =
    ltb-false 4 (length (back_edges J.edges t 1 (J.window - 1)))
    (none-at (λ t. ltb 4 (length (back_edges J.edges t 1 (J.window - 1)))) (suc J.last) t (omega arith) h)

-- ---- the bound as a double

-- Fewer than 2 ^ 53 units are a double.
pub units-value : (m : ℕ) → m < 2 ^ 53 → value (units m) ≡ nat m ⋆ ε
unfolding ε units
units-value m h =
    value-plus (round binary64 false m (2 ^ 53)) m (2 ^ 53)
    (round_exact binary64 false m (2 ^ 53) m 1021 (pow_pos 53) h (far m (2 ^ 53) (2 ^ 1021) (2 ^ 2098) (pow_pos 1021) (lit≤ tt) h)
    (sym (mul_assoc m (2 ^ 1021) (2 ^ 53)))) (pow_pos 53)
    ∙ frac-nat m (2 ^ 53 - 1)
  where
    far : (m p q r : ℕ) → 0 < q → p * q ≤ r → m < p → m * q < r
    far m p q r Q h l = lt_of_lt_of_le (mul-lt-mul_of_pos_right l Q) h

-- ---- from the condition to the room that the sweeps need

module _ (κ p w : ℕ) (β_nn : NonNeg (two⁻ κ)) (β-one : two⁻ κ ≼ oneℚ) (h : depth κ p w ≤ 1022) where
  one-vertex : θ (two⁻ κ) p ≡ two⁻ (κ * (p + 1))
  one-vertex = ap (λ z. two⁻ κ ⋆ z) (two⁻-power κ p) ∙ two⁻_mul κ (κ * p) ∙ ap two⁻ (omega arith)

  has_room : Room (two⁻ κ) p w
  unfolding ε smallest
  has_room =
      subst₂ (λ t m. nat m ⋆ two⁻ 1022 ≼ two⁻ 53 ⋆ (power t 8 ⋆ power (t ⋆ t) w)) (sym one-vertex) (pow-add 2 w 4)
      (subst (λ z. nat (2 ^ (w + 4)) ⋆ two⁻ 1022 ≼ z) (sym (room (κ * (p + 1))))
      (two⁻-many (w + 4) 1022 _ enough))
    where
      room : (a : ℕ) → two⁻ 53 ⋆ (power (two⁻ a) 8 ⋆ power (two⁻ a ⋆ two⁻ a) w) ≡ two⁻ (53 + (a * 8 + (a + a) * w))
      room a =
          ap (λ z. two⁻ 53 ⋆ z) (ap₂ mulℚ (two⁻-power a 8) (ap (λ z. power z w) (two⁻_mul a a) ∙ two⁻-power (a + a) w) ∙ two⁻_mul (a * 8) ((a + a) * w))
          ∙ two⁻_mul 53 (a * 8 + (a + a) * w)

      enough : w + 4 + (53 + (κ * (p + 1) * 8 + (κ * (p + 1) + κ * (p + 1)) * w)) ≤ 1022
      enough = omega arith

-- ---- the theorem

-- Of a job that passes the checks, of at most 1,024 vertices in a window of at most 24, with at most p near edges a vertex and factors from 2 ^ -κ
-- to 2 ^ κ, not too deep for its window: each answered correlation is the textbook's but for so many roundings,
pub correlation-close : (J : Job Float) → Checked (λ x. T (positive x)) J → suc J.last ≤ 1024 → J.window ≤ 24
    → (p : ℕ) → p ≤ 4 → ((t : ℕ) → t ≤ J.last → length (step_of J t).others ≤ p)
    → (κ : ℕ) → All (λ e. T (within_powers κ e.factor)) J.edges → depth κ p J.window ≤ 1022
    → (u v : ℕ) → (u ≡ v → ⊥) → u ≤ J.last → v ≤ J.last → T (positive (Z ieee J (max u v)))
    → Close (roundings_of (suc J.last) J.window p) (answer ieee J u v) (textbook rational (at_values J) u v) oneℚ
correlation-close J ok size window p P few κ factors room u v differ inU inV sound =
    let w = J.window in
    let pos = two⁻_pos κ in
    let one : two⁻ κ ≼ oneℚ = two⁻_less 0 κ (omega arith) in
    let wide : 2 ^ w ≤ 2 ^ 24 = pow_mono window in
    let steps : suc J.last * (p + 5) ≤ 1024 * 9 = let q : p + 5 ≤ 9 = omega arith in mul-le-mul size q in
    let short : roundings J (p + 5) ≤ 2 ^ 26 = fits (suc J.last * (p + 5)) (2 ^ w) (2 ^ 24) (2 ^ 26) steps wide (lit≤ tt) in
    subst (λ (k : ℕ). Close k (answer ieee J u v) (textbook rational (at_values J) u v) oneℚ) (count J.last w p)
    (accurately J ok (two⁻ κ) pos one (moderate-all κ J J.edges ok.edges factors) p (everywhere J ok p few) (has_room κ p w (nn_pos _ pos) one room)
    u v differ inU inV sound short)
  where
    fits : (a x y z : ℕ) → a ≤ 1024 * 9 → x ≤ y → 9218 + y ≤ z → suc (suc a + x) ≤ z
    fits a x y z h b c = omega arith

    count : (l w p : ℕ) → 2 * suc (suc (suc l * (p + 5)) + 2 ^ w) + 1 ≡ roundings_of (suc l) w p
    count l w p = omega arith

-- The roundings are few enough for one unit more to cover them.
pub roundings-few : (n w p : ℕ) → n ≤ 1024 → w ≤ 24 → p ≤ 4 → roundings_of n w p ≤ 33572869
roundings-few n w p a b c =
    let q : 2 * (p + 5) ≤ 18 = omega arith in
    let x : 2 * (p + 5) * n ≤ 18 * 1024 = mul-le-mul q a in
    let y : 2 ^ w ≤ 2 ^ 24 = pow_mono b in
    omega arith

-- What so many roundings do to a number of size at most one is within the bound.
pub bounded : (n w p : ℕ) → n ≤ 1024 → w ≤ 24 → p ≤ 4 → {x : Float} {e : ℚ} → Close (roundings_of n w p) x e oneℚ → Apart (value x) e (value (error_bound n w p))
bounded n w p a b c {x} {e} close =
    let k = roundings_of n w p in
    let l = roundings-few n w p a b c in
    let one_more : units (k + 1) ≡ error_bound n w p = ap units (omega arith) in
    let small : k + 1 < 2 ^ 53 = le_trans (wide k l) (lit≤ tt) in
    subst (λ z. Apart (value x) e z) (sym (units-value (k + 1) small) ∙ ap value one_more) (close-apart k x e (le_trans l (lit≤ tt)) close)
  where
    wide : (k : ℕ) → k ≤ 33572869 → suc (k + 1) ≤ 33572871
    wide k h = omega arith

-- So each answered correlation differs from the textbook's by no more than the bound.
pub error-bound : (J : Job Float) → Checked (λ x. T (positive x)) J → suc J.last ≤ 1024 → J.window ≤ 24
    → (p : ℕ) → p ≤ 4 → ((t : ℕ) → t ≤ J.last → length (step_of J t).others ≤ p)
    → (κ : ℕ) → All (λ e. T (within_powers κ e.factor)) J.edges → depth κ p J.window ≤ 1022
    → (u v : ℕ) → (u ≡ v → ⊥) → u ≤ J.last → v ≤ J.last → T (positive (Z ieee J (max u v)))
    → Apart (value (answer ieee J u v)) (textbook rational (at_values J) u v) (value (error_bound (suc J.last) J.window p))
error-bound J ok size window p P few κ factors room u v differ inU inV sound =
    bounded (suc J.last) J.window p size window P (correlation-close J ok size window p P few κ factors room u v differ inU inV sound)
