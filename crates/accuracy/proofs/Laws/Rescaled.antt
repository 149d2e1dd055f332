-- The scale that is one over a vector's largest entry: it takes the exact vector's largest entry to between a quarter and four.
use Rattle.std.specs.Prelude.{◌≡◌, refl, ◌⊎◌, false, List, ℕ, ◌<◌, T, length, Float}
use Rattle.std.proofs.Common.{sym, ◌∙◌, ap, ap₂, subst, subst₂, inl, inr, true≢false, arith}
use Rattle.std.specs.Float.{binary64}
use Rattle.std.specs.Float.Ieee.{up, div}
use Rattle.std.specs.Float.Ieee.Positive.{positive}
use Rattle.std.specs.Float.Ieee.Scale.{finite}
use Rattle.rounding.specs.Under.{unit, nought}
use Rattle.fraction.proofs.Fraction.{ℚ, frac, oneℚ, addℚ, mulℚ, invℚ, posℚ, Posℚ, sound}
use Rattle.fraction.proofs.Laws.Fraction.{pos_mul, pos_inv, mul_inv_pos}
use Rattle.fraction.specs.Raw.{bottoms}
use Rattle.fraction.proofs.Value.{value}
use Rattle.transfer_matrix.specs.Rounded.{ieee}
use Rattle.transfer_matrix.specs.Sweep.{at, largest}
use Rattle.accuracy.specs.Ring.{NonNeg, nat}
use Rattle.accuracy.proofs.Laws.Ring.{◌⊹◌, ◌⋆◌, ◌≼◌, ≼_refl, ≼-of, ≼_trans, ≼_add, ≼-times, ≼_mul, ≼_pos, nn_add, nn_mul, nn_frac}
use Rattle.accuracy.proofs.Laws.Ring.{add_take, nn_pos, sorted, spread, *-one, one-*, *_comm, *-+, +-*, +_comm, *-left}
use Rattle.accuracy.proofs.Within.{Within}
use Rattle.accuracy.proofs.Laws.Within.{within-≼, within_neg, within_nonneg}
use Rattle.accuracy.proofs.Laws.Rounds.{smallest_nn}
use Rattle.accuracy.specs.Laws.Rounds.{smallest}
use Rattle.accuracy.proofs.Laws.Operations.{div_rounds}
use Rattle.accuracy.proofs.Close.{Close, gain}
use Rattle.accuracy.proofs.Laws.Close.{gain_nn}
use Rattle.accuracy.proofs.Laws.Tables.{value-unit}
use Rattle.accuracy.proofs.Laws.Sizes.{same}
use Rattle.accuracy.proofs.Laws.Roundings.{gain-one, twice-ε}
use Rattle.accuracy.proofs.Laws.Largest.{Entry, Top, positive_of, largest-top}

h : ℚ
h = frac 1 0 1

h_nn : NonNeg h
unfolding h
h_nn = nn_frac 1 1

h_pos : Posℚ h
unfolding h posℚ
h_pos = refl

halves : h ⊹ h ≡ oneℚ
unfolding h addℚ bottoms
halves = sound refl

h-twice : (x : ℚ) → h ⋆ (x ⊹ x) ≡ x
h-twice x = *-+ h x x ∙ sym (+-* h h x) ∙ ap (λ z. z ⋆ x) halves ∙ one-* x

half_of : {x y : ℚ} → x ≼ y ⊹ y → h ⋆ x ≼ y
half_of {x} {y} l = subst (λ z. h ⋆ x ≼ z) (h-twice y) (≼-times h h_nn l)

add_cancel : (a b c : ℚ) → a ⊹ c ≼ b ⊹ c → a ≼ b
add_cancel a b c l = record { rest = l.rest; is = same c b (a ⊹ l.rest) (+_comm c b ∙ l.is ∙ ring a c l.rest); nonneg = l.nonneg }
  where
    ring : (a c r : ℚ) → (a ⊹ c) ⊹ r ≡ c ⊹ (a ⊹ r)
    ring a c r = simp sorted

halved : (x : ℚ) → h ⋆ x ⊹ h ⋆ x ≡ x
halved x = sym (+-* h h x) ∙ ap (λ z. z ⋆ x) halves ∙ one-* x

module _ {k : ℕ} {x : Float} {m : ℚ} (g : gain k ⊹ gain k ≼ oneℚ) (c : Close k x m m) (m-nn : NonNeg m) where
  slight : gain k ⋆ m ≼ h ⋆ m
  slight = ≼_mul (gain_nn k) m-nn (subst₂ ◌≼◌ (h-twice (gain k)) (*-one h) (≼-times h h_nn g)) (≼_refl m)

  near-low : h ⋆ m ≼ value x
  near-low =
      let l = within-≼ (within_neg c.small) in
      add_cancel (h ⋆ m) (value x) (h ⋆ m)
      (≼_trans (subst (λ z. z ≼ value x ⊹ gain k ⋆ m) (sym (halved m))
      (record { rest = l.rest; is = ap₂ addℚ c.is l.is ∙ add_take m c.error l.rest; nonneg = l.nonneg }))
      (≼_add (≼_refl (value x)) slight))

  near-high : value x ≼ m ⊹ m
  near-high =
      subst (λ z. z ≼ m ⊹ m) (sym c.is)
      (≼_add (≼_refl m) (≼_trans (within-≼ c.small) (≼_trans slight (record { rest = h ⋆ m; is = sym (halved m); nonneg = nn_mul _ _ h_nn m-nn }))))

nought_not : posℚ (value nought) ≡ false
unfolding value posℚ
nought_not = refl

four : nat 4 ⋆ (h ⋆ h) ≡ oneℚ
unfolding h mulℚ bottoms
four = sound refl

fours : (oneℚ ⊹ oneℚ) ⊹ (oneℚ ⊹ oneℚ) ≡ nat 4
unfolding addℚ bottoms
fours = sound refl

-- The scale c is above zero, one scaled entry a quarter or more, and none above four.
pub record Rescaled (n : ℕ) (c : ℚ) (M : ℕ → ℚ) : Type 0 where
  pub positive : Posℚ c
  pub index : ℕ
  pub inside : index < n
  pub least : oneℚ ≼ nat 4 ⋆ (c ⋆ M index)
  pub most : (j : ℕ) → j < n → c ⋆ M j ≼ nat 4

module _ (n k : ℕ) (g : gain k ⊹ gain k ≼ oneℚ) (v : List Float) (len : length v ≡ n) (good : (j : ℕ) → j < n → Entry (at ieee v j))
    (M : ℕ → ℚ) (M_nn : (j : ℕ) → j < n → NonNeg (M j)) (near : (j : ℕ) → j < n → Close k (at ieee v j) (M j) (M j)) (i : ℕ) (I : i < n) (some : Posℚ (M i)) where
  top : Top nought v (largest ieee nought v)
  top = largest-top v nought (record { is_finite = tt; sign = tt }) (λ j l. good j (omega arith))

  each : (j : ℕ) → j < n → value (at ieee v j) ≼ value (largest ieee nought v)
  each j l = top.each j (omega arith)

  top_pos : Posℚ (value (largest ieee nought v))
  top_pos = ≼_pos (≼_pos (pos_mul h (M i) h_pos some) (near-low g (near i I) (M_nn i I))) (each i I)

  found : (j : ℕ) × ((j < n) × (largest ieee nought v ≡ at ieee v j))
  found = go top.from
    where
      go : ((largest ieee nought v ≡ nought) ⊎ ((j : ℕ) × ((j < length v) × (largest ieee nought v ≡ at ieee v j))))
          → (j : ℕ) × ((j < n) × (largest ieee nought v ≡ at ieee v j))
      go (inl e) = absurd (true≢false (sym top_pos ∙ ap (λ (x : Float). posℚ (value x)) e ∙ nought_not))
      go (inr (j, (l, e))) = (j, (omega arith, e))

  top-entry : Entry (largest ieee nought v)
  top-entry = subst Entry (sym found.1.1) (good found.0 found.1.0)

  -- One over the largest entry is such a scale, where no exact entry is too large for one over it to be normal.
  pub rescaled : T (finite (div binary64 unit (largest ieee nought v))) → ((j : ℕ) → j < n → smallest ⋆ (M j ⊹ M j) ≼ oneℚ)
      → Rescaled n (value (div binary64 unit (largest ieee nought v))) M
  rescaled fine low =
      let j = found.0 in
      let J = found.1.0 in
      let L = largest ieee nought v in
      let l = value L in
      let i = invℚ l in
      let i-nn = nn_pos i (pos_inv l top_pos) in
      let one : i ⋆ l ≡ oneℚ = *_comm i l ∙ mul_inv_pos l top_pos in
      let is : l ≡ value (at ieee v j) = ap value found.1.1 in
      let up : l ≼ M j ⊹ M j = subst (λ z. z ≼ M j ⊹ M j) (sym is) (near-high g (near j J) (M_nn j J)) in
      let normal : smallest ≼ i = raise l i one i-nn (≼_trans (≼-times smallest smallest_nn up) (low j J)) in
      let r = div_rounds unit L (positive_of L top-entry top_pos) fine in
      let e : value unit ⋆ i ≡ i = ap (λ z. z ⋆ i) value-unit ∙ one-* i in
      let w = r.small i (subst (λ z. Within z i) (sym e) (within_nonneg i i-nn)) normal in
      let c : Close 1 (div binary64 unit L) i i = record {
        error = r.error;
        is = r.is ∙ ap (λ z. z ⊹ r.error) e;
        small = subst (Within r.error) (ap (λ z. z ⋆ i) (sym gain-one)) w;
        size = within_nonneg i i-nn;
      } in
      let g₁ : gain 1 ⊹ gain 1 ≼ oneℚ = subst (λ z. z ⊹ z ≼ oneℚ) (sym gain-one) twice-ε in
      let c-low : h ⋆ i ≼ value (div binary64 unit L) = near-low g₁ c i-nn in
      let c-high : value (div binary64 unit L) ≼ i ⊹ i = near-high g₁ c i-nn in
      let c_pos = ≼_pos (pos_mul h i h_pos (pos_inv l top_pos)) c-low in
      record {
        positive = c_pos;
        index = j;
        inside = J;
        least = least l i (M j) (value (div binary64 unit L)) one i-nn (nn_pos l top_pos) (M_nn j J) c-low up;
        most = λ q Q. most l i (M q) (value (div binary64 unit L)) one i-nn (nn_pos _ c_pos) (nn_pos l top_pos) c-high
            (≼_trans (near-low g (near q Q) (M_nn q Q)) (each q Q));
      }
    where
      raise : (l i : ℚ) → i ⋆ l ≡ oneℚ → NonNeg i → smallest ⋆ l ≼ oneℚ → smallest ≼ i
      raise l i one n h = subst₂ ◌≼◌ (*-left i smallest l ∙ ap (λ z. smallest ⋆ z) one ∙ *-one smallest) (*-one i) (≼-times i n h)

      least : (l i m c : ℚ) → i ⋆ l ≡ oneℚ → NonNeg i → NonNeg l → NonNeg m → h ⋆ i ≼ c → l ≼ m ⊹ m → oneℚ ≼ nat 4 ⋆ (c ⋆ m)
      least l i m c one I L N a b =
          let x : (h ⋆ i) ⋆ (h ⋆ l) ≼ c ⋆ m = ≼_mul (nn_mul _ _ h_nn I) N a (half_of b) in
          subst (λ z. z ≼ nat 4 ⋆ (c ⋆ m)) (ap (λ z. nat 4 ⋆ z) (ring h i l ∙ ap (λ z. (h ⋆ h) ⋆ z) one ∙ *-one (h ⋆ h)) ∙ four) (≼-times (nat 4) (nn_frac 4 0) x)
        where
          ring : (a i l : ℚ) → (a ⋆ i) ⋆ (a ⋆ l) ≡ (a ⋆ a) ⋆ (i ⋆ l)
          ring a i l = simp sorted

      most : (l i m c : ℚ) → i ⋆ l ≡ oneℚ → NonNeg i → NonNeg c → NonNeg l → c ≼ i ⊹ i → h ⋆ m ≼ l → c ⋆ m ≼ nat 4
      most l i m c one I C L a b =
          let x : m ≼ l ⊹ l = subst (λ z. z ≼ l ⊹ l) (halved m) (≼_add b b) in
          ≼_trans (≼_mul C (nn_add _ _ L L) a x) (≼-of _ _ (ring i l ∙ ap (λ z. (z ⊹ z) ⊹ (z ⊹ z)) one ∙ fours))
        where
          ring : (i l : ℚ) → (i ⊹ i) ⋆ (l ⊹ l) ≡ (i ⋆ l ⊹ i ⋆ l) ⊹ (i ⋆ l ⊹ i ⋆ l)
          ring i l = simp (spread, sorted)
