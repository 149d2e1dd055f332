-- The tables of a step, rounded and exact: they are close where no factor is so far from one that a product of them leaves the normal range.
use Rattle.std.specs.Prelude.{◌≡◌, Bool, cond}
use Rattle.std.proofs.Math.Path.{refl, subst}
use Rattle.std.proofs.Common.{sym, ◌∙◌, ap, add-zero}
use Rattle.std.proofs.Math.Bool.{true, false}
use mathlib.Core.List.{List, [], ◌∷◌, map}
use Rattle.std.proofs.Math.Option.{Option, none, some}
use Prim.Native.Nat.{ℕ, suc, ◌+◌, ◌-◌, ◌/◌, ◌^◌}
use native.Mathlib.Omega.{arith}
use Rattle.std.proofs.Math.Dec.{T}
use Rattle.std.proofs.Math.ListN.{length, length-map}
use Rattle.std.specs.Float.Ieee.{Float, binary64, mul, div}
use Rattle.std.specs.Float.Ieee.Scale.{finite}
use Rattle.rounding.proofs.Laws.Sign.{mul_finite, div_finite}
use Rattle.rounding.specs.Under.{unit}
use Rattle.fraction.proofs.Fraction.{ℚ, oneℚ, invℚ}
use Rattle.fraction.proofs.Value.{value}
use Rattle.list_laws.specs.Bits.{bit}
use Rattle.transfer_matrix.specs.Job.{Back}
use Rattle.transfer_matrix.specs.Rounded.{ieee}
use Rattle.transfer_matrix.specs.Sweep.{product, up, down, ep, em}
use Rattle.exactness.specs.Exact.{rational}
use Rattle.accuracy.specs.Ring.{NonNeg}
use Rattle.accuracy.proofs.Laws.Ring.{◌⋆◌, ◌≼◌, ≼_refl, ≼-of, ≼_trans, ≼-times, ≼_mul, ≼_nn, nn_mul, sorted, *-one, one-*, nn_one, +-*}
use Rattle.accuracy.proofs.Laws.Within.{within_nonneg}
use Rattle.accuracy.specs.Laws.Rounds.{smallest}
use Rattle.accuracy.proofs.Close.{Close}
use Rattle.accuracy.proofs.Laws.Close.{close-exact, close_mono, close_mul, close_div}
use Rattle.accuracy.proofs.Laws.AtValues.{back_at_value, maybe_value}
use Rattle.accuracy.proofs.Laws.Powers.{power, power_nn, power-one}
use Rattle.accuracy.proofs.Laws.Factors.{ModerateMaybe, AllModerate}

pub value-unit : value unit ≡ oneℚ
unfolding value
value-unit = refl

module _ (β : ℚ) (β_nn : NonNeg β) (β-one : β ≼ oneℚ) where
  -- What is no more than p e is no more than e, where p is at most one.
  pub shrink : {x p e : ℚ} → NonNeg e → p ≼ oneℚ → x ≼ p ⋆ e → x ≼ e
  shrink {x} {p} {e} n h l = ≼_trans l (record {
    rest = h.rest ⋆ e;
    is = sym (one-* e) ∙ ap (λ z. z ⋆ e) h.is ∙ +-* p h.rest e;
    nonneg = nn_mul _ _ h.nonneg n;
  })

  -- One factor more.
  step-up : (n : ℕ) (x e c : ℚ) → NonNeg e → β ≼ c → x ≼ power β (suc n) ⋆ e → x ≼ power β n ⋆ (e ⋆ c)
  unfolding power
  step-up n x e c E l h =
      ≼_trans h (subst (λ z. z ≼ power β n ⋆ (e ⋆ c)) (sym (order (power β n) β e)) (≼-times (power β n) (power_nn β β_nn β-one n) (≼-times e E l)))
    where
      order : (p c e : ℚ) → (p ⋆ c) ⋆ e ≡ p ⋆ (e ⋆ c)
      order p c e = simp sorted

  product-finite : (bs : List (Back Float)) (m : ℕ) (x : Float) → T (finite (product ieee bs m x)) → T (finite x)
  unfolding product
  product-finite [] m x h = h
  product-finite (b ∷ bs) m x h = go (bit 0 m) (product-finite bs (m / 2) _ h)
    where
      go : (c : Bool) → T (finite (cond c (div binary64 x b.factor) (mul binary64 x b.factor))) → T (finite x)
      go true k = div_finite binary64 x b.factor k
      go false k = (mul_finite binary64 x b.factor k).0

  -- x is close to e, which is low or more and not below zero.
  pub record Table (k : ℕ) (x : Float) (e low : ℚ) : Type 0 where
    pub close : Close k x e e
    pub least : low ≼ e
    pub nonneg : NonNeg e

  product-close : (bs : List (Back Float)) → AllModerate β bs → (k m : ℕ) (x : Float) (e : ℚ) → T (finite (product ieee bs m x)) → Close k x e e → NonNeg e
      → smallest ≼ power β (length bs) ⋆ e
      → Table (k + length bs) (product ieee bs m x) (product rational (map back_at_value bs) m e) (power β (length bs) ⋆ e)
  unfolding product power
  product-close [] moderate k m x e h c n l = record {
    close = subst (λ (i : ℕ). Close i x e e) (sym (add-zero k)) c;
    least = ≼-of _ _ (one-* e);
    nonneg = n;
  }
  product-close (b ∷ bs) moderate k m x e h c n l = go (bit 0 m) h (product-close bs moderate.1 (suc k) (m / 2))
    where
      y : Float
      y = b.factor

      v : ℚ
      v = value y

      after : Float → ℚ → Type 0
      after z f = Table (k + length (b ∷ bs)) (product ieee bs (m / 2) z) (product rational (map back_at_value bs) (m / 2) (e ⋆ f)) (power β (length (b ∷ bs)) ⋆ e)

      Rest : Type 0
      Rest = (z : Float) (e : ℚ) → T (finite (product ieee bs (m / 2) z)) → Close (suc k) z e e → NonNeg e → smallest ≼ power β (length bs) ⋆ e
          → Table (suc k + length bs) (product ieee bs (m / 2) z) (product rational (map back_at_value bs) (m / 2) e) (power β (length bs) ⋆ e)

      next : Rest → (z : Float) (f : ℚ) → β ≼ f → NonNeg f → T (finite (product ieee bs (m / 2) z)) → (smallest ≼ e ⋆ f → Close (suc k) z (e ⋆ f) (e ⋆ f))
          → after z f
      next ih z f g F h c =
          let n' = nn_mul e f n F in
          let l' = step-up (length bs) smallest e f n g l in
          let r = ih z (e ⋆ f) h (c (shrink n' (power-one β β_nn β-one (length bs)) l')) n' l' in
          let i : suc k + length bs ≡ k + length (b ∷ bs) = omega arith in
          record {
            close = subst (λ (i : ℕ). Close i (product ieee bs (m / 2) z) (product rational (map back_at_value bs) (m / 2) (e ⋆ f))
                (product rational (map back_at_value bs) (m / 2) (e ⋆ f))) i r.close;
            least = ≼_trans (step-up (length bs) (power β (length (b ∷ bs)) ⋆ e) e f n g (≼_refl _)) r.least;
            nonneg = r.nonneg;
          }

      go : (s : Bool) → T (finite (product ieee bs (m / 2) (cond s (div binary64 x y) (mul binary64 x y)))) → Rest
          → Table (k + length (b ∷ bs)) (product ieee bs (m / 2) (cond s (div binary64 x y) (mul binary64 x y)))
          (product rational (map back_at_value bs) (m / 2) (cond s (e ⋆ invℚ v) (e ⋆ v))) (power β (length (b ∷ bs)) ⋆ e)
      go true h ih =
          next ih (div binary64 x y) (invℚ v) moderate.0.most (≼_nn β_nn moderate.0.most) h
          (λ s. close_div y (e ⋆ invℚ v) moderate.0.passed (product-finite bs (m / 2) _ h) c (≼_refl _) s)
      go false h ih =
          next ih (mul binary64 x y) v moderate.0.least (≼_nn β_nn moderate.0.least) h
          (λ s. subst (λ (i : ℕ). Close (suc i) (mul binary64 x y) (e ⋆ v) (e ⋆ v)) (add-zero k)
          (close_mul (e ⋆ v) (product-finite bs (m / 2) _ h) c (close-exact y v v refl (within_nonneg v (≼_nn β_nn moderate.0.least))) (≼_refl _) s))

  unit-close : Close 0 unit oneℚ oneℚ
  unit-close = close-exact unit oneℚ oneℚ value-unit (within_nonneg oneℚ nn_one)

  -- The factor of the left edge, and one over it.
  pub ep_table : (o : Option Float) → ModerateMaybe β o → Table 1 (ep ieee o) (ep rational (maybe_value o)) β
  unfolding ep
  ep_table none h = record { close = close_mono 1 (omega arith) unit-close; least = β-one; nonneg = nn_one }
  ep_table (some x) h =
      let n = ≼_nn β_nn h.least in
      record { close = close_mono 1 (omega arith) (close-exact x (value x) (value x) refl (within_nonneg (value x) n)); least = h.least; nonneg = n }

  pub em_table : smallest ≼ β → (o : Option Float) → ModerateMaybe β o → T (finite (em ieee o)) → Table 1 (em ieee o) (em rational (maybe_value o)) β
  unfolding em
  em_table l none h f = record { close = close_mono 1 (omega arith) unit-close; least = β-one; nonneg = nn_one }
  em_table l (some x) h f =
      let i = invℚ (value x) in
      let g : β ≼ oneℚ ⋆ i = subst (λ z. β ≼ z) (sym (one-* i)) h.most in
      record { close = close_div x (oneℚ ⋆ i) h.passed f unit-close (≼_refl _) (≼_trans l g); least = g; nonneg = ≼_nn β_nn g }

  module _ (bs : List (Back Float)) (moderate : AllModerate β bs) (sc : Float) (c : ℚ) (is : value sc ≡ c) (c-nn : NonNeg c)
      (l : smallest ≼ power β (length bs)) (g : smallest ≼ power β (length bs) ⋆ c) where
    -- The spin-up and the spin-down table of a step: one rounding for each near edge, and one for the scale.
    pub up_table : (m : ℕ) → T (finite (up ieee bs sc m))
        → Table (suc (length bs)) (up ieee bs sc m) (up rational (map back_at_value bs) c m) (power β (length bs) ⋆ c)
    unfolding up
    up_table m h =
        let f = (mul_finite binary64 (product ieee bs m unit) sc h).0 in
        let p = product-close bs moderate 0 m unit oneℚ f unit-close nn_one (subst (λ z. smallest ≼ z) (sym (*-one (power β (length bs)))) l) in
        let P = product rational (map back_at_value bs) m oneℚ in
        let q : power β (length bs) ≼ P = subst (λ z. z ≼ P) (*-one (power β (length bs))) p.least in
        let r : power β (length bs) ⋆ c ≼ P ⋆ c = ≼_mul (power_nn β β_nn β-one (length bs)) c-nn q (≼_refl c) in
        let i : suc (0 + length bs + 0) ≡ suc (length bs) = omega arith in
        record {
          close = subst (λ (k : ℕ). Close k (mul binary64 (product ieee bs m unit) sc) (P ⋆ c) (P ⋆ c)) i
              (close_mul (P ⋆ c) h p.close (close-exact sc c c is (within_nonneg c c-nn)) (≼_refl _) (≼_trans g r));
          least = r;
          nonneg = nn_mul _ _ p.nonneg c-nn;
        }

    pub down_table : (m : ℕ) → T (finite (down ieee bs sc m))
        → Table (suc (length bs)) (down ieee bs sc m) (down rational (map back_at_value bs) c m) (power β (length bs) ⋆ c)
    unfolding down
    down_table m h =
        let t = up_table (2 ^ length bs - 1 - m) h in
        let e : length (map back_at_value bs) ≡ length bs = length-map bs back_at_value in
        subst (λ (n : ℕ). Table (suc (length bs)) (up ieee bs sc (2 ^ length bs - 1 - m)) (up rational (map back_at_value bs) c (2 ^ n - 1 - m))
        (power β (length bs) ⋆ c)) (sym e) t
