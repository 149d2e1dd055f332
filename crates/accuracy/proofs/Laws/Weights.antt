-- The exact entries of a step: each is the sum of two entries before it, times the scale and weights from θ to one over θ.
use Rattle.std.specs.Prelude.{◌≡◌, refl, Bool, true, false, cond, ltb, Float}
use Rattle.std.proofs.Math.Path.{sym, ap, subst}
use Rattle.std.proofs.Common.{◌∙◌, ap₂}
use mathlib.Core.List.{List, [], ◌∷◌, map}
use Rattle.std.proofs.Math.Option.{Option, none, some}
use Prim.Native.Nat.{ℕ, ◌+◌, ◌*◌, ◌-◌, ◌/◌, ◌%◌, ◌^◌, ◌≤◌}
use Rattle.std.proofs.Math.ListN.{length}
use Rattle.fraction.proofs.Fraction.{ℚ, oneℚ, invℚ}
use Rattle.fraction.proofs.Laws.Fraction.{mul_inv_pos}
use Rattle.fraction.proofs.Value.{value}
use Rattle.fraction.proofs.Laws.Value.{value_pos}
use Rattle.list_laws.specs.Bits.{bit}
use Rattle.transfer_matrix.specs.Job.{Back, Step}
use Rattle.transfer_matrix.specs.Sweep.{pattern, product, up, down, ep, em, forward_at, backward_at}
use Rattle.exactness.specs.Exact.{rational}
use Rattle.accuracy.specs.Ring.{NonNeg}
use Rattle.accuracy.proofs.Laws.Ring.{◌⊹◌, ◌⋆◌, ◌≼◌, ≼_refl, ≼-of, ≼_trans, ≼_mul, ≼_nn, sorted, spread, *-one, one-*, *_comm}
use Rattle.accuracy.proofs.Laws.AtValues.{back_at_value, maybe_value, step_at_value}
use Rattle.accuracy.proofs.Laws.Powers.{power_less, θ, power, power_nn}
use Rattle.accuracy.proofs.Laws.Factors.{Moderate, ModerateMaybe, AllModerate, ModerateStep}
use Rattle.accuracy.proofs.Laws.Mix.{Weight, weight_mul, weight_less, Mix}

-- A moderate factor is a weight, and so is one over it.
pub moderate-weight : {β : ℚ} {x : Float} → NonNeg β → Moderate β x → Weight β (value x) × Weight β (invℚ (value x))
moderate-weight {β} {x} B h =
    let v = value x in
    let one = mul_inv_pos v (value_pos x h.passed) in
    let nv = ≼_nn B h.least in
    let ni = ≼_nn B h.most in (
      record { least = h.least; most = ≼_trans (≼_mul B nv h.most (≼_refl v)) (≼-of _ _ (*_comm (invℚ v) v ∙ one)) },
      record { least = h.most; most = ≼_trans (≼_mul B ni h.least (≼_refl (invℚ v))) (≼-of _ _ one) },
    )

module _ (β : ℚ) (β_nn : NonNeg β) (β-one : β ≼ oneℚ) where
  pub weight-one : Weight β oneℚ
  weight-one = record { least = β-one; most = ≼_trans (≼-of _ _ (*-one β)) β-one }

  ep-weight : (o : Option Float) → ModerateMaybe β o → Weight β (ep rational (maybe_value o))
  unfolding ep
  ep-weight none h = weight-one
  ep-weight (some x) h = (moderate-weight β_nn h).0

  em-weight : (o : Option Float) → ModerateMaybe β o → Weight β (em rational (maybe_value o))
  unfolding em
  em-weight none h = weight-one
  em-weight (some x) h = subst (Weight β) (sym (one-* (invℚ (value x)))) (moderate-weight β_nn h).1

  -- A product over the near edges is the first factor times a weight.
  record Product (n : ℕ) (e z : ℚ) : Type 0 where
    factor : ℚ
    is : z ≡ e ⋆ factor
    weight : Weight (power β n) factor

  product-weight : (bs : List (Back Float)) → AllModerate β bs → (m : ℕ) (e : ℚ) → Product (length bs) e (product rational (map back_at_value bs) m e)
  unfolding product power
  product-weight [] moderate m e = record { factor = oneℚ; is = sym (*-one e); weight = record { least = ≼_refl oneℚ; most = ≼-of _ _ (*-one oneℚ) } }
  product-weight (b ∷ bs) moderate m e = go (bit 0 m) (product-weight bs moderate.1 (m / 2))
    where
      w : Weight β (value b.factor) × Weight β (invℚ (value b.factor))
      w = moderate-weight β_nn moderate.0

      next : (f : ℚ) → Weight β f → Product (length bs) (e ⋆ f) (product rational (map back_at_value bs) (m / 2) (e ⋆ f))
          → Product (length (b ∷ bs)) e (product rational (map back_at_value bs) (m / 2) (e ⋆ f))
      next f h p = record { factor = p.factor ⋆ f; is = p.is ∙ ring e f p.factor; weight = weight_mul (power_nn β β_nn β-one (length bs)) β_nn p.weight h }
        where
          ring : (e f g : ℚ) → (e ⋆ f) ⋆ g ≡ e ⋆ (g ⋆ f)
          ring e f g = simp sorted

      go : (s : Bool) → ((e : ℚ) → Product (length bs) e (product rational (map back_at_value bs) (m / 2) e))
          → Product (length (b ∷ bs)) e (product rational (map back_at_value bs) (m / 2) (cond s (e ⋆ invℚ (value b.factor)) (e ⋆ value b.factor)))
      go true ih = next (invℚ (value b.factor)) w.1 (ih _)
      go false ih = next (value b.factor) w.0 (ih _)

  module _ (p : ℕ) where
    module _ (s : Step Float) (moderate : ModerateStep β s) (few : length s.others ≤ p) (c : ℚ) where
      up-weight : (m : ℕ) → (P : ℚ) × ((up rational (map back_at_value s.others) c m ≡ P ⋆ c) × Weight (power β p) P)
      unfolding up
      up-weight m =
          let q = product-weight s.others moderate.others m oneℚ in (
            q.factor,
            (
              ap (λ z. z ⋆ c) (q.is ∙ one-* q.factor),
              weight_less (power_nn β β_nn β-one p) (power_nn β β_nn β-one (length s.others)) (power_less β β_nn β-one p (length s.others) few) q.weight,
            ),
          )

      down-weight : (m : ℕ) → (P : ℚ) × ((down rational (map back_at_value s.others) c m ≡ P ⋆ c) × Weight (power β p) P)
      unfolding down
      down-weight m = up-weight (2 ^ length (map back_at_value s.others) - 1 - m)

      ahead-mix : (a b z t A B : ℚ) → Weight β a → Weight β b → ((P : ℚ) × ((t ≡ P ⋆ c) × Weight (power β p) P)) → z ≡ (a ⋆ A ⊹ b ⋆ B) ⋆ t → Mix (θ β p) c A B z
      ahead-mix a b z t A B ha hb (P, (e, h)) q = record {
        x = a ⋆ P;
        y = b ⋆ P;
        is = q ∙ ap (λ w. (a ⋆ A ⊹ b ⋆ B) ⋆ w) e ∙ ring a b A B P c;
        x-weight = weight_mul β_nn (power_nn β β_nn β-one p) ha h;
        y-weight = weight_mul β_nn (power_nn β β_nn β-one p) hb h;
      }
        where
          ring : (a b A B P c : ℚ) → (a ⋆ A ⊹ b ⋆ B) ⋆ (P ⋆ c) ≡ (a ⋆ P) ⋆ (c ⋆ A) ⊹ (b ⋆ P) ⋆ (c ⋆ B)
          ring a b A B P c = simp (spread, sorted)

      back-mix : (a b z t u A B : ℚ) → Weight β a → Weight β b → ((P : ℚ) × ((t ≡ P ⋆ c) × Weight (power β p) P)) → ((P : ℚ) × ((u ≡ P ⋆ c) × Weight (power β p) P))
          → z ≡ a ⋆ (A ⋆ t) ⊹ b ⋆ (B ⋆ u) → Mix (θ β p) c A B z
      back-mix a b z t u A B ha hb (P, (e, h)) (R, (f, k)) q = record {
        x = a ⋆ P;
        y = b ⋆ R;
        is = q ∙ ap₂ (λ w v. a ⋆ (A ⋆ w) ⊹ b ⋆ (B ⋆ v)) e f ∙ ring a b A B P R c;
        x-weight = weight_mul β_nn (power_nn β β_nn β-one p) ha h;
        y-weight = weight_mul β_nn (power_nn β β_nn β-one p) hb k;
      }
        where
          ring : (a b A B P R c : ℚ) → a ⋆ (A ⋆ (P ⋆ c)) ⊹ b ⋆ (B ⋆ (R ⋆ c)) ≡ (a ⋆ P) ⋆ (c ⋆ A) ⊹ (b ⋆ R) ⋆ (c ⋆ B)
          ring a b A B P R c = simp sorted

      plus : Weight β (ep rational (maybe_value s.left))
      plus = ep-weight s.left moderate.left

      minus : Weight β (em rational (maybe_value s.left))
      minus = em-weight s.left moderate.left

      -- An entry of a forward step is made of two entries before it,
      pub forward-mix : (w : ℕ) (M : ℕ → ℚ) (j : ℕ) → Mix (θ β p) c (M (j / 2)) (M (2 ^ (w - 1) + j / 2)) (forward_at rational w (step_at_value s) c M j)
      unfolding forward_at
      forward-mix w M j = go (bit 0 j)
        where
          A : ℚ
          A = M (j / 2)

          B : ℚ
          B = M (2 ^ (w - 1) + j / 2)

          m : ℕ
          m = pattern (map back_at_value s.others) (j / 2)

          E : ℚ
          E = ep rational (maybe_value s.left)

          I : ℚ
          I = em rational (maybe_value s.left)

          go : (b : Bool)
              → Mix (θ β p) c A B (cond b ((I ⋆ A ⊹ E ⋆ B) ⋆ down rational (map back_at_value s.others) c m)
              ((E ⋆ A ⊹ I ⋆ B) ⋆ up rational (map back_at_value s.others) c m))
          go true = ahead-mix I E _ _ A B minus plus (down-weight m) refl
          go false = ahead-mix E I _ _ A B plus minus (up-weight m) refl

      -- and so is an entry of a backward step.
      pub backward-mix : (w : ℕ) (M : ℕ → ℚ) (j : ℕ)
          → Mix (θ β p) c (M (2 * (j % 2 ^ (w - 1)))) (M (2 * (j % 2 ^ (w - 1)) + 1)) (backward_at rational w (step_at_value s) c M j)
      unfolding backward_at
      backward-mix w M j = go (ltb j (2 ^ (w - 1)))
        where
          k : ℕ
          k = j % 2 ^ (w - 1)

          A : ℚ
          A = M (2 * k)

          B : ℚ
          B = M (2 * k + 1)

          m : ℕ
          m = pattern (map back_at_value s.others) k

          x : ℚ
          x = A ⋆ up rational (map back_at_value s.others) c m

          y : ℚ
          y = B ⋆ down rational (map back_at_value s.others) c m

          E : ℚ
          E = ep rational (maybe_value s.left)

          I : ℚ
          I = em rational (maybe_value s.left)

          go : (b : Bool) → Mix (θ β p) c A B (cond b (E ⋆ x ⊹ I ⋆ y) (I ⋆ x ⊹ E ⋆ y))
          go true = back-mix E I _ _ _ A B plus minus (up-weight m) (down-weight m) refl
          go false = back-mix I E _ _ _ A B minus plus (up-weight m) (down-weight m) refl
