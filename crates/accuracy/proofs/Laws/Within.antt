-- Laws of what specs/Within defines.
use Rattle.std.specs.Prelude.{◌≡◌}
use Rattle.std.proofs.Common.{sym, ◌∙◌, ap, subst}
use Rattle.fraction.proofs.Fraction.{ℚ, zeroℚ, negℚ}
use Rattle.accuracy.specs.Ring.{NonNeg}
use Rattle.accuracy.proofs.Laws.Ring.{◌⊹◌, ◌⋆◌, ‐◌, ◌≼◌, sorted, spread, nn_add, nn_mul, nn_zero, +_comm, +_assoc, +_zero, zero_+, neg_zero}
use Rattle.accuracy.proofs.Laws.Ring.{add_take, neg_neg, neg_+}
use Rattle.accuracy.proofs.Within.{Within}

-- A number that is not below zero is within itself, and zero within any such.
pub within_nonneg : (r : ℚ) → NonNeg r → Within r r
within_nonneg r n = record {
  up = r;
  down = zeroℚ;
  slack = zeroℚ;
  is = sym (ap (λ x. r ⊹ x) neg_zero ∙ +_zero r);
  most = sym (+_zero _ ∙ +_zero r);
  up_nn = n;
  down_nn = nn_zero;
  slack_nn = nn_zero;
}

pub within_zero : (r : ℚ) → NonNeg r → Within zeroℚ r
within_zero r n = record {
  up = zeroℚ;
  down = zeroℚ;
  slack = r;
  is = sym (ap (λ x. zeroℚ ⊹ x) neg_zero ∙ +_zero zeroℚ);
  most = sym (ap (λ x. x ⊹ r) (+_zero zeroℚ) ∙ zero_+ r);
  up_nn = nn_zero;
  down_nn = nn_zero;
  slack_nn = n;
}

pub within_neg : {a r : ℚ} → Within a r → Within (‐ a) r
within_neg {a} {r} w = record {
  up = w.down;
  down = w.up;
  slack = w.slack;
  is = ap negℚ w.is ∙ neg_+ w.up (‐ w.down) ∙ ap (λ x. (‐ w.up) ⊹ x) (neg_neg w.down) ∙ +_comm _ _;
  most = w.most ∙ ap (λ x. x ⊹ w.slack) (+_comm w.up w.down);
  up_nn = w.down_nn;
  down_nn = w.up_nn;
  slack_nn = w.slack_nn;
}

-- Sizes grow, add and multiply.
pub within_mono : {a r s : ℚ} → Within a r → r ≼ s → Within a s
within_mono {a} {r} {s} w h = record {
  up = w.up;
  down = w.down;
  slack = w.slack ⊹ h.rest;
  is = w.is;
  most = h.is ∙ ap (λ x. x ⊹ h.rest) w.most ∙ +_assoc _ _ _;
  up_nn = w.up_nn;
  down_nn = w.down_nn;
  slack_nn = nn_add _ _ w.slack_nn h.nonneg;
}

pub within_add : {a b r s : ℚ} → Within a r → Within b s → Within (a ⊹ b) (r ⊹ s)
within_add {a} {b} {r} {s} v w = record {
  up = v.up ⊹ w.up;
  down = v.down ⊹ w.down;
  slack = v.slack ⊹ w.slack;
  is = cc (v.is, w.is, split v.up v.down w.up w.down);
  most = cc (v.most, w.most, join v.up v.down v.slack w.up w.down w.slack);
  up_nn = nn_add _ _ v.up_nn w.up_nn;
  down_nn = nn_add _ _ v.down_nn w.down_nn;
  slack_nn = nn_add _ _ v.slack_nn w.slack_nn;
}
  where
    split : (p n q m : ℚ) → (p ⊹ ‐ n) ⊹ (q ⊹ ‐ m) ≡ (p ⊹ q) ⊹ ‐ (n ⊹ m)
    split p n q m = simp (neg_+, sorted)

    join : (p n s q m t : ℚ) → (p ⊹ n ⊹ s) ⊹ (q ⊹ m ⊹ t) ≡ (p ⊹ q) ⊹ (n ⊹ m) ⊹ (s ⊹ t)
    join p n s q m t = simp sorted

pub within_mul : {a b r s : ℚ} → Within a r → Within b s → Within (a ⋆ b) (r ⋆ s)
within_mul {a} {b} {r} {s} v w = record {
  up = v.up ⋆ w.up ⊹ v.down ⋆ w.down;
  down = v.up ⋆ w.down ⊹ v.down ⋆ w.up;
  slack = (v.up ⊹ v.down) ⋆ w.slack ⊹ v.slack ⋆ (w.up ⊹ w.down ⊹ w.slack);
  is = cc (v.is, w.is, split v.up v.down w.up w.down);
  most = cc (v.most, w.most, join v.up v.down v.slack w.up w.down w.slack);
  up_nn = nn_add _ _ (nn_mul _ _ v.up_nn w.up_nn) (nn_mul _ _ v.down_nn w.down_nn);
  down_nn = nn_add _ _ (nn_mul _ _ v.up_nn w.down_nn) (nn_mul _ _ v.down_nn w.up_nn);
  slack_nn = nn_add _ _ (nn_mul _ _ (nn_add _ _ v.up_nn v.down_nn) w.slack_nn)
      (nn_mul _ _ v.slack_nn (nn_add _ _ (nn_add _ _ w.up_nn w.down_nn) w.slack_nn));
}
  where
    split : (p n q m : ℚ) → (p ⊹ ‐ n) ⋆ (q ⊹ ‐ m) ≡ (p ⋆ q ⊹ n ⋆ m) ⊹ ‐ (p ⋆ m ⊹ n ⋆ q)
    split p n q m = simp (spread, sorted)

    join : (p n s q m t : ℚ) → (p ⊹ n ⊹ s) ⋆ (q ⊹ m ⊹ t)
        ≡ (p ⋆ q ⊹ n ⋆ m) ⊹ (p ⋆ m ⊹ n ⋆ q) ⊹ ((p ⊹ n) ⋆ t ⊹ s ⋆ (q ⊹ m ⊹ t))
    join p n s q m t = simp (spread, sorted)

-- A size is not below zero.
pub within_nn : {a r : ℚ} → Within a r → NonNeg r
within_nn w = subst NonNeg (sym w.most) (nn_add _ _ (nn_add _ _ w.up_nn w.down_nn) w.slack_nn)

-- So a is at most r.
pub within-≼ : {a r : ℚ} → Within a r → a ≼ r
within-≼ {a} {r} w = record {
  rest = (w.down ⊹ w.down) ⊹ w.slack;
  is = w.most ∙ sym (ap (λ x. x ⊹ ((w.down ⊹ w.down) ⊹ w.slack)) w.is ∙ gone w.up w.down w.slack);
  nonneg = nn_add _ _ (nn_add _ _ w.down_nn w.down_nn) w.slack_nn;
}
  where
    gone : (p n s : ℚ) → (p ⊹ ‐ n) ⊹ ((n ⊹ n) ⊹ s) ≡ (p ⊹ n) ⊹ s
    gone p n s =
        let e : (p ⊹ ‐ n) ⊹ ((n ⊹ n) ⊹ s) ≡ (p ⊹ n) ⊹ ((‐ n) ⊹ (n ⊹ s)) = simp sorted in
        e ∙ add_take p n (n ⊹ s) ∙ sym (+_assoc p n s)
