-- The largest entry of a vector of doubles: no entry is above it.
use Rattle.std.specs.Prelude.{◌≡◌, refl, ◌⊎◌, Bool, true, false, cond, List, [], ◌∷◌, ℕ, zero, suc, ◌*◌, ◌<◌, T, length, Float}
use Rattle.std.proofs.Common.{◌∙◌, inl, inr, arith, ltb-true, ltb-false, lt→ltb}
use Rattle.std.specs.Float.{nan, inf, fin}
use Rattle.std.specs.Float.Ieee.{up, down, lt}
use Rattle.std.specs.Float.Ieee.Fits.{down_pos}
use Rattle.std.specs.Float.Ieee.Positive.{positive, first_pos}
use Rattle.std.specs.Float.Ieee.Scale.{finite}
use Rattle.rounding.specs.Laws.Sign.{not_minus}
use Rattle.fraction.proofs.Fraction.{posℚ, Posℚ}
use Rattle.fraction.proofs.Value.{value}
use Rattle.transfer_matrix.specs.Rounded.{ieee}
use Rattle.transfer_matrix.specs.Sweep.{at, largest}
use Rattle.accuracy.proofs.Laws.Ring.{◌≼◌, ≼_refl, ≼_trans}
use Rattle.accuracy.proofs.Laws.Sizes.{frac-≼}

-- A double that is finite and has no minus sign.
pub record Entry (x : Float) : Type 0 where
  pub is_finite : T (finite x)
  pub sign : T (not_minus x)

-- ---- the order of doubles that are not below zero

below : (x y : Float) → Entry x → Entry y → lt x y ≡ true → value x ≼ value y
unfolding lt value
below nan y h k e = absurd h.is_finite
below (inf s) y h k e = absurd h.is_finite
below (fin s m d) nan h k e = absurd k.is_finite
below (fin s m d) (inf t) h k e = absurd k.is_finite
below (fin true m d) (fin t n c) h k e = absurd h.sign
below (fin false m d) (fin true n c) h k e = absurd k.sign
below (fin false m d) (fin false n c) h k e =
    let l = ltb-true (m * up d * down c) (n * up c * down d) e in
    frac-≼ (m * up d) (down d) (n * up c) (down c) (down_pos d) (down_pos c) (omega arith)

not_below : (x y : Float) → Entry x → Entry y → lt x y ≡ false → value y ≼ value x
unfolding lt value
not_below nan y h k e = absurd h.is_finite
not_below (inf s) y h k e = absurd h.is_finite
not_below (fin s m d) nan h k e = absurd k.is_finite
not_below (fin s m d) (inf t) h k e = absurd k.is_finite
not_below (fin true m d) (fin t n c) h k e = absurd h.sign
not_below (fin false m d) (fin true n c) h k e = absurd k.sign
not_below (fin false m d) (fin false n c) h k e =
    frac-≼ (n * up c) (down c) (m * up d) (down d) (down_pos c) (down_pos d) (ltb-false (m * up d * down c) (n * up c * down d) e)

-- A double whose value is above zero is so.
pub positive_of : (x : Float) → Entry x → Posℚ (value x) → T (positive x)
unfolding value posℚ
positive_of nan h p = absurd h.is_finite
positive_of (inf s) h p = absurd h.is_finite
positive_of (fin true m e) h p = absurd h.sign
positive_of (fin false m e) h p = lt→ltb 0 m (first_pos m (up e) (ltb-true 0 (m * up e) p))

-- ---- the largest entry, from m on: m or an entry, and none is above it

pub record Top (m : Float) (v : List Float) (top : Float) : Type 0 where
  pub from : (top ≡ m) ⊎ ((j : ℕ) × ((j < length v) × (top ≡ at ieee v j)))
  pub first : value m ≼ value top
  pub each : (j : ℕ) → j < length v → value (at ieee v j) ≼ value top

-- The largest entry is so.
pub largest-top : (v : List Float) (m : Float) → Entry m → ((j : ℕ) → j < length v → Entry (at ieee v j)) → Top m v (largest ieee m v)
unfolding largest
largest-top [] m h k = record { from = inl refl; first = ≼_refl _; each = λ j l. absurd (omega arith) }
largest-top (x ∷ v) m h k = go (lt m x) refl (λ z e. largest-top v z e (λ j l. k (suc j) (omega arith)))
  where
    X : Entry x
    X = k 0 (omega arith)

    taken : (z : Float) → value m ≼ value z → value x ≼ value z → ((z ≡ m) ⊎ (z ≡ x)) → Top z v (largest ieee z v) → Top m (x ∷ v) (largest ieee z v)
    taken z p q o t = record {
      from = source o t.from;
      first = ≼_trans p t.first;
      each = λ j l. entry j l;
    }
      where
        source : ((z ≡ m) ⊎ (z ≡ x)) → ((largest ieee z v ≡ z) ⊎ ((j : ℕ) × ((j < length v) × (largest ieee z v ≡ at ieee v j))))
            → (largest ieee z v ≡ m) ⊎ ((j : ℕ) × ((j < length (x ∷ v)) × (largest ieee z v ≡ at ieee (x ∷ v) j)))
        source (inl a) (inl b) = inl (b ∙ a)
        source (inr a) (inl b) = inr (0, (omega arith, b ∙ a))
        source o (inr (j, (l, e))) = inr (suc j, (omega arith, e))

        entry : (j : ℕ) → j < length (x ∷ v) → value (at ieee (x ∷ v) j) ≼ value (largest ieee z v)
        entry zero l = ≼_trans q t.first
        entry (suc j) l = t.each j (omega arith)

    go : (b : Bool) → lt m x ≡ b → ((z : Float) → Entry z → Top z v (largest ieee z v)) → Top m (x ∷ v) (largest ieee (cond b x m) v)
    go true e ih = taken x (below m x h X e) (≼_refl _) (inr refl) (ih x X)
    go false e ih = taken m (≼_refl _) (not_below m x h X e) (inl refl) (ih m h)
