-- Sums from +0.0 whose terms are the same but for the signs of zeros are the same, bit for bit.
use Rattle.std.specs.Prelude.{◌≡◌, refl, Bool, true, false, cond, not, ℕ, zero, suc, ◌<◌, T, Float}
use Rattle.std.proofs.Common.{ap, ◌∙◌, arith}
use Rattle.std.specs.Float.{binary64}
use Rattle.std.specs.Float.Ieee.{neg, add, sub, fits}
use Rattle.transfer_matrix.specs.Arithmetic.{sum, signed_sum}
use Rattle.transfer_matrix.specs.Rounded.{ieee}
use Rattle.rounding.proofs.Laws.Negation.{add_neg, sub_neg}
use Rattle.rounding.specs.Alike.{Alike}
use Rattle.rounding.proofs.Laws.Running.{Running, add_forgets, sub_forgets, add_running, sub_running}

-- x subtracted where m says so, and y where k does, come to the same but for the sign of a zero
pub data SameTerm : Bool → Float → Bool → Float → Type 0 where
  like : {m : Bool} {x y : Float} → Alike x y → SameTerm m x m y
  negated : {m : Bool} {x y : Float} → Alike x (neg y) → SameTerm (not m) x m y

-- a sum does not tell them apart
same_next : {a : Float} {m k : Bool} {x y : Float} → Running binary64 a → SameTerm m x k y
    → cond m (sub binary64 a x) (add binary64 a x) ≡ cond k (sub binary64 a y) (add binary64 a y)
same_next r (like {m = true} h) = sub_forgets binary64 r h
same_next r (like {m = false} h) = add_forgets binary64 r h
same_next {a} {y = y} r (negated {m = true} h) = add_forgets binary64 r h ∙ add_neg binary64 a y
same_next {a} {y = y} r (negated {m = false} h) = sub_forgets binary64 r h ∙ sub_neg binary64 a y

next_running : (m : Bool) {a : Float} (x : Float) → Running binary64 a → T (fits binary64 x)
    → Running binary64 (cond m (sub binary64 a x) (add binary64 a x))
next_running true x r h = sub_running binary64 x r h
next_running false x r h = add_running binary64 x r h

-- what a signed sum has come to
pub sum_running : (n : ℕ) (m : ℕ → Bool) (f : ℕ → Float) → ((j : ℕ) → j < n → T (fits binary64 (f j)))
    → Running binary64 (signed_sum ieee n m f)
unfolding signed_sum
sum_running zero m f p = record { fit = unfold fits in tt; plain = tt }
sum_running (suc n) m f p = next_running (m n) (f n) (sum_running n m f (λ j b. p j (omega arith))) (p n (omega arith))

-- signed sums of terms that are the same, each with its sign
pub signed_same : (n : ℕ) (m k : ℕ → Bool) (f g : ℕ → Float) → ((j : ℕ) → j < n → T (fits binary64 (f j)))
    → ((j : ℕ) → j < n → SameTerm (m j) (f j) (k j) (g j)) → signed_sum ieee n m f ≡ signed_sum ieee n k g
unfolding signed_sum
signed_same zero m k f g p q = refl
signed_same (suc n) m k f g p q =
    same_next (sum_running n m f (λ j b. p j (omega arith))) (q n (omega arith))
    ∙ ap (λ a. cond (k n) (sub binary64 a (g n)) (add binary64 a (g n))) (signed_same n m k f g (λ j b. p j (omega arith)) (λ j b. q j (omega arith)))

-- sums of terms that are the same
pub sum_same : (n : ℕ) (f g : ℕ → Float) → ((j : ℕ) → j < n → f j ≡ g j) → sum ieee n f ≡ sum ieee n g
unfolding sum
sum_same zero f g p = refl
sum_same (suc n) f g p = rw (sum_same n f g (λ j b. p j (omega arith)), p n (omega arith))
