-- The exact fractions ℚ: fractions as written, those with equal cross products made one (`sound`, `exact`), so that laws are equations.
-- They are a field, with a test of what is above zero. `frac p m d` is (p - m) / (d + 1).
use Rattle.std.specs.Prelude.{◌≡◌, refl, Bool, true, ℕ}
use Rattle.std.proofs.Common.{sym, ◌∙◌, ap}
use mathlib.Core.Quot
use mathlib.Core.Quot.{Quot, mk, Quot-set, lift}
use mathlib.Core.Quot.Quotient
use mathlib.Core.Quot.{Setoid}
use Rattle.std.proofs.Math.Bool.{Bool-set}
use Rattle.fraction.specs.Raw.{Raw, raw, bottoms, add_r, mul_r, neg_r, inv_r, pos_r}
use Rattle.fraction.specs.Laws.Raw.{◌~◌}
use Rattle.fraction.proofs.Laws.Raw.{~_trans}
use Rattle.fraction.proofs.Laws.Raw.{add_r_cong, mul_r_cong, neg_r_cong, inv_r_cong, pos_r_cong}
use Rattle.fraction.proofs.Laws.Raw.{add_r_comm, mul_r_comm}

abbrev pub ~_setoid : Setoid {0, 0} Raw
~_setoid = record { r = ◌~◌; iseqv = record { refl = λ x. refl; symm = λ x y h. sym h; trans = ~_trans } }

abbrev pub ℚ : Type 0
ℚ = Quot ◌~◌

abbrev pub of_raw : Raw → ℚ
of_raw x = mk x

abbrev pub frac : ℕ → ℕ → ℕ → ℚ
frac p m d = of_raw (raw p m d)

abbrev pub zeroℚ : ℚ
zeroℚ = frac 0 0 0

abbrev pub oneℚ : ℚ
oneℚ = frac 1 0 0

-- ---- two fractions are equal exactly where their cross products are

abbrev pub sound : {x y : Raw} → x ~ y → of_raw x ≡ of_raw y
sound h = Quot.sound h

-- ---- sum, product, negative, inverse and sign, from those of fractions as written

abbrev pub lift₁ : (f : Raw → Raw) → ((x y : Raw) → x ~ y → f x ~ f y) → ℚ → ℚ
lift₁ f cong = lift {r = ◌~◌} Quot-set (λ x. of_raw (f x)) (λ x y h. sound (cong x y h))

-- for a function that is symmetric and respects its first argument
abbrev pub lift₂ : (f : Raw → Raw → Raw) → ((x y : Raw) → f x y ≡ f y x) → ((x y z : Raw) → x ~ y → f x z ~ f y z) → ℚ → ℚ → ℚ
lift₂ f comm cong = Quotient.lift₂ ~_setoid ~_setoid Quot-set (λ x y. of_raw (f x y))
    (λ x y x' y' h k. sound (cong x x' y h) ∙ ap of_raw (comm x' y) ∙ sound (cong y y' x' k) ∙ ap of_raw (comm y' x'))

unfoldable pub addℚ : ℚ → ℚ → ℚ
unfolding Quotient.lift₂ bottoms
addℚ = lift₂ add_r add_r_comm add_r_cong

unfoldable pub mulℚ : ℚ → ℚ → ℚ
unfolding Quotient.lift₂ bottoms
mulℚ = lift₂ mul_r mul_r_comm mul_r_cong

unfoldable pub negℚ : ℚ → ℚ
negℚ = lift₁ neg_r neg_r_cong

-- one over zero counts as zero
unfoldable pub invℚ : ℚ → ℚ
invℚ = lift₁ inv_r inv_r_cong

unfoldable pub posℚ : ℚ → Bool
posℚ = lift {r = ◌~◌} Bool-set pos_r pos_r_cong

abbrev pub Posℚ : ℚ → Type 0
Posℚ q = posℚ q ≡ true
