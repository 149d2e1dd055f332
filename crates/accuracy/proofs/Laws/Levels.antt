-- How large the entries of an exact vector are, so many steps after a rescaling: a step takes one level to the next.
use Rattle.std.specs.Prelude.{◌≡◌, refl, ℕ, zero, suc, ◌+◌, ◌*◌, ◌-◌, ◌/◌, ◌%◌, ◌^◌, ◌≤◌, ◌<◌}
use Rattle.std.proofs.Common.{sym, ◌∙◌, ap, subst, subst₂, pow-suc, mod-lt, mod-eq_of_lt, arith, pow_pos}
use Rattle.std.proofs.Math.Decide.{dec_lt}
use Rattle.fraction.proofs.Fraction.{ℚ, oneℚ}
use Rattle.list_laws.proofs.Laws.Power.{pow_double}
use Rattle.accuracy.specs.Ring.{NonNeg, nat}
use Rattle.accuracy.proofs.Laws.Ring.{◌⊹◌, ◌⋆◌, ◌≼◌, ≼_refl, ≼_trans, ≼_add, ≼-times, ≼_mul, nat_add, nn_mul, nn_frac, one-*, *-left}
use Rattle.accuracy.proofs.Laws.Ring.{*_comm, *_assoc, *-+}
use Rattle.accuracy.proofs.Laws.Powers.{power, power_nn, power-one}
use Rattle.accuracy.proofs.Laws.Sizes.{nat_mono}
use Rattle.accuracy.proofs.Laws.Mix.{Mix, mix_first, mix-second, mix-most}

-- s steps after a rescaling, of n entries: one is t ^ s / 4 or more, and each is 4 (2 / t) ^ s or less.
pub record Level (n : ℕ) (t : ℚ) (s : ℕ) (x : ℕ → ℚ) : Type 0 where
  pub index : ℕ
  pub inside : index < n
  pub least : power t s ≼ nat 4 ⋆ x index
  pub most : (j : ℕ) → j < n → power t s ⋆ x j ≼ nat (4 * 2 ^ s)

-- At most four steps after a rescaling.
pub record Settled (n : ℕ) (t : ℚ) (x : ℕ → ℚ) : Type 0 where
  pub steps : ℕ
  pub few : steps ≤ 4
  pub level : Level n t steps x

module _ (w : ℕ) (W : 1 ≤ w) (t : ℚ) (t-nn : NonNeg t) (t-one : t ≼ oneℚ) where
  abbrev n : ℕ
  n = 2 ^ w

  abbrev half : ℕ
  half = 2 ^ (w - 1)

  halves : n ≡ 2 * half
  halves = pow_double w W

  nns : (s : ℕ) → NonNeg (power t s)
  nns = power_nn t t-nn t-one

  -- ---- a step takes one level to the next

  raise : (s : ℕ) (x z : ℚ) → power t s ≼ nat 4 ⋆ x → t ⋆ x ≼ z → power t (suc s) ≼ nat 4 ⋆ z
  unfolding power
  raise s x z h k =
      ≼_trans (subst₂ ◌≼◌ (*_comm t (power t s)) (*-left t (nat 4) x) (≼-times t t-nn h)) (≼-times (nat 4) (nn_frac 4 0) k)

  double : (s : ℕ) → nat (4 * 2 ^ s) ⊹ nat (4 * 2 ^ s) ≡ nat (4 * 2 ^ suc s)
  double s = sym (nat_add (4 * 2 ^ s) (4 * 2 ^ s)) ∙ ap nat (omega (arith, pow-suc 2 s))

  bound : (s : ℕ) (a b z : ℚ) → t ⋆ z ≼ a ⊹ b → power t s ⋆ a ≼ nat (4 * 2 ^ s) → power t s ⋆ b ≼ nat (4 * 2 ^ s) → power t (suc s) ⋆ z ≼ nat (4 * 2 ^ suc s)
  unfolding power
  bound s a b z h k l =
      ≼_trans (subst₂ ◌≼◌ (sym (*_assoc (power t s) t z)) (*-+ (power t s) a b) (≼-times (power t s) (nns s) h))
      (subst (λ q. power t s ⋆ a ⊹ power t s ⋆ b ≼ q) (double s) (≼_add k l))

  module _ (c : ℚ) (c-nn : NonNeg c) (M M' : ℕ → ℚ) (M_nn : (j : ℕ) → j < n → NonNeg (M j)) (s : ℕ) (level : Level n t s (λ j. c ⋆ M j)) where
    sc : (j : ℕ) → j < n → NonNeg (c ⋆ M j)
    sc j l = nn_mul c (M j) c-nn (M_nn j l)

    -- A step takes a scaled vector at one level to the next: forward,
    pub ahead-level : ((j : ℕ) → j < n → Mix t c (M (j / 2)) (M (half + j / 2)) (M' j)) → Level n t (suc s) M'
    ahead-level mix = go (dec_lt level.index half)
      where
        most : (j : ℕ) → j < n → power t (suc s) ⋆ M' j ≼ nat (4 * 2 ^ suc s)
        most j l =
            let a : j / 2 < n = omega arith in
            let b : half + j / 2 < n = omega (arith, halves) in
            bound s _ _ (M' j) (mix-most t-nn (mix j l) (sc _ a) (sc _ b)) (level.most _ a) (level.most _ b)

        make : (i : ℕ) → i < n → t ⋆ (c ⋆ M level.index) ≼ M' i → Level n t (suc s) M'
        make i l h = record { index = i; inside = l; least = raise s (c ⋆ M level.index) (M' i) level.least h; most = most }

        go : Dec (level.index < half) → Level n t (suc s) M'
        go (yes h) =
            let i = level.index in
            let l : 2 * i < n = omega (arith, halves) in
            let e : 2 * i / 2 ≡ i = omega arith in
            let b : half + 2 * i / 2 < n = omega (arith, halves) in
            let a : 2 * i / 2 < n = omega arith in
            make (2 * i) l (subst (λ (k : ℕ). t ⋆ (c ⋆ M k) ≼ M' (2 * i)) e (mix_first t-nn (mix (2 * i) l) (sc _ a) (sc _ b)))
        go (no h) =
            let i = level.index - half in
            let l : 2 * i < n = omega (arith, halves, level.inside) in
            let e : half + 2 * i / 2 ≡ level.index = omega arith in
            let b : half + 2 * i / 2 < n = omega (arith, level.inside) in
            let a : 2 * i / 2 < n = omega (arith, level.inside) in
            make (2 * i) l (subst (λ (k : ℕ). t ⋆ (c ⋆ M k) ≼ M' (2 * i)) e (mix-second t-nn (mix (2 * i) l) (sc _ a) (sc _ b)))

    -- and backward.
    pub back_level : ((j : ℕ) → j < n → Mix t c (M (2 * (j % half))) (M (2 * (j % half) + 1)) (M' j)) → Level n t (suc s) M'
    back_level mix = go (level.index % 2) (omega arith) refl
      where
        inside : (j : ℕ) → (2 * (j % half) < n) × (2 * (j % half) + 1 < n)
        inside j = let q : j % half < half = mod-lt j (pow_pos (w - 1)) in (omega (arith, halves), omega (arith, halves))

        most : (j : ℕ) → j < n → power t (suc s) ⋆ M' j ≼ nat (4 * 2 ^ suc s)
        most j l =
            let (a, b) = inside j in
            bound s _ _ (M' j) (mix-most t-nn (mix j l) (sc _ a) (sc _ b)) (level.most _ a) (level.most _ b)

        i : ℕ
        i = level.index / 2

        i_low : i < half
        i_low = omega (arith, halves, level.inside)

        i_in : i < n
        i_in = omega (arith, halves, level.inside)

        i_is : i % half ≡ i
        i_is = mod-eq_of_lt i_low

        make : t ⋆ (c ⋆ M level.index) ≼ M' i → Level n t (suc s) M'
        make h = record { index = i; inside = i_in; least = raise s (c ⋆ M level.index) (M' i) level.least h; most = most }

        go : (r : ℕ) → r ≤ 1 → level.index % 2 ≡ r → Level n t (suc s) M'
        go zero m e =
            let k : 2 * (i % half) ≡ level.index = ap (λ (z : ℕ). 2 * z) i_is ∙ omega arith in
            let (a, b) = inside i in
            make (subst (λ (k : ℕ). t ⋆ (c ⋆ M k) ≼ M' i) k (mix_first t-nn (mix i i_in) (sc _ a) (sc _ b)))
        go (suc zero) m e =
            let k : 2 * (i % half) + 1 ≡ level.index = ap (λ (z : ℕ). 2 * z + 1) i_is ∙ omega arith in
            let (a, b) = inside i in
            make (subst (λ (k : ℕ). t ⋆ (c ⋆ M k) ≼ M' i) k (mix-second t-nn (mix i i_in) (sc _ a) (sc _ b)))
        go (suc (suc r)) m e = absurd (omega arith)

  -- What holds just after a rescaling holds any number of steps after it.
  pub fresh : (s : ℕ) (x : ℕ → ℚ) → ((j : ℕ) → j < n → NonNeg (x j)) → (i : ℕ) → i < n → oneℚ ≼ nat 4 ⋆ x i → ((j : ℕ) → j < n → x j ≼ nat 4) → Level n t s x
  fresh s x nn i l h k = record {
    index = i;
    inside = l;
    least = ≼_trans (power-one t t-nn t-one s) h;
    most = λ j m. ≼_trans (subst (λ z. power t s ⋆ x j ≼ z) (one-* (x j)) (≼_mul (nns s) (nn j m) (power-one t t-nn t-one s) (≼_refl (x j))))
        (≼_trans (k j m) (nat_mono 4 (4 * 2 ^ s) (let q = pow_pos s in omega arith)));
  }
