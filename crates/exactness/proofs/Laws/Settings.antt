-- The textbook's sum over settings is a sum over numbers: of n vertices, vertex i is bit n - 1 - i of the number.
use Rattle.std.specs.Prelude.{◌≡◌, refl, true, eqb}
use Rattle.std.proofs.Math.Path.{sym, ap, ap₂, fun_ext}
use Rattle.std.proofs.Common.{◌∙◌, arith, eq-eqb, ne_eqb}
use Rattle.std.proofs.Math.Bool.{false}
use Prim.Native.Nat.{ℕ, zero, suc, ◌+◌, ◌*◌, ◌-◌, ◌/◌, ◌%◌, ◌^◌, ◌<◌}
use Rattle.std.proofs.Math.Decide.{ℕ_discrete}
use Rattle.std.proofs.Math.Nat.{pow-succ'}
use Rattle.transfer_matrix.specs.Arithmetic.{Ops, sum}
use Rattle.list_laws.specs.Bits.{bit}
use Rattle.exactness.specs.Textbook.{Setting, put, over_settings}
use Rattle.exactness.proofs.Laws.Algebra as L
use Rattle.exactness.proofs.Laws.Algebra.{Laws, Pos}
use Rattle.exactness.proofs.Laws.Digits.{halve_even, halve_odd, bit_suc, bit_even, bit-odd}

pub setting_of : ℕ → ℕ → Setting
setting_of zero c = λ i. false
setting_of (suc n) c = put (setting_of n (c / 2)) n (bit 0 c)

pub setting_at : (n c i : ℕ) → i < n → setting_of n c i ≡ bit (n - suc i) c
unfolding setting_of
setting_at zero c i h = absurd (omega arith)
setting_at (suc n) c i h = go (ℕ_discrete i n) (λ l. setting_at n (c / 2) i l)
  where
    go : Dec (i ≡ n) → (i < n → setting_of n (c / 2) i ≡ bit (n - suc i) (c / 2)) → put (setting_of n (c / 2)) n (bit 0 c) i ≡ bit (suc n - suc i) c
    go (yes e) ih = let z : 0 ≡ suc n - suc i = omega arith in rw (eq-eqb i n e) (ap (λ p. bit p c) z)
    go (no e) ih =
        let z : suc (n - suc i) ≡ suc n - suc i = omega arith in
        rw (ne_eqb i n e) (ih (omega arith) ∙ sym (bit_suc (n - suc i) c) ∙ ap (λ p. bit p c) z)

-- the bits above do not matter
pub setting_above : (n j c : ℕ) → setting_of n (2 ^ n * j + c) ≡ setting_of n c
unfolding setting_of
setting_above zero j c = refl
setting_above (suc n) j c =
    let h : (2 ^ suc n * j + c) / 2 ≡ 2 ^ n * j + c / 2 = rw pow-succ' (omega arith) in
    let b : (2 ^ suc n * j + c) / 1 % 2 ≡ c / 1 % 2 = rw pow-succ' (omega arith) in
    ap₂ (λ s d. put s n d) (ap (setting_of n) h ∙ setting_above n j (c / 2)) (ap (λ x. eqb x 1) b)

module _ (O : Ops) (LW : Laws O) where
  open O use {K, ◌⊕◌}

  infixl 60 ◌⊕◌
  open LW use {pos_⊕}

  pub over-numbers : (n : ℕ) (f : Setting → K) → over_settings O n f ≡ sum O (2 ^ n) (λ c. f (setting_of n c))
  unfolding over_settings setting_of sum
  over-numbers zero f = sym (L.zero_⊕ O LW _)
  over-numbers (suc n) f =
      ap₂ ◌⊕◌ (over-numbers n (λ s. f (put s n false))) (over-numbers n (λ s. f (put s n true)))
      ∙ sym (L.sum_add O LW (2 ^ n) (λ c. f (put (setting_of n c) n false)) (λ c. f (put (setting_of n c) n true)))
      ∙ ap (sum O (2 ^ n)) (fun_ext (λ c. ap₂ ◌⊕◌ (ap f (even c)) (ap f (odd c))))
      ∙ sym (ap (λ m. sum O m (λ c. f (setting_of (suc n) c))) (pow-succ' 2 n) ∙ L.sum-pairs O LW (2 ^ n) (λ c. f (setting_of (suc n) c)))
    where
      even : (c : ℕ) → put (setting_of n c) n false ≡ setting_of (suc n) (2 * c)
      even c = sym (ap₂ (λ s d. put (setting_of n s) n d) (halve_even c) (bit_even c))

      odd : (c : ℕ) → put (setting_of n c) n true ≡ setting_of (suc n) (2 * c + 1)
      odd c = sym (ap₂ (λ s d. put (setting_of n s) n d) (halve_odd c) (bit-odd c))

  pub over_pos : (n : ℕ) (f : Setting → K) → ((s : Setting) → Pos O (f s)) → Pos O (over_settings O n f)
  unfolding over_settings
  over_pos zero f h = h _
  over_pos (suc n) f h = pos_⊕ _ _ (over_pos n _ (λ s. h _)) (over_pos n _ (λ s. h _))
