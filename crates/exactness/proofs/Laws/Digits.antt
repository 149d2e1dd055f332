-- Binary digits of numbers that stand for spin settings: bit 0 is the newest spin, and a newer spin b makes 2 s + b of s.
use Rattle.std.specs.Prelude.{◌≡◌, refl, Bool, true, false, not, ℕ, zero, suc, ◌+◌, ◌*◌, ◌-◌, ◌/◌, ◌%◌, ◌^◌, ◌<◌, ltb, eqb}
use Rattle.std.proofs.Common.{sym, ◌∙◌, ap, ap₂, arith, add-zero, mod-lt, add-one, shr-shr, pow_pos, lt-ltb, le-ltb}
use Rattle.std.specs.Bool.{beq}
use Rattle.std.proofs.Math.Nat.{pow-succ', div-div-eq-div-mul}
use Rattle.std.proofs.lemmas.Nat.{mod-pow-add}
use Rattle.std.proofs.Math.Pow.{field, mod-mod-pow}
use Rattle.list_laws.specs.Bits.{bit}

pub halve_even : (k : ℕ) → 2 * k / 2 ≡ k
halve_even k = omega arith

pub halve_odd : (k : ℕ) → (2 * k + 1) / 2 ≡ k
halve_odd k = omega arith

pub shift_suc : (p c : ℕ) → c / 2 ^ suc p ≡ c / 2 / 2 ^ p
shift_suc p c = rw pow-succ' (sym (div-div-eq-div-mul c 2 (2 ^ p)))

-- ---- a digit, where the number is halved, shifted or cut off

pub bit_suc : (p c : ℕ) → bit (suc p) c ≡ bit p (c / 2)
bit_suc p c = rw shift_suc

pub bit_shift : (p q c : ℕ) → bit p (c / 2 ^ q) ≡ bit (q + p) c
bit_shift p q c = rw shr-shr

pub bit_shift_zero : (q c : ℕ) → bit 0 (c / 2 ^ q) ≡ bit q c
bit_shift_zero q c = bit_shift 0 q c ∙ ap (λ n. bit n c) (add-zero q)

pub bit_even : (k : ℕ) → bit 0 (2 * k) ≡ false
bit_even k = let e : 2 * k / 1 % 2 ≡ 0 = omega arith in ap (λ x. eqb x 1) e

pub bit-odd : (k : ℕ) → bit 0 (2 * k + 1) ≡ true
bit-odd k = let e : (2 * k + 1) / 1 % 2 ≡ 1 = omega arith in ap (λ x. eqb x 1) e

pub bit_mod : (p w c : ℕ) → p < w → bit p (c % 2 ^ w) ≡ bit p c
bit_mod p w c h = ap (λ x. eqb x 1) digit
  where
    split : w ≡ w - suc p + 1 + p
    split = omega arith

    digit : c % 2 ^ w / 2 ^ p % 2 ≡ c / 2 ^ p % 2
    digit = rw (split, field c (w - suc p + 1) p) (mod-mod-pow (c / 2 ^ p) (w - suc p) 1)

-- ---- the entry at a setting's low digits, and those that it is made from

suc_is : (n : ℕ) → suc n ≡ 1 + n
suc_is n = omega arith

pub mod_even : (p s : ℕ) → (2 * s) % 2 ^ suc p ≡ 2 * (s % 2 ^ p)
mod_even p s =
    let e : 2 * s % 2 ≡ 0 = omega arith in
    rw (← add-one p, mod-pow-add (2 * s) p 1, halve_even s) (omega arith)

pub mod_odd : (p s : ℕ) → (2 * s + 1) % 2 ^ suc p ≡ 2 * (s % 2 ^ p) + 1
mod_odd p s = rw (← add-one p, mod-pow-add (2 * s + 1) p 1, halve_odd s) (omega arith)

pub mod_low : (p s : ℕ) → s % 2 ^ suc p % 2 ^ p ≡ s % 2 ^ p
mod_low p s = rw (suc_is p) (mod-mod-pow s 1 p)

-- the lower half of a vector is where the oldest spin is up
pub mod_half : (p s : ℕ) → ltb (s % 2 ^ suc p) (2 ^ p) ≡ not (bit p s)
mod_half p s = rw (suc_is p, mod-pow-add s 1 p) (go (s / 2 ^ p % 2) (mod-lt (s / 2 ^ p) (omega arith)))
  where
    l : s % 2 ^ p < 2 ^ p
    l = mod-lt s (pow_pos p)

    go : (d : ℕ) → d < 2 → ltb (d * 2 ^ p + s % 2 ^ p) (2 ^ p) ≡ not (eqb d 1)
    go zero h = lt-ltb (0 * 2 ^ p + s % 2 ^ p) (2 ^ p) (omega (arith, l))
    go (suc zero) h = le-ltb (1 * 2 ^ p + s % 2 ^ p) (2 ^ p) (omega arith)
    go (suc (suc d)) h = absurd (omega arith)

-- ---- whether the newest spin agrees with an older one

beq_false : (b : Bool) → beq b false ≡ not b
beq_false true = refl
beq_false false = refl

beq_true : (b : Bool) → beq b true ≡ b
beq_true true = refl
beq_true false = refl

pub agree_even : (p s : ℕ) → beq (bit (suc p) (2 * s)) (bit 0 (2 * s)) ≡ not (bit p s)
agree_even p s = ap₂ beq (bit_suc p (2 * s) ∙ ap (bit p) (halve_even s)) (bit_even s) ∙ beq_false (bit p s)

pub agree-odd : (p s : ℕ) → beq (bit (suc p) (2 * s + 1)) (bit 0 (2 * s + 1)) ≡ bit p s
agree-odd p s = ap₂ beq (bit_suc p (2 * s + 1) ∙ ap (bit p) (halve_odd s)) (bit-odd s) ∙ beq_true (bit p s)
