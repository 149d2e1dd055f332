-- The pattern that the code puts together is that of the root: its fields stand for the nearest number of places.
use mathlib.Core.Path.{◌≡◌, sym, ◌∙◌, subst}
use Prim.Native.Nat.{ℕ, zero, suc, ◌+◌, ◌-◌, ◌*◌, ◌/◌, ◌%◌, ◌^◌, ◌≤◌, ◌<◌}
use native.Mathlib.Nat.{mul-one, lt_irrefl}
use native.Mathlib.Omega.{arith}
use mathlib.Core.Bool.{Bool, false, not}
use lib.Dec.{T, leb, eqb, eqb→eq, not_T}
use borrow.Author.Tests.{lt-leb, le-ltb}
use lib.Ieee.{Float, binary64, odd, nan_bits, fits, of_fields, of_bits}
use lib.Ieee.Bits.{of_bits-fits, nan_bits_above, is_false}
use lib.Ieee.Exact.{HasValue, odd_sign}
use lib.Ieee.Positive.{value→cross, positive_of_value}
use Rattle.sqrt.specs.WholeRoot.{WholeRoot}
use Rattle.sqrt.specs.Sqrt.{sqrt, places}
use Rattle.sqrt.proofs.Laws.Halves.{Halves}
use Rattle.sqrt.proofs.Laws.Middles.{places-nearest}
use Rattle.sqrt.proofs.Theorems.{sqrt-only}
use Rattle.sqrt.specs.Placed.{Fields, magnitude, Placed}
use Rattle.sqrt.proofs.Placing.{placed-short, placed-halves}

-- ---- a pattern by its fields
of_bits_fields : (x t : ℕ) → x < 2048 → t < 2 ^ 52 → of_bits binary64 (x * 2 ^ 52 + t) ≡ of_fields binary64 false x t
unfolding of_bits
of_bits_fields x t X H =
    let b = x * 2 ^ 52 + t in
    let s : leb (2 ^ 63) b ≡ false = lt-leb (2 ^ 63) b (omega arith) in
    let e : b % 2 ^ 63 / 2 ^ 52 ≡ x = omega arith in
    let d : b % 2 ^ 52 ≡ t = omega arith in
    rw (s, e, d)

fields_value : (x t : ℕ) → x < 2047 → HasValue (of_fields binary64 false x t) false (magnitude x t) (2 ^ 1074)
unfolding of_fields
fields_value zero t h = subst (λ (z : ℕ). HasValue (odd 53 false t 0 1074) false z (2 ^ 1074)) (mul-one t) (odd_sign 53 false t 0 1074)
fields_value (suc x) t h =
    let n = is_false (eqb (suc x) 2047) (not_T (eqb (suc x) 2047) (λ e. lt_irrefl 2047 (subst (λ (z : ℕ). z < 2047) (eqb→eq (suc x) 2047 e) h))) in
    rw n (odd_sign 53 false (2 ^ 52 + t) x 1074)

-- below infinity's there is no NaN's
pub no_nan : (n : ℕ) → n < 2047 * 2 ^ 52 → T (not (nan_bits binary64 n))
no_nan n h = subst (λ (b : Bool). T (not b)) (sym (nan_bits_above binary64 n ∙ le-ltb (2047 * 2 ^ 52) (n % 2 ^ 63) (omega arith))) tt

-- ---- the pattern of h halves at the place k
abbrev pub bits_of : ℕ → ℕ → ℕ
bits_of k h = k * 2 ^ 52 + places h

pub record Answer (x t k h : ℕ) : Type 0 where
  pub short : h < 2 ^ 54 - 1
  pub low : k ≤ 1533
  pub is : of_bits binary64 (bits_of k h) ≡ sqrt binary64 (of_fields binary64 false x t)

module _ (x t m k h : ℕ) (F : Fields x t) (p : Placed (magnitude x t) m k) (l : 2 ^ 52 ≤ m) (r : WholeRoot (m * 2 ^ 54) h) where
  abbrev n : ℕ
  n = magnitude x t

  abbrev v : Float
  v = of_bits binary64 (bits_of k h)

  halves : Halves binary64 n h k
  halves = placed-halves n m k h p l r

  short : h < 2 ^ 54 - 1
  short = placed-short n m k h p l r

  value : HasValue v false (places h * 2 ^ k) (2 ^ 1074)
  value =
      let a = halves.long in
      let b = short in
      let d = p.low in
      let e : bits_of k h ≡ suc k * 2 ^ 52 + (places h - 2 ^ 52) = omega arith in
      let g : 2 ^ 52 + (places h - 2 ^ 52) ≡ places h = omega arith in
      let u = fields_value (suc k) (places h - 2 ^ 52) (omega arith) in
      rw (e, of_bits_fields (suc k) (places h - 2 ^ 52) (omega arith) (omega arith)) (rw g at u)

  argument_fits : T (fits binary64 (of_fields binary64 false x t))
  argument_fits =
      let a = F.finite in
      subst (λ (z : Float). T (fits binary64 z)) (of_bits_fields x t (omega arith) F.short) (of_bits-fits binary64 (x * 2 ^ 52 + t))

  pub answer : Answer x t k h
  answer =
      let u = of_fields binary64 false x t in
      let U = fields_value x t F.finite in
      record {
        short = short;
        low = p.low;
        is =
            sqrt-only binary64 u v argument_fits (positive_of_value u n (2 ^ 1074) U p.some)
            (places-nearest binary64 u v n h k (value→cross u n (2 ^ 1074) U) halves (of_bits-fits binary64 (bits_of k h)) value);
      }
