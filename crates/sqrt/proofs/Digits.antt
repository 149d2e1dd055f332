-- A root digit by digit: what the loop of `whole_root` knows on its way.
use mathlib.Core.Path.{◌≡◌, sym, ap, ◌∙◌, subst}
use Prim.Native.Nat.{ℕ, ◌+◌, ◌-◌, ◌*◌, ◌/◌, ◌%◌, ◌^◌, ◌≤◌, ◌<◌, zero-le}
use native.Mathlib.Nat.{lt_of_lt_of_le, lt_of_le_of_lt, pow-suc}
use native.Mathlib.Numerals.{add-one}
use native.Mathlib.Omega.{arith}
use lib.Dec.{lit<}
use lib.Pow.{pow_mono}
use Rattle.sqrt.specs.WholeRoot.{WholeRoot}

-- After i turns r is the whole part of the root of the first 2 i of the 108 digits of m * 2 ^ 54; `rest` is what its square leaves of them, and
-- `next` is the 54 digits after them.
pub record Partial (m i r rest next : ℕ) : Type 0 where
  pub value : (r * r + rest) * 2 ^ 54 + next ≡ m * 4 ^ i
  pub close : rest ≤ 2 * r
  pub narrow : next < 2 ^ 54
  pub short : r < 2 ^ i
  pub turns : i ≤ 54
  pub fits : r < 2 ^ 54

pub partial_start : (m : ℕ) → m < 2 ^ 54 → Partial m 0 0 0 m
partial_start m h = record { value = omega arith; close = zero-le; narrow = h; short = lit< tt; turns = zero-le; fits = lit< tt }

module _ (m i r rest next : ℕ) (h : Partial m i r rest next) where
  abbrev taken : ℕ
  taken = rest * 4 + next / 2 ^ 52

  four-times : (y : ℕ) → y ≡ 4 * ((r * r + rest) * 2 ^ 54 + next) → y ≡ m * 4 ^ (i + 1)
  four-times y e =
      e ∙ ap (λ (z : ℕ). 4 * z) h.value ∙ turn (4 ^ i)
      ∙ ap (λ (z : ℕ). m * z) (sym (pow-suc 4 i) ∙ ap (λ (z : ℕ). 4 ^ z) (sym (add-one i)))
    where
      turn : (p : ℕ) → 4 * (m * p) ≡ m * (p * 4)
      turn p = omega arith

  doubled : r * 2 + 1 < 2 ^ (i + 1)
  doubled = subst (λ (z : ℕ). r * 2 + 1 < z) (sym (ap (λ (z : ℕ). 2 ^ z) (add-one i) ∙ pow-suc 2 i)) (go (2 ^ i) h.short)
    where
      go : (p : ℕ) → r < p → r * 2 + 1 < p * 2
      go p k = omega arith

  inside : i < 54 → r * 2 + 1 < 2 ^ 54
  inside g = lt_of_lt_of_le doubled (pow_mono {i = i + 1} {j = 54} (omega arith))

  pub partial_one : i < 54 → r * 4 + 1 ≤ taken → Partial m (i + 1) (r * 2 + 1) (taken - (r * 4 + 1)) (next % 2 ^ 52 * 4)
  partial_one g l = record {
    value = four-times (((r * 2 + 1) * (r * 2 + 1) + (taken - (r * 4 + 1))) * 2 ^ 54 + next % 2 ^ 52 * 4) (omega arith);
    close = let a = h.close in let b = h.narrow in omega arith;
    narrow = omega arith;
    short = doubled;
    turns = omega arith;
    fits = inside g;
  }

  pub partial_zero : i < 54 → taken < r * 4 + 1 → Partial m (i + 1) (r * 2) taken (next % 2 ^ 52 * 4)
  partial_zero g l = record {
    value = four-times ((r * 2 * (r * 2) + taken) * 2 ^ 54 + next % 2 ^ 52 * 4) (omega arith);
    close = omega arith;
    narrow = omega arith;
    short = lt_of_le_of_lt (omega arith) doubled;
    turns = omega arith;
    fits = lt_of_le_of_lt (omega arith) (inside g);
  }

  pub partial_end : 54 ≤ i → WholeRoot (m * 2 ^ 54) r
  partial_end l =
      let t = h.turns in
      let i_is : i ≡ 54 = omega arith in
      let e : r * r + rest ≡ m * 2 ^ 54 = go (r * r + rest) (h.value ∙ ap (λ (z : ℕ). m * 4 ^ z) i_is) h.narrow in
      record { least = omega arith; most = let c = h.close in omega arith }
    where
      go : (s : ℕ) → s * 2 ^ 54 + next ≡ m * 4 ^ 54 → next < 2 ^ 54 → s ≡ m * 2 ^ 54
      go s e l = omega arith
