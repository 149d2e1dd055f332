-- Laws of what specs/Half defines.
use Rattle.std.specs.Prelude.{◌≡◌, ℕ, ◌+◌, ◌*◌, ◌-◌, ◌/◌, ◌%◌, ◌^◌, ◌≤◌, ◌<◌, Float}
use Rattle.std.proofs.Common.{ap}
use Rattle.std.proofs.Math.Logic.{dite}
use Rattle.std.proofs.Math.Nat.{min-eq_left, min-eq_right}
use Rattle.std.proofs.Math.Decide.{dec_lt}
use native.Mathlib.Omega.{arith}
use borrow.Author.Tests.{lt-ltb, le-ltb}
use Rattle.list_laws.proofs.Laws.Power.{pow_double}
use Rattle.transfer_matrix.specs.Job.{Step}
use Rattle.transfer_matrix.specs.Rounded.{ieee}
use Rattle.transfer_matrix.specs.Sweep as S
use Rattle.half_vectors.specs.Entries.{ups, downs, blend}
use Rattle.half_vectors.proofs.Laws.Entries.{lower, upper}
use Rattle.half_vectors.specs.Half.{there_and_back, forward_half, backward_half}

module _ (w : ℕ) (wide : 1 ≤ w) where
  whole : 2 ^ w ≡ 2 * 2 ^ (w - 1)
  whole = pow_double w wide

  -- on the way there
  pub there : {A : Type 0} (h : ℕ → A) (j : ℕ) → j < 2 ^ (w - 1) → there_and_back w h j ≡ h j
  there h j b = ap h (min-eq_left (omega (arith, whole)))

  -- on the way back
  pub back : {A : Type 0} (h : ℕ → A) (j : ℕ) → j < 2 ^ (w - 1) → there_and_back w h (2 ^ w - 1 - j) ≡ h j
  back h j b = let i : 2 ^ w - 1 - (2 ^ w - 1 - j) ≡ j = omega (arith, whole) in rw i (ap h (min-eq_right (omega (arith, whole))))

  -- what holds of j and of 2 ^ w - 1 - j for every j of the lower half holds of every index
  pub by_halves : (P : ℕ → Type 0) → ((j : ℕ) → j < 2 ^ (w - 1) → P j) → ((j : ℕ) → j < 2 ^ (w - 1) → P (2 ^ w - 1 - j)) → (j : ℕ) → j < 2 ^ w → P j
  by_halves P p q j b =
      dite (dec_lt j (2 ^ (w - 1)))
      (λ l. p j l)
      (λ l. let i : 2 ^ w - 1 - (2 ^ w - 1 - j) ≡ j = omega arith in rw i at (q (2 ^ w - 1 - j) (omega (arith, whole))))

module _ (w : ℕ) (s : Step Float) (sc : Float) (sign : Float → Float) (h : ℕ → Float) (j k : ℕ) where
  -- its even entries
  pub forward_half_even : j ≡ 2 * k
      → forward_half w s sc sign h j ≡ blend (S.ep ieee s.left) (sign (S.em ieee s.left)) (ups s sc k) (h k) (h (2 ^ (w - 1) - 1 - k))
  unfolding forward_half
  forward_half_even e =
      let r : j / 1 % 2 ≡ 0 = omega arith in
      let q : j / 2 ≡ k = omega arith in
      rw (r, q)

  -- its odd entries
  pub forward_half-odd : j ≡ 2 * k + 1
      → forward_half w s sc sign h j ≡ blend (S.em ieee s.left) (sign (S.ep ieee s.left)) (downs s sc k) (h k) (h (2 ^ (w - 1) - 1 - k))
  unfolding forward_half
  forward_half-odd e =
      let r : j / 1 % 2 ≡ 1 = omega arith in
      let q : j / 2 ≡ k = omega arith in
      rw (r, q)

module _ (w : ℕ) (s : Step Float) (sc : Float) (h : ℕ → Float) (k : ℕ) (wide : 2 ≤ w) (b : k < 2 ^ (w - 2)) where
  half : 2 ^ (w - 1) ≡ 2 * 2 ^ (w - 2)
  half = let e : w - 1 - 1 ≡ w - 2 = omega arith in rw e at (pow_double (w - 1) (omega arith))

  -- its entries at the front
  pub backward_half-front : backward_half w s sc h k ≡ lower w s sc h k
  unfolding backward_half
  backward_half-front = rw (min-eq_left {n = k} {m = 2 ^ (w - 1) - 1 - k} (omega (arith, half)), lt-ltb k (2 ^ (w - 2)) b)

  -- its entries at the end, from the same pair
  pub backward_half-end : backward_half w s sc h (2 ^ (w - 1) - 1 - k) ≡ upper w s sc h k
  unfolding backward_half
  backward_half-end =
      let i : 2 ^ (w - 1) - 1 - (2 ^ (w - 1) - 1 - k) ≡ k = omega (arith, half) in
      rw (i, min-eq_right {n = k} {m = 2 ^ (w - 1) - 1 - k} (omega (arith, half)), le-ltb (2 ^ (w - 1) - 1 - k) (2 ^ (w - 2)) (omega (arith, half)))
