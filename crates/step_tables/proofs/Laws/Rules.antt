-- Laws of weights in iteration and of the forward rule: at an even and at an odd place, and from a place on.
use Rattle.std.specs.Prelude.{◌≡◌, List, ◌⊎◌, ℕ, ◌+◌, ◌*◌, ◌/◌, ◌%◌, ◌<◌, get_or, Float}
use Rattle.std.proofs.Common.{inl, inr}
use Rattle.std.proofs.Math.Logic.{dite}
use Rattle.std.proofs.Math.Decide.{dec_lt}
use native.Mathlib.Omega.{arith}
use Rattle.std.specs.Float.{nan}
use Rattle.step_tables.specs.Rule.{alternating, blend, forward_rule}

module _ (p q : Float) (i : ℕ) where
  pub alternating_even : i % 2 ≡ 0 → alternating p q i ≡ p
  unfolding alternating
  alternating_even h = let e : i / 1 % 2 ≡ 0 = omega arith in rw e

  pub alternating-odd : i % 2 ≡ 1 → alternating p q i ≡ q
  unfolding alternating
  alternating-odd h = let e : i / 1 % 2 ≡ 1 = omega arith in rw e

mod_two : (i : ℕ) → (i % 2 ≡ 0) ⊎ (i % 2 ≡ 1)
mod_two i = dite (dec_lt (i % 2) 1) (λ h. inl (omega arith)) (λ h. inr (omega arith))

-- the two entries of a table that a run uses
pub alternating_pick : (t : List Float) (m low i : ℕ) → alternating (get_or t m nan) (get_or t (m + low) nan) i ≡ get_or t (m + low * (i % 2)) nan
alternating_pick t m low i = go (mod_two i)
  where
    go : ((i % 2 ≡ 0) ⊎ (i % 2 ≡ 1)) → alternating (get_or t m nan) (get_or t (m + low) nan) i ≡ get_or t (m + low * (i % 2)) nan
    go (inl z) = let e : m + low * 0 ≡ m = omega arith in rw (alternating_even _ _ i z, z, e)
    go (inr z) = let e : m + low * 1 ≡ m + low = omega arith in rw (alternating-odd _ _ i z, z, e)

module _ (ep sem em sep : Float) (p q a b : ℕ → Float) where
  pub rule_even : (j k : ℕ) → j ≡ 2 * k → forward_rule ep sem em sep p q a b j ≡ blend ep sem (p k) (a k) (b k)
  unfolding forward_rule
  rule_even j k h =
      let r : j / 1 % 2 ≡ 0 = omega arith in
      let s : j / 2 ≡ k = omega arith in
      rw (r, s)

  pub rule-odd : (j k : ℕ) → j ≡ 2 * k + 1 → forward_rule ep sem em sep p q a b j ≡ blend em sep (q k) (a k) (b k)
  unfolding forward_rule
  rule-odd j k h =
      let r : j / 1 % 2 ≡ 1 = omega arith in
      let s : j / 2 ≡ k = omega arith in
      rw (r, s)

  -- the rule from place 2 k on is the rule over the weights and entries from k on
  pub rule-from : (p' q' a' b' : ℕ → Float) (k n j : ℕ) → j < 2 * n → ((i : ℕ) → i < n → p' i ≡ p (k + i)) → ((i : ℕ) → i < n → q' i ≡ q (k + i))
      → ((i : ℕ) → i < n → a' i ≡ a (k + i)) → ((i : ℕ) → i < n → b' i ≡ b (k + i))
      → forward_rule ep sem em sep p' q' a' b' j ≡ forward_rule ep sem em sep p q a b (2 * k + j)
  unfolding forward_rule
  rule-from p' q' a' b' k n j h ep eq ea eb =
      let r : (2 * k + j) / 1 % 2 ≡ j / 1 % 2 = omega arith in
      let s : (2 * k + j) / 2 ≡ k + j / 2 = omega arith in
      let l : j / 2 < n = omega arith in
      rw (r, s, ep (j / 2) l, eq (j / 2) l, ea (j / 2) l, eb (j / 2) l)
