-- The weights that a run takes alternately are those of its places.
use Rattle.std.specs.Prelude.{◌≡◌, List, ℕ, zero, suc, ◌+◌, ◌*◌, ◌/◌, ◌%◌, ◌^◌, ◌≤◌, ◌<◌, get_or, Float}
use Rattle.std.proofs.Common.{◌∙◌, pow-add}
use native.Mathlib.Omega.{arith}
use Rattle.std.specs.Float.{nan}
use Rattle.step_tables.specs.Step.{pattern_by}
use Rattle.step_tables.specs.Rule.{weights, alternating}
use Rattle.step_tables.proofs.Laws.Rules.{alternating_pick}
use Rattle.step_runs.specs.Rule.{Sparse, in_four}
use Rattle.step_runs.proofs.Laws.Patterns.{pattern_add, pattern_zero, pattern-one, pattern-two}

-- a bit x of k, times c
digit : (l : List ℕ) (n c x : ℕ) → x < 2 → pattern_by l n (x * c) ≡ pattern_by l n c * x
digit l n c zero h = let e : 0 * c ≡ 0 = omega arith in rw e (pattern_zero l n ∙ omega arith)
digit l n c (suc zero) h = let e : 1 * c ≡ c = omega arith in rw e (omega arith)
digit l n c (suc (suc x)) h = absurd (omega arith)

-- a run of the first step
module _ {l : List ℕ} {n e k m : ℕ} (number one : ℕ) (s : Sparse l n 1 e) (some : 1 ≤ e) (begins : k ≡ number * 2 ^ e)
    (at : m ≡ pattern_by l n k) (odd : one ≡ pattern_by l n 1) where
  pub run_one : (i : ℕ) → i < 2 ^ e → pattern_by l n (k + i) ≡ m + one * (i % 2)
  run_one i b =
      let c : i % 2 * 1 ≡ i % 2 = omega arith in
      let y : pattern_by l n (i % 2) ≡ pattern_by l n 1 * (i % 2) = rw c at (digit l n 1 (i % 2) (omega arith)) in
      rw (at, odd, begins) (pattern_add l n number e i b ∙ rw (pattern-one i s some b, y))

  pub pick_lower : (table : List Float) (i : ℕ) → i < 2 ^ e → alternating (get_or table m nan) (get_or table (m + one) nan) i ≡ weights l n table (k + i)
  pick_lower table i b = rw (alternating_pick table m one i, run_one i b)

-- a run of the second step
module _ {l : List ℕ} {n e k m : ℕ} (number low two : ℕ) (s : Sparse l n 2 (e + 1)) (some : 1 ≤ e) (begins : k ≡ number * 2 ^ e)
    (at : m ≡ pattern_by l n (2 * k)) (odd : low ≡ pattern_by l n 1) (high : two ≡ pattern_by l n 2) where
  pub run_two : (j : ℕ) → j < 2 * 2 ^ e → pattern_by l n (2 * k + j) ≡ m + two * (j / 2 % 2) + low * (j % 2)
  run_two j b =
      let p : 2 ^ (e + 1) ≡ 2 * 2 ^ e = rw (pow-add 2 e 1) (omega arith) in
      let q : 2 * k ≡ number * 2 ^ (e + 1) = rw (p, begins) (omega arith) in
      let r : j % 4 ≡ j / 2 % 2 * 2 + j % 2 = omega arith in
      let c : j % 2 * 1 ≡ j % 2 = omega arith in
      let x = digit l n 2 (j / 2 % 2) (omega arith) in
      let y : pattern_by l n (j % 2) ≡ pattern_by l n 1 * (j % 2) = rw c at (digit l n 1 (j % 2) (omega arith)) in
      rw (at, odd, high, q)
      (pattern_add l n number (e + 1) j (omega arith)
      ∙ rw (pattern-two j s (omega arith) (omega arith), r, pattern_add l n (j / 2 % 2) 1 (j % 2) (omega arith)) (omega arith))

  pub pick_two : (table : List Float) (j : ℕ) → j < 2 * 2 ^ e
      → in_four (get_or table m nan) (get_or table (m + low) nan) (get_or table (m + two) nan) (get_or table (m + low + two) nan) j
      ≡ weights l n table (2 * k + j)
  unfolding in_four
  pick_two table j b =
      let c : m + low + two * (j / 2 % 2) ≡ m + two * (j / 2 % 2) + low = omega arith in
      rw (alternating_pick table m two (j / 2), alternating_pick table (m + low) two (j / 2), c, alternating_pick table (m + two * (j / 2 % 2)) low j, run_two j b)
