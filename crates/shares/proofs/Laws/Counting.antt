-- Counts: one index more, a run behind another, and three tests of which one passes.
use Rattle.std.specs.Prelude.{◌≡◌, Bool, ◌||◌}
use Rattle.std.proofs.Math.Path.{refl}
use Rattle.std.proofs.Math.Bool.{true, false, cond}
use Prim.Native.Nat.{ℕ, zero, suc, ◌+◌, ◌≤◌, ◌<◌}
use Rattle.std.proofs.Common.{add-zero, add-suc, add-one, arith}
use Rattle.list_laws.specs.Count.{count}
use Rattle.list_laws.specs.Search.{some}
use Rattle.list_laws.proofs.Laws.Search.{or-false}
use Rattle.list_laws.proofs.Laws.Count.{count_most}

module _ (test : ℕ → Bool) where
  -- a loop's turn without a branch: y is 1 where index i passes, else 0
  pub count_turn : (i x y : ℕ) → x ≡ count test i → y ≡ cond (test i) 1 0 → x + y ≡ count test (i + 1)
  unfolding count
  count_turn i x y p q = rw (add-one, p, q)

  pub turn_most : (i x y : ℕ) → x ≡ count test i → y ≡ cond (test i) 1 0 → x + y ≤ i + 1
  turn_most i x y p q = omega (arith, count_turn i x y p q, count_most test (i + 1))

  pub count_run : (m n : ℕ) → count test (m + n) ≡ count test m + count (λ i. test (m + i)) n
  unfolding count
  count_run m zero = rw (add-zero m) (omega arith)
  count_run m (suc n) = rw (add-suc, count_run m n) (omega arith)

-- where one of three tests passes at each index, their counts add up to all
pub count-three : (a b c : ℕ → Bool) (n : ℕ) → ((i : ℕ) → i < n → cond (a i) 1 0 + cond (b i) 1 0 + cond (c i) 1 0 ≡ 1)
    → count a n + count b n + count c n ≡ n
unfolding count
count-three a b c zero h = refl
count-three a b c (suc n) h = omega (arith, count-three a b c n (λ i l. h i (omega arith)), h n (omega arith))

-- nothing passes where nothing is counted, and something where something is
module _ (test : ℕ → Bool) where
  pub count_none : (n : ℕ) → count test n ≡ 0 → some test n ≡ false
  unfolding count some
  count_none zero h = refl
  count_none (suc n) h = go (test n) (count_none n) h
    where
      go : (b : Bool) → (count test n ≡ 0 → some test n ≡ false) → count test n + cond b 1 0 ≡ 0 → (some test n || b) ≡ false
      go true ih h = absurd (omega arith)
      go false ih h = rw (ih (omega arith))

  none-counted : (n : ℕ) → some test n ≡ false → count test n ≡ 0
  unfolding count some
  none-counted zero h = refl
  none-counted (suc n) h = let (p, q) = or-false (some test n) (test n) h in rw (none-counted n p, q)

  pub count-some : (n : ℕ) → (count test n ≡ 0 → ⊥) → some test n ≡ true
  count-some n h = go (some test n) (none-counted n)
    where
      go : (b : Bool) → (b ≡ false → count test n ≡ 0) → b ≡ true
      go true k = refl
      go false k = absurd (h (k refl))
