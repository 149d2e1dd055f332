-- Laws of what specs/Count defines.
use Rattle.std.specs.Prelude.{◌≡◌, Bool}
use Rattle.std.proofs.Math.Path.{refl}
use Rattle.std.proofs.Math.Bool.{true, false, cond, not}
use Prim.Native.Nat.{ℕ, zero, suc, ◌+◌, ◌≤◌, ◌<◌}
use Rattle.std.proofs.Common.{add-one}
use native.Mathlib.Omega.{arith}
use Rattle.list_laws.specs.Count.{count}

module _ (test : ℕ → Bool) where
  pub count_zero : count test 0 ≡ 0
  unfolding count
  count_zero = refl

  -- one index more, as a loop counts it
  pub count_hit : (i : ℕ) → test i ≡ true → count test (i + 1) ≡ count test i + 1
  unfolding count
  count_hit i e = rw (add-one, e)

  pub count_miss : (i : ℕ) → test i ≡ false → count test (i + 1) ≡ count test i
  unfolding count
  count_miss i e = rw (add-one, e) (omega arith)

  pub count_most : (n : ℕ) → count test n ≤ n
  unfolding count
  count_most zero = omega arith
  count_most (suc n) = go (test n) (count_most n)
    where
      go : (b : Bool) → count test n ≤ n → count test n + cond b 1 0 ≤ suc n
      go true h = omega arith
      go false h = omega arith

  -- those that pass and those that do not are all
  pub count-both : (n : ℕ) → count test n + count (λ i. not (test i)) n ≡ n
  unfolding count
  count-both zero = refl
  count-both (suc n) = go (test n) (count-both n)
    where
      go : (b : Bool) → count test n + count (λ i. not (test i)) n ≡ n
          → count test n + cond b 1 0 + (count (λ i. not (test i)) n + cond (not b) 1 0) ≡ suc n
      go true h = omega arith
      go false h = omega arith

-- tests that agree below n count the same
pub count_ext : (s t : ℕ → Bool) (n : ℕ) → ((i : ℕ) → i < n → s i ≡ t i) → count s n ≡ count t n
unfolding count
count_ext s t zero h = refl
count_ext s t (suc n) h = rw (count_ext s t n (λ i l. h i (omega arith)), h n (omega arith))

-- what no test beyond n passes adds nothing
pub count_past : (test : ℕ → Bool) (n d : ℕ) → ((i : ℕ) → n ≤ i → test i ≡ false) → count test (n + d) ≡ count test n
count_past test n zero h = let e : n + 0 ≡ n = omega arith in rw e
count_past test n (suc d) h =
    let e : n + suc d ≡ n + d + 1 = omega arith in
    rw (e, count_miss test (n + d) (h (n + d) (omega arith))) (count_past test n d h)
