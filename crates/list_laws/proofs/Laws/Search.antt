-- Laws of what specs/Search defines.
use Rattle.std.specs.Prelude.{◌≡◌, Bool, ◌||◌}
use Rattle.std.proofs.Math.Path.{refl}
use Rattle.std.proofs.Common.{sym, ◌∙◌, add-one, arith}
use Rattle.std.proofs.Math.Bool.{true, false}
use Prim.Native.Nat.{ℕ, zero, suc, ◌+◌, ◌≤◌, ◌<◌}
use Rattle.std.proofs.Math.Decide.{ℕ_discrete}
use Rattle.list_laws.specs.Search.{some}

or-true : (a : Bool) → (a || true) ≡ true
or-true true = refl
or-true false = refl

pub or-false : (a b : Bool) → (a || b) ≡ false → (a ≡ false) × (b ≡ false)
or-false true b h = absurd (let z : ◌≡◌ {A = ℕ} 0 1 = cc in omega arith)
or-false false b h = (refl, h)

module _ (test : ℕ → Bool) where
  pub some_at : (n i : ℕ) → i < n → test i ≡ true → some test n ≡ true
  unfolding some
  some_at zero i h e = absurd (omega arith)
  some_at (suc n) i h e = go (some_at n i) (ℕ_discrete i n)
    where
      go : (i < n → test i ≡ true → some test n ≡ true) → Dec (i ≡ n) → (some test n || test n) ≡ true
      go ih (yes q) = rw (← q, e) (or-true (some test i))
      go ih (no m) = rw (ih (omega arith) e)

  pub none-at : (n i : ℕ) → i < n → some test n ≡ false → test i ≡ false
  unfolding some
  none-at zero i h e = absurd (omega arith)
  none-at (suc n) i h e = go (none-at n i) (ℕ_discrete i n)
    where
      go : (i < n → some test n ≡ false → test i ≡ false) → Dec (i ≡ n) → test i ≡ false
      go ih (yes q) = rw q (or-false (some test n) (test n) e).1
      go ih (no m) = ih (omega arith) (or-false (some test n) (test n) e).0

  pub none_of : (n : ℕ) → ((i : ℕ) → i < n → test i ≡ false) → some test n ≡ false
  unfolding some
  none_of zero h = refl
  none_of (suc n) h = rw (none_of n (λ i l. h i (omega arith)), h n (omega arith))

  -- ---- a loop over the indexes: r is what the test's function answered at i

  pub start : some test 0 ≡ false
  unfolding some
  start = refl

  pub hit : (n i : ℕ) → i < n → (r : Bool) → r ≡ test i → r ≡ true → true ≡ some test n
  hit n i h r p q = sym (some_at n i h (sym p ∙ q))

  pub miss : (i : ℕ) → some test i ≡ false → (r : Bool) → r ≡ test i → r ≡ false → some test (i + 1) ≡ false
  unfolding some
  miss i so r p q = rw (add-one, so) (sym p ∙ q)

  pub none : (n i : ℕ) → some test i ≡ false → n ≤ i → i ≤ n → false ≡ some test n
  none n i so l m = let e : i ≡ n = omega arith in sym (rw e at so)
