-- A vector that is kept is kept for a pair.
use Rattle.std.specs.Prelude.{◌≡◌, refl, Bool, true, false, ◌&&◌, ◌||◌, List, ℕ, zero, suc, ◌≤◌, ◌<◌, length, get_or}
use Rattle.std.proofs.Math.Nat.{le_trans, min-le_left, le-max_left}
use Rattle.std.proofs.Common.{arith}
use Rattle.std.proofs.Math.Dec.{eqb}
use borrow.Author.Tests.{eqb-true}
use Rattle.list_laws.specs.Search.{some}
use Rattle.transfer_matrix.specs.Room.{earlier, later, is_propagated, Arrangement, waits, keeps_forward, keeps_backward}

either : {Q : Type 0} (a b : Bool) → (a ≡ true → Q) → (b ≡ true → Q) → (a || b) ≡ true → Q
either true b p q e = p refl
either false b p q e = q e

first_true : (a b : Bool) → (a && b) ≡ true → a ≡ true
first_true true b e = refl
first_true false b e = e

-- an index that passes
found : {Q : Type 0} (test : ℕ → Bool) (n : ℕ) → ((i : ℕ) → i < n → test i ≡ true → Q) → some test n ≡ true → Q
unfolding some
found test zero k e = let f : false ≡ true = e in absurd (let z : ◌≡◌ {A = ℕ} 0 1 = cc in omega arith)
found test (suc n) k e = either (some test n) (test n) (λ h. found test n (λ i l. k i (omega arith)) h) (k n (omega arith)) e

module _ {Q : Type 0} (w : ℕ) (us vs : List ℕ) (t : ℕ) where
  -- a forward vector for one whose later vertex is not before t
  pub forward_for : ((i : ℕ) → i < length us → t ≤ later us vs i → Q) → keeps_forward w us vs t ≡ true → Q
  unfolding keeps_forward
  forward_for k =
      found (λ i. eqb (later us vs i) t || (eqb (earlier us vs i) t && is_propagated w us vs i)) (length us)
      (λ i l e.
      let order : earlier us vs i ≤ later us vs i = le_trans (min-le_left (get_or us i 0) (get_or vs i 0)) (le-max_left (get_or us i 0) (get_or vs i 0)) in
      k i l
      (either (eqb (later us vs i) t) (eqb (earlier us vs i) t && is_propagated w us vs i)
      (λ h. omega (arith, eqb-true (later us vs i) t h))
      (λ h. omega (arith, eqb-true (earlier us vs i) t (first_true (eqb (earlier us vs i) t) (is_propagated w us vs i) h))) e))

  -- a backward one for one whose later vertex is t
  pub backward_for : (arrangement : Arrangement) → ((i : ℕ) → i < length us → later us vs i ≡ t → Q) → keeps_backward arrangement w us vs t ≡ true → Q
  unfolding keeps_backward
  backward_for arrangement k =
      found (λ i. eqb (later us vs i) t && waits arrangement w us vs i) (length us)
      (λ i l e. k i l (eqb-true (later us vs i) t (first_true (eqb (later us vs i) t) (waits arrangement w us vs i) e)))
