-- The pairings that take all pairs, and the pairs at the front of the order that are direct.
use mathlib.Core.Path.{◌≡◌, refl}
use mathlib.Core.Bool.{false, not, true≢false}
use mathlib.Core.List.{List}
use mathlib.Core.Logic.{◌⊎◌, inl, inr, dite}
use Prim.Native.Nat.{ℕ, ◌+◌, ◌-◌, ◌≤◌, ◌<◌}
use native.Mathlib.Decide.{dec_lt, ℕ_discrete}
use native.Mathlib.Omega.{arith}
use lib.Dec.{ltb}
use lib.ListN.{get_or}
use borrow.Author.Tests.{le-ltb}
use Rattle.transfer_matrix.specs.Room.{earlier, later}
use Rattle.propagation.specs.Pairing.{Done, NextPairing}

module _ (directs all direct other : ℕ) (below : direct ≤ directs) (behind : directs ≤ other) (inside : other ≤ all) where
  -- a pair that is not direct, and one that is
  pub both-kinds : other < all → direct < directs
      → NextPairing directs all direct other (record { first = other; second = direct; direct = direct + 1; other = other + 1 })
  both-kinds a b =
      record {
        first = a;
        second = omega arith;
        first_new = omega arith;
        second_new = omega arith;
        on = omega arith;
        paired = inr b;
        below = omega arith;
        behind = omega arith;
        inside = omega arith;
        more = omega arith;
        covered = go;
      }
    where
      go : (k : ℕ) → Done directs (direct + 1) (other + 1) k → Done directs direct other k ⊎ ((k ≡ other) ⊎ (k ≡ direct))
      go k (inl l) = dite (dec_lt k direct) (λ m. inl (inl m)) (λ m. inr (inr (omega arith)))
      go k (inr l) = dite (dec_lt k other) (λ m. inl (inr (l.0, m))) (λ m. inr (inl (omega (arith, l.1))))

  -- one alone
  pub other-alone : other < all → (direct < directs → ⊥)
      → NextPairing directs all direct other (record { first = other; second = other; direct = direct; other = other + 1 })
  other-alone a b =
      record {
        first = a;
        second = a;
        first_new = omega arith;
        second_new = omega arith;
        on = omega arith;
        paired = inl refl;
        below = below;
        behind = omega arith;
        inside = omega arith;
        more = omega arith;
        covered = go;
      }
    where
      go : (k : ℕ) → Done directs direct (other + 1) k → Done directs direct other k ⊎ ((k ≡ other) ⊎ (k ≡ other))
      go k (inl l) = inl (inl l)
      go k (inr l) = dite (dec_lt k other) (λ m. inl (inr (l.0, m))) (λ m. inr (inl (omega (arith, l.1))))

  pub direct-alone : direct < directs
      → NextPairing directs all direct other (record { first = direct; second = direct; direct = direct + 1; other = other })
  direct-alone a =
      record {
        first = omega arith;
        second = omega arith;
        first_new = omega arith;
        second_new = omega arith;
        on = omega arith;
        paired = inl refl;
        below = omega arith;
        behind = behind;
        inside = inside;
        more = omega arith;
        covered = go;
      }
    where
      go : (k : ℕ) → Done directs (direct + 1) other k → Done directs direct other k ⊎ ((k ≡ direct) ⊎ (k ≡ direct))
      go k (inl l) = dite (dec_lt k direct) (λ m. inl (inl m)) (λ m. inr (inl (omega arith)))
      go k (inr l) = inl (inr l)

  -- two direct ones
  pub both-direct : direct + 1 < directs
      → NextPairing directs all direct other (record { first = direct; second = direct + 1; direct = direct + 2; other = other })
  both-direct a =
      record {
        first = omega arith;
        second = omega arith;
        first_new = omega arith;
        second_new = omega arith;
        on = omega arith;
        paired = inr a;
        below = omega arith;
        behind = behind;
        inside = inside;
        more = omega arith;
        covered = go;
      }
    where
      go : (k : ℕ) → Done directs (direct + 2) other k → Done directs direct other k ⊎ ((k ≡ direct) ⊎ (k ≡ direct + 1))
      go k (inl l) =
          dite (dec_lt k direct) (λ m. inl (inl m))
          (λ m. dite (dec_lt k (direct + 1)) (λ s. inr (inl (omega arith))) (λ s. inr (inr (omega arith))))
      go k (inr l) = inl (inr l)

-- ---- the direct pairs at the front

-- the first k are direct
abbrev pub Front : (us vs order : List ℕ) (w k : ℕ) → Type 0
Front us vs order w k = (j : ℕ) → j < k → later us vs (get_or order j 0) - earlier us vs (get_or order j 0) < w

pub front-more : (us vs order : List ℕ) (w k : ℕ) → Front us vs order w k
    → not (ltb (later us vs (get_or order k 0) - earlier us vs (get_or order k 0)) w) ≡ false → Front us vs order w (k + 1)
front-more us vs order w k g e j l = go (ℕ_discrete j k)
  where
    near : later us vs (get_or order k 0) - earlier us vs (get_or order k 0) < w
    near =
        dite (dec_lt (later us vs (get_or order k 0) - earlier us vs (get_or order k 0)) w) (λ m. m)
        (λ m. absurd (true≢false (rw (le-ltb (later us vs (get_or order k 0) - earlier us vs (get_or order k 0)) w (omega arith)) at e)))

    go : Dec (j ≡ k) → later us vs (get_or order j 0) - earlier us vs (get_or order j 0) < w
    go (yes x) = rw x near
    go (no x) = g j (omega arith)
