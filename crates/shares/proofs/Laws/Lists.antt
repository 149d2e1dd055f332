-- Lists end to end: where they start, how many entries they have, and what good lists are.
use Rattle.std.specs.Prelude.{◌≡◌, false, not, ◌||◌, List, eqb, ltb, length, get_or}
use Rattle.std.proofs.Math.Path.{refl}
use Prim.Native.Nat.{ℕ, zero, suc, ◌+◌, ◌*◌, ◌≤◌, ◌<◌}
use Rattle.std.proofs.Common.{add-one, eqb-true, ltb-false}
use native.Mathlib.Omega.{arith}
use Rattle.std.proofs.lemmas.Bool.{eqb-false, not-false}
use Rattle.list_laws.specs.Search.{some}
use Rattle.list_laws.proofs.Laws.Search.{or-false, none-at}
use Rattle.shares.specs.Shares.{most_lists, most_entries, bad_length, start_of, bad_lists}

module _ (lengths : List ℕ) where
  pub start_zero : start_of lengths 0 ≡ 0
  unfolding start_of
  start_zero = refl

  pub start_turn : (k total : ℕ) → total ≡ start_of lengths k → total + get_or lengths k 0 ≡ start_of lengths (k + 1)
  unfolding start_of
  start_turn k total e = rw (add-one, e)

pub good_length : (n : ℕ) → bad_length n ≡ false → (0 < n) × (n ≤ most_entries)
good_length n h =
    let (p, q) = or-false (eqb n 0) (ltb most_entries n) h in
    let z = eqb-false n 0 p in
    (omega arith, ltb-false most_entries n q)

module _ (lengths : List ℕ) where
  -- lists of which none is empty have an entry each at least
  at_least : (n : ℕ) → ((k : ℕ) → k < n → 0 < get_or lengths k 0) → n ≤ start_of lengths n
  unfolding start_of
  at_least zero h = omega arith
  at_least (suc n) h = omega (arith, at_least n (λ k l. h k (omega arith)), h n (omega arith))

  at-most : (n m : ℕ) → ((k : ℕ) → k < n → get_or lengths k 0 ≤ m) → start_of lengths n ≤ n * m
  unfolding start_of
  at-most zero m h = omega arith
  at-most (suc n) m h = omega (arith, at-most n m (λ k l. h k (omega arith)), h n (omega arith))

  module _ (lent : ℕ) (g : bad_lists lengths lent ≡ false) where
    passed : (length lengths ≡ 0 → ⊥) × (length lengths ≤ most_lists) × (some (λ k. bad_length (get_or lengths k 0)) (length lengths) ≡ false)
        × (start_of lengths (length lengths) ≡ lent)
    passed =
        let none = eqb (length lengths) 0 in
        let many = ltb most_lists (length lengths) in
        let wrong = some (λ k. bad_length (get_or lengths k 0)) (length lengths) in
        let (r, d) = or-false (none || many || wrong) (not (eqb (start_of lengths (length lengths)) lent)) g in
        let (q, c) = or-false (none || many) wrong r in
        let (a, b) = or-false none many q in
        (eqb-false (length lengths) 0 a, ltb-false most_lists (length lengths) b, c, eqb-true (start_of lengths (length lengths)) lent (not-false _ d))

    each : (k : ℕ) → k < length lengths → (0 < get_or lengths k 0) × (get_or lengths k 0 ≤ most_entries)
    each k l = good_length (get_or lengths k 0) (none-at _ (length lengths) k l passed.2)

    pub adds_up : start_of lengths (length lengths) ≡ lent
    adds_up = passed.3

    -- there is an entry, and there are not too many
    pub some-entries : 0 < lent
    some-entries = let n = passed.0 in omega (arith, at_least (length lengths) (λ k l. (each k l).0), passed.3)

    pub few-entries : lent ≤ most_lists * most_entries
    few-entries = omega (arith, at-most (length lengths) most_entries (λ k l. (each k l).1), passed.1, passed.3)
