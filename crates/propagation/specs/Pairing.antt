-- Which pairs of the order are answered together.
use Rattle.std.specs.Prelude.{◌≡◌, true, List, ◌⊎◌, ℕ, ◌+◌, ◌-◌, ◌≤◌, ◌<◌, length, get_or}
use Rattle.transfer_matrix.specs.Room.{earlier, later, is_propagated}
use Rattle.propagation.specs.declared.together.Pairing.{Pairing}

-- The first `directs` pairs of the order are direct, and the others propagated.
pub record Directs (us vs order : List ℕ) (w directs : ℕ) : Type 0 where
  pub inside : directs ≤ length order
  pub near : (k : ℕ) → k < directs → later us vs (get_or order k 0) - earlier us vs (get_or order k 0) < w
  pub far : (k : ℕ) → directs ≤ k → k < length order → is_propagated w us vs (get_or order k 0) ≡ true

-- Number k of the order is answered: of the direct pairs the first `direct`, of the others those below `other`.
abbrev pub Done : (directs direct other k : ℕ) → Type 0
Done directs direct other k = (k < direct) ⊎ ((directs ≤ k) × (k < other))

-- A pairing goes on: it takes what was not answered, and the second of its pairs is the first or a direct one.
pub record NextPairing (directs all direct other : ℕ) (t : Pairing) : Type 0 where
  pub first : t.first < all
  pub second : t.second < all
  pub first_new : direct ≤ t.first
  pub second_new : direct ≤ t.second
  pub on : direct ≤ t.direct
  pub paired : (t.second ≡ t.first) ⊎ (t.second < directs)
  pub below : t.direct ≤ directs
  pub behind : directs ≤ t.other
  pub inside : t.other ≤ all
  pub more : direct + other < t.direct + t.other
  pub covered : (k : ℕ) → Done directs t.direct t.other k → Done directs direct other k ⊎ ((k ≡ t.first) ⊎ (k ≡ t.second))
