-- The sums of a pair, and where they are read.
use Rattle.std.specs.Prelude.{◌≡◌, List, ℕ, ◌+◌, ◌*◌, ◌^◌, ◌≤◌, ◌<◌, Float}
use Rattle.transfer_matrix.specs.Arithmetic.{sum, signed_sum}
use Rattle.transfer_matrix.specs.Rounded.{ieee}
use Rattle.step_tables.specs.Place.{Place}
use Rattle.step_tables.specs.Rule.{entries}
use Rattle.pair_sums.specs.declared.sums.Source.{Source}
use Rattle.pair_sums.specs.declared.sums.Sums.{Sums}
use Rattle.pair_sums.specs.Terms.{half_at, terms, signs}

-- k entries from each place on lie in a list of len numbers
pub record Within (len k : ℕ) (at : Source) : Type 0 where
  pub forward : at.f + k ≤ len
  pub other : at.g + k ≤ len
  pub backward : at.b + k ≤ len
  pub some : 1 ≤ at.d
  pub small : at.d < 64

-- s has taken the first k terms of the sums, the halves beginning at f, g and b of the list v
pub record Summed (v : List Float) (at : Source) (w k : ℕ) (s : Sums) : Type 0 where
  pub z_is : s.z ≡ sum ieee k (terms w (entries v at.f) (entries v at.b))
  pub n-is : s.n ≡ signed_sum ieee k (signs w at.d) (terms w (entries v at.g) (entries v at.b))

-- The halves lie at places of a room of len numbers.
pub record Sourced (len w : ℕ) (s : Source) : Type 0 where
  pub forward : Place len w s.f
  pub other : Place len w s.g
  pub backward : Place len w s.b
  pub some : 1 ≤ s.d
  pub small : s.d < 64

-- x is where the halves of s begin.
pub record Begun (w : ℕ) (s x : Source) : Type 0 where
  pub forward : x.f ≡ s.f * 2 ^ w
  pub other : x.g ≡ s.g * 2 ^ w
  pub backward : x.b ≡ s.b * 2 ^ w
  pub bit : x.d ≡ s.d

-- The sums of the vectors whose halves lie at the places f and b, and g and b.
pub record SumsOf (r : List Float) (w : ℕ) (s : Source) (t : Sums) : Type 0 where
  pub z_is : t.z ≡ sum ieee (2 ^ w) (terms w (half_at r w s.f) (half_at r w s.b))
  pub n-is : t.n ≡ signed_sum ieee (2 ^ w) (signs w s.d) (terms w (half_at r w s.g) (half_at r w s.b))
