-- The places of a room: place p holds the vector of the 2 ^ w numbers from p * 2 ^ w on.
use Rattle.std.specs.Prelude.{◌≡◌, List, ℕ, ◌+◌, ◌*◌, ◌^◌, ◌≤◌, Float}
use Rattle.list_laws.specs.Part.{part, put}

-- the vector at place p
abbrev pub held : List Float → ℕ → ℕ → List Float
held r w p = part r (p * 2 ^ w) (2 ^ w)

-- the room r with the vector v at place p
abbrev pub hold : List Float → ℕ → ℕ → List Float → List Float
hold r w p v = put r (p * 2 ^ w) v

-- place p of a room of len numbers, the window being from 1 to 24
pub record Place (len w p : ℕ) : Type 0 where
  pub wide : 1 ≤ w
  pub narrow : w ≤ 24
  pub inside : p * 2 ^ w + 2 ^ w ≤ len

-- two places of it
pub record Places (len w src dst : ℕ) : Type 0 where
  pub from : Place len w src
  pub to : Place len w dst
  pub other : src ≡ dst → ⊥
