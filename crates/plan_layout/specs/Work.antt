-- How the work memory is laid out: the places, a vector each, then the scales of the vertices, then the factors of the edges.
use Rattle.std.specs.Prelude.{◌≡◌, List, ℕ, ◌+◌, ◌*◌, ◌^◌, length}
use Rattle.transfer_matrix.specs.Room.{Arrangement, room}
use Rattle.plan_steps.specs.Edges.{Steps}
use Rattle.pair_places.specs.Places.{places_of, Places}

-- where the scales and the factors begin, and where all ends: n vertices, window w, m edges
pub record Laid (n w m places scales factors end : ℕ) : Type 0 where
  pub scales-at : scales ≡ places * 2 ^ w
  pub factors-at : factors ≡ scales + n
  pub ends : end ≡ factors + m

-- the plan of a job and its pairs, and the layout of the work memory that goes with it
pub record Planned (arrangement : Arrangement) (plan early late us vs : List ℕ) (n w places scales factors end : ℕ) : Type 0 where
  pub steps : Steps plan early late n w
  pub kept : Places arrangement plan us vs n w
  pub count-is : places ≡ places_of arrangement n w us vs
  pub laid : Laid n w (length early) places scales factors end
  pub ends : end ≡ room arrangement n w (length early) us vs
