-- Laws of what specs/Work defines.
use Rattle.std.specs.Prelude.{◌≡◌, List, ℕ, ◌+◌, ◌*◌, ◌^◌, ◌≤◌, ◌<◌}
use Rattle.std.proofs.Common.{mul_comm, suc-mul, mul-le-mul_right, arith}
use Rattle.transfer_matrix.specs.Room.{Arrangement, room}
use Rattle.pair_places.specs.Places.{places_of}
use Rattle.plan_layout.specs.Work.{Laid}

-- each place lies before the scales
pub place-fits : (n w m places scales factors end p : ℕ) → Laid n w m places scales factors end → p < places → p * 2 ^ w + 2 ^ w ≤ scales
place-fits n w m places scales factors end p g b = omega (arith, g.scales-at, mul-le-mul_right (2 ^ w) b, suc-mul p (2 ^ w))

-- the end is the room of the definition
pub room-is : (A : Arrangement) (n w m : ℕ) (us vs : List ℕ) (scales factors end : ℕ) → Laid n w m (places_of A n w us vs) scales factors end → end ≡ room A n w m us vs
unfolding room
room-is A n w m us vs scales factors end g =
    omega (arith, g.scales-at, g.factors-at, g.ends, mul_comm (places_of A n w us vs) (2 ^ w))
