-- A job that a plan can be made of.
use Rattle.std.specs.Prelude.{◌≡◌, false, List, ℕ, ◌≤◌, ◌<◌, length, get_or}
use Rattle.transfer_matrix.specs.Job.{too_many_near}
use Rattle.transfer_matrix.specs.Configuration.{numbered}
use Rattle.transfer_matrix.specs.Room.{Arrangement, room}
use Rattle.plan_steps.specs.Edges.{Edges}
use Rattle.pair_places.specs.Places.{Pairs}

-- n vertices, window w, the kept edges, the pairs, and work memory for the room
pub record Plannable (arrangement : Arrangement) (n w : ℕ) (early late us vs : List ℕ) (work : ℕ) : Type 0 where
  pub some : 1 ≤ n
  pub edges : Edges early late n w
  pub few-edges : length early ≤ 4096
  pub few-near : too_many_near n w (numbered early late) ≡ false
  pub pairs : Pairs us vs n
  pub distinct : (i : ℕ) → i < length us → get_or us i 0 ≡ get_or vs i 0 → ⊥
  pub few-pairs : length us ≤ 256
  pub roomy : room arrangement n w (length early) us vs ≤ work
