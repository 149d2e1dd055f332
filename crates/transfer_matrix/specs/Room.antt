-- Which vectors a call keeps for its pairs, and the work memory that it needs. Pairs come as two lists of ends, in either order.
use Rattle.std.specs.Prelude.{Bool, true, cond, not, ◌&&◌, ◌||◌, List, ℕ, ◌+◌, ◌*◌, ◌-◌, ◌^◌, min, max, ltb, eqb, length, get_or}
use Rattle.list_laws.specs.Count.{count}
use Rattle.list_laws.specs.Search.{some}

-- The earlier and the later vertex of pair i.
abbrev pub earlier : List ℕ → List ℕ → ℕ → ℕ
earlier us vs i = min (get_or us i 0) (get_or vs i 0)

abbrev pub later : List ℕ → List ℕ → ℕ → ℕ
later us vs i = max (get_or us i 0) (get_or vs i 0)

-- A pair nearer than the window is direct; at the window or farther it is propagated.
abbrev pub is_propagated : ℕ → List ℕ → List ℕ → ℕ → Bool
is_propagated w us vs i = not (ltb (later us vs i - earlier us vs i) w)

-- How a call is arranged: every pair is answered when both sweeps have passed, from kept vectors; or direct pairs as the backward sweep passes their later
-- vertex, which takes less room.
pub data Arrangement : Type 0 where
  keep_all less_room : Arrangement

-- The one or the other, by whether it takes less room.
abbrev pub arranged : Bool → Arrangement
arranged less = cond less less_room keep_all

-- Whether pair i waits for both sweeps: every pair, or propagated ones alone.
abbrev pub waits : Arrangement → ℕ → List ℕ → List ℕ → ℕ → Bool
waits keep_all w us vs i = true
waits less_room w us vs i = is_propagated w us vs i

-- Backward vectors are kept for later vertices of pairs that wait.
unfoldable pub keeps_backward : Arrangement → ℕ → List ℕ → List ℕ → ℕ → Bool
unfolding some
keeps_backward arrangement w us vs t = some (λ i. eqb (later us vs i) t && waits arrangement w us vs i) (length us)

-- Forward vectors are kept for later vertices and for earlier ones of propagated pairs.
unfoldable pub keeps_forward : ℕ → List ℕ → List ℕ → ℕ → Bool
unfolding some
keeps_forward w us vs t = some (λ i. eqb (later us vs i) t || (eqb (earlier us vs i) t && is_propagated w us vs i)) (length us)

-- In doubles: 2 ^ window times (2 + vertices whose forward vector is kept + vertices whose backward vector is kept) + vertices + kept edges.
unfoldable pub room : Arrangement → (vertices window keptEdges : ℕ) → List ℕ → List ℕ → ℕ
unfolding count keeps_forward keeps_backward
room arrangement n w m us vs = 2 ^ w * (2 + count (keeps_forward w us vs) n + count (keeps_backward arrangement w us vs) n) + n + m
