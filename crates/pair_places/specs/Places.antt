-- The places of the kept vectors: behind those of the vectors that move come the kept forward vectors, then the kept backward ones,
-- each kind in vertex order. What follows from that: a place for each kept vector, and for no other.
use Rattle.std.specs.Prelude.{◌≡◌, Bool, true, false, cond, not, ◌&&◌, ◌||◌, List, ℕ, ◌+◌, ◌-◌, ◌<◌, min, max, eqb, ltb, length, get_or}
use Rattle.list_laws.specs.Count.{count}
use Rattle.transfer_matrix.specs.Room.{Arrangement, keeps_forward, keeps_backward}
use Rattle.plan_steps.specs.Layout.{numbers, number, forward_place, backward_place, SameStep}

-- pairs of vertices of a graph of n, their ends in two lists, in either order
pub record Pairs (us vs : List ℕ) (n : ℕ) : Type 0 where
  pub matched : length us ≡ length vs
  pub first : (i : ℕ) → i < length us → get_or us i 0 < n
  pub second : (i : ℕ) → i < length us → get_or vs i 0 < n

-- a pair at the window or farther is propagated
abbrev pub propagated_pair : ℕ → ℕ → ℕ → Bool
propagated_pair w u v = not (ltb (max u v - min u v) w)

-- a pair waits for both sweeps where nothing is to be saved, and where it is propagated
abbrev pub waiting_pair : (less : Bool) → ℕ → ℕ → ℕ → Bool
waiting_pair less w u v = cond less (propagated_pair w u v) true

-- marks of the vertices that pass a test
pub record Marked (marks : List Bool) (test : ℕ → Bool) : Type 0 where
  pub at : (t : ℕ) → get_or marks t false ≡ test t

-- vertex t is marked too, where it is kept
pub record MarkedToo (marks₀ marks : List Bool) (t : ℕ) (kept : Bool) : Type 0 where
  pub at : (u : ℕ) → get_or marks u false ≡ (get_or marks₀ u false || (eqb t u && kept))

-- a vertex that passes the test has its place behind those of the vertices before it; any other has 0
unfoldable pub place_at : (ℕ → Bool) → ℕ → ℕ → ℕ
unfolding count
place_at test from t = cond (test t) (from + count test t) 0

-- the places from `from` on are given at number k to the vertices below t; the next is free
pub record Numbered (plan₀ plan : List ℕ) (test : ℕ → Bool) (k from t next : ℕ) : Type 0 where
  pub given : (u : ℕ) → u < t → number plan u k ≡ place_at test from u
  pub others : (u i : ℕ) → i < numbers → (i ≡ k → ⊥) → number plan u i ≡ number plan₀ u i
  pub free : next ≡ from + count test t

-- the places 0 and 1 are for the vectors that move from vertex to vertex
abbrev pub moving : ℕ
moving = 2

-- the first place of a backward vector, and the number of places in all
abbrev pub backward_from : ℕ → ℕ → List ℕ → List ℕ → ℕ
backward_from n w us vs = moving + count (keeps_forward w us vs) n

abbrev pub places_of : Arrangement → ℕ → ℕ → List ℕ → List ℕ → ℕ
places_of arrangement n w us vs = backward_from n w us vs + count (keeps_backward arrangement w us vs) n

pub record Places (arrangement : Arrangement) (plan us vs : List ℕ) (n w : ℕ) : Type 0 where
  pub forward : (t : ℕ) → t < n → forward_place plan t ≡ place_at (keeps_forward w us vs) moving t
  pub backward : (t : ℕ) → t < n → backward_place plan t ≡ place_at (keeps_backward arrangement w us vs) (backward_from n w us vs) t

-- the places are in the plan, `all` of them with the moving ones, and what it says of the edges stays
pub record Placed (arrangement : Arrangement) (plan₀ plan us vs : List ℕ) (n w all : ℕ) : Type 0 where
  pub count-is : all ≡ places_of arrangement n w us vs
  pub places : Places arrangement plan us vs n w
  pub same : (t : ℕ) → SameStep plan₀ plan t
