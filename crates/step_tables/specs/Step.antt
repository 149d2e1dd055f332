-- What a step's tables are to hold, for the definition's step: the record that the kernels of a step ask for.
use Rattle.std.specs.Prelude.{◌≡◌, Bool, cond, List, [], ◌∷◌, ℕ, zero, suc, ◌+◌, ◌*◌, ◌/◌, ◌%◌, ◌^◌, ◌≤◌, ◌<◌, get_or, Float}
use Rattle.std.proofs.Math.Option.{Option, none, some}
use Rattle.std.specs.Float.{nan}
use Rattle.transfer_matrix.specs.Job.{Back, Step}
use Rattle.transfer_matrix.specs.Rounded.{ieee}
use Rattle.transfer_matrix.specs.Sweep as S

-- n near edges from number i on. A near edge reads bit `distance - 1`.
unfoldable pub near_edges : List Float → List ℕ → ℕ → ℕ → List (Back Float)
near_edges factors bits i zero = []
near_edges factors bits i (suc n) = record { distance = get_or bits i 0 + 1; factor = get_or factors i nan } ∷ near_edges factors bits (suc i) n

unfoldable pub left_edge : Bool → Float → Option Float
left_edge there x = cond there (some x) none

-- the step with these edges
abbrev pub step_from : Bool → Float → List Float → List ℕ → ℕ → Step Float
step_from there left factors bits n = record { left = left_edge there left; others = near_edges factors bits 0 n }

-- the pattern of k by n bits of the list l from index i on: its bit 0 is bit `l at i` of k, its bit 1 is bit `l at i + 1` of k, and so on
unfoldable pub pattern_from : List ℕ → ℕ → ℕ → ℕ → ℕ
pattern_from l i zero k = 0
pattern_from l i (suc n) k = 2 * pattern_from l (suc i) n k + k / 2 ^ get_or l i 0 % 2

abbrev pub pattern_by : List ℕ → ℕ → ℕ → ℕ
pattern_by l n k = pattern_from l 0 n k

-- at most four bits, in rising order, below h
pub record Rising (l : List ℕ) (n h : ℕ) : Type 0 where
  pub few : n ≤ 4
  pub rise : (i j : ℕ) → i < j → j < n → get_or l i 0 < get_or l j 0
  pub low : (i : ℕ) → i < n → get_or l i 0 < h

-- The tables of a step: how many near edges there are and the bits that they read; ep and em of the left edge; what the spins of the near
-- edges weigh with the new spin up, and with it down.
pub record Tables : Type 0 where
  pub count : ℕ
  pub ep : Float
  pub em : Float
  pub bits : List ℕ
  pub up : List Float
  pub down : List Float

abbrev pub tables : ℕ → Float → Float → List ℕ → List Float → List Float → Tables
tables count ep em bits up down = record { count = count; ep = ep; em = em; bits = bits; up = up; down = down }

-- the weights of these near edges with the scale sc
pub record Filled (others : List (Back Float)) (sc : Float) (count : ℕ) (up down : List Float) : Type 0 where
  pub ups : (m : ℕ) → m < 2 ^ count → get_or up m nan ≡ S.up ieee others sc m
  pub downs : (m : ℕ) → m < 2 ^ count → get_or down m nan ≡ S.down ieee others sc m

-- the tables are those of the definition's step s with the scale sc
pub record Tabled (s : Step Float) (sc : Float) (t : Tables) : Type 0 where
  pub plus : t.ep ≡ S.ep ieee s.left
  pub minus : t.em ≡ S.em ieee s.left
  pub picks : (k : ℕ) → pattern_by t.bits t.count k ≡ S.pattern s.others k
  pub ups : (m : ℕ) → m < 2 ^ t.count → get_or t.up m nan ≡ S.up ieee s.others sc m
  pub downs : (m : ℕ) → m < 2 ^ t.count → get_or t.down m nan ≡ S.down ieee s.others sc m
