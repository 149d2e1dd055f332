-- What the checks give of a graph that none of them refuses.
use Rattle.std.specs.Prelude.{◌≡◌, true, false, List, ℕ, ◌≤◌, ◌<◌, Float, length, get_or}
use Rattle.std.specs.Float.{nan}
use Rattle.std.specs.Float.Ieee.{lt}
use Rattle.limits.specs.Limits.{most_vertices, most_edges, most_betas}
use Rattle.list_laws.specs.Search.{some}
use Rattle.refusals.specs.Edges.{kept_early, kept_late}
use Rattle.refusals.specs.Request.{bad_ends, some_oversized, unordered, joined_twice}

-- edges that check 2 passes
pub record Lengths (a b : List ℕ) (m : List Float) : Type 0 where
  pub others : length b ≡ length a
  pub magnitudes : length m ≡ length a
  pub few-edges : length a ≤ most_edges

-- betas that 2, 4 and 21 pass
pub record AcceptedBetas (betas : List Float) : Type 0 where
  pub few : length betas ≤ most_betas
  pub sized : some_oversized betas ≡ false
  pub rising : unordered betas ≡ false

-- betas that rise strictly: each is less than every later one
abbrev pub Rising : List Float → Type 0
Rising betas = (i j : ℕ) → i < j → j < length betas → lt (get_or betas i nan) (get_or betas j nan) ≡ true

-- a graph that 1 to 5 pass
pub record Accepted (n : ℕ) (a b : List ℕ) (m : List Float) : Type 0 where
  pub some-vertex : 1 ≤ n
  pub few-vertices : n ≤ most_vertices
  pub lists : Lengths a b m
  pub edges : some (bad_ends n a b) (length a) ≡ false
  pub apart : joined_twice (kept_early a b m) (kept_late a b m) ≡ false
