-- Lists that fit the buffers that they are loaded into.
use Rattle.std.specs.Prelude.{ℕ, ◌≤◌}
use Rattle.replay_format.specs.declared.lists.EdgeLists.{EdgeLists}
use Rattle.replay_format.specs.declared.lists.TwoLists.{TwoLists}

-- three lists of edges, into buffers of so many each
pub record EdgesFit (most : ℕ) (e : EdgeLists) : Type 0 where
  pub ones : e.a ≤ most
  pub others : e.b ≤ most
  pub magnitudes : e.m ≤ most

-- two lists, into a buffer each
pub record TwoFit (most limit : ℕ) (t : TwoLists) : Type 0 where
  pub one : t.first ≤ most
  pub other : t.second ≤ limit
