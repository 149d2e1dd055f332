-- What a call for totals is given, and what its graph is.
use Rattle.std.specs.Prelude.{List, ℕ, ◌*◌, Float, length}
use Rattle.limits.specs.declared.Caller.{Caller}
use Rattle.transfer_matrix.specs.Room.{room}
use Rattle.plan_layout.specs.declared.Arrangement.{Arrangement}
use Rattle.plan_layout.specs.Arrangements.{arrangement_of}
use Rattle.refusals.specs.Edges.{kept, window_from, kept_early, kept_late}
use Rattle.forest.specs.FreeEdges.{free_count}
use Rattle.entry_correlations.specs.declared.Manner.{Manner}

pub record Given : Type 0 where
  pub n : ℕ
  pub floor : ℕ
  -- the raw edges: their ends and magnitudes
  pub a : List ℕ
  pub b : List ℕ
  pub m : List Float
  -- the pairs
  pub us : List ℕ
  pub vs : List ℕ
  pub betas : List Float
  pub factors : List Float
  pub manner : Manner
  pub arrangement : Arrangement
  pub caller : Caller

module _ (g : Given) where
  -- The kept edges' ends, the free edges among them, the window and the room.
  abbrev pub early : List ℕ
  early = kept_early g.a g.b g.m

  abbrev pub late : List ℕ
  late = kept_late g.a g.b g.m

  abbrev pub free : ℕ
  free = free_count early late

  abbrev pub window : ℕ
  window = window_from g.floor g.a g.b g.m

  abbrev pub end : ℕ
  end = room (arrangement_of g.arrangement) g.n window (length (kept g.a g.b g.m)) g.us g.vs

  -- How many totals there are: one for each beta and pair.
  abbrev pub sums : ℕ
  sums = length g.betas * length g.us
