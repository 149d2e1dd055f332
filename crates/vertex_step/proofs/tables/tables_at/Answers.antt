use native.Mathlib.Omega.{arith}
use lib.ListN.{drop}
use Rattle.vertex_step.proofs.Factors.{tables-made, bits-rise}
use Rattle.vertex_step.proofs.tables.tables_at.Goals as goal

pub fill_tables-requires : goal.fill_tables-requires
fill_tables-requires c = let s = c.requires in (omega (arith, c.near_count.ensures, s.0.vertex.few), s.2, s.3)

pub returns : goal.returns
returns c =
    let s = c in
    let a = s.args in
    let x = drop a.factors a.room.now in
    let near = c.near_edges.ensures in
    let count = c.near_count.ensures in
    let bits = c.near_edges.new.bits in record {
      tabled = tables-made a.plan.now x a.t _ _ _ _ _ _ bits _ _ c.left_edge-k.ensures count c.factor_of.ensures near.by_index near.by_index_2
          c.left_factor.ensures (c.fill_tables.ensures bits);
      rising = rw (← count) (bits-rise a.plan.now x a.t a.w _ _ _ s.requires.0.vertex count near.by_index_2);
    }
