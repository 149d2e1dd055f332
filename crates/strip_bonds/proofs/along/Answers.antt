-- The rule, as its test and ends come out.
use Rattle.strip_bonds.specs.Edges.{along}
use borrow.Author.Rules.{rules}
use Rattle.strip_bonds.proofs.along.Goals as goal

pub vertex_at-requires : goal.vertex_at-requires
vertex_at-requires c = search rules

pub vertex_at-requires-2 : goal.vertex_at-requires-2
vertex_at-requires-2 c = search rules

pub bond_if-requires : goal.bond_if-requires
bond_if-requires c = search rules

pub returns : goal.returns
unfolding along
returns c = rw (c.vertex_at.ensures, c.vertex_at-2.ensures) at c.bond_if.ensures
