-- The rule, as its test and ends come out.
use Rattle.strip_bonds.specs.Edges.{wrap}
use borrow.Author.Rules.{rules}
use Rattle.strip_bonds.proofs.wrap.Goals as goal

pub has_brick-requires : goal.has_brick-requires
has_brick-requires c = search rules

pub vertex_at-requires : goal.vertex_at-requires
vertex_at-requires c = search rules

pub vertex_at-requires-2 : goal.vertex_at-requires-2
vertex_at-requires-2 c = search rules

pub bond_if-requires : goal.bond_if-requires
bond_if-requires c = search rules

pub returns : goal.returns
unfolding wrap
returns c = rw (c.has_brick.ensures, c.vertex_at.ensures, c.vertex_at-2.ensures) at c.bond_if.ensures
