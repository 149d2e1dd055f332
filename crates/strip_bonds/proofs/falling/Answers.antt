-- The rule, as its test and ends come out.
use Rattle.strip_bonds.specs.Edges.{falling}
use Rattle.strip_bonds.proofs.falling.Goals as goal

pub returns : goal.returns
unfolding falling
returns c = rw (c.falls.ensures, c.has_next.ensures, c.vertex_at.ensures, c.vertex_at-2.ensures, c.next_across-from.ensures.0) at c.bond_if.ensures
