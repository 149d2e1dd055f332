-- The rule, as its test and ends come out.
use Rattle.strip_bonds.specs.Edges.{rising}
use Rattle.strip_bonds.proofs.rising.Goals as goal

pub returns : goal.returns
unfolding rising
returns c = rw (c.rises.ensures, c.has_next.ensures, c.vertex_at.ensures, c.vertex_at-2.ensures, c.next_across-to.ensures.0) at c.bond_if.ensures
