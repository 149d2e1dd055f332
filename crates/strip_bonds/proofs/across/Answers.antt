-- The rule, as its test and ends come out.
use Rattle.strip_bonds.specs.Edges.{across}
use Rattle.strip_bonds.proofs.across.Goals as goal

pub returns : goal.returns
unfolding across
returns c = rw (c.has_brick.ensures, c.vertex_at.ensures, c.vertex_at-2.ensures) at c.bond_if.ensures
