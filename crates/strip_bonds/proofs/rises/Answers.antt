-- The test, as it comes out.
use Rattle.strip.proofs.Laws.Kinds.{same-tri, same-eight}
use Rattle.strip_bonds.proofs.rises.Goals as goal

pub returns : goal.returns
returns c = rw (c.eq.ensures, c.eq-2.ensures, same-eight c.args.s.kind, same-tri c.args.s.kind)
