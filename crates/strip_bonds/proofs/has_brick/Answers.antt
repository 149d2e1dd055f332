-- The brick wall's test, as it comes out.
use Rattle.strip.proofs.Laws.Kinds.{same-honey}
use Rattle.strip_bonds.proofs.has_brick.Goals as goal

pub returns : goal.returns
returns c = rw (c.ne.ensures, same-honey c.args.kind)
