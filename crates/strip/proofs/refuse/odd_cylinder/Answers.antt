-- The test, as it comes out.
use mathlib.Core.Path.{refl}
use Rattle.strip.proofs.Laws.Kinds.{same-honey}
use Rattle.strip.proofs.refuse.odd_cylinder.Goals as goal

pub returns : goal.returns
returns c = rw (c.eq.ensures, same-honey c.args.s.kind) refl
