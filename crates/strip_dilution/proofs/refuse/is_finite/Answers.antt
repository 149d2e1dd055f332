-- A number is finite between the infinities.
use Rattle.strip_dilution.proofs.Calls.{finite_test}
use Rattle.strip_dilution.proofs.refuse.is_finite.Goals as goal

pub returns : goal.returns
returns c = finite_test c.args.x
