-- The sum is the place as a double.
use Rattle.std.proofs.Common.{arith}
use Rattle.coupling_grid.proofs.Placing.{shifted_is}
use Rattle.coupling_grid.proofs.place.Goals as goal

pub float_to_int-result : goal.float_to_int-result
float_to_int-result c = (shifted_is c.args.x c.requires).castable

pub overflow_cast-result : goal.overflow_cast-result
overflow_cast-result c = let l = (shifted_is c.args.x c.requires).few in omega arith

pub returns : goal.returns
returns c = let s = shifted_is c.args.x c.requires in (s.is, s.few)
