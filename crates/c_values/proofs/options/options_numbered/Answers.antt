-- Each option that the number has.
use mathlib.Core.Path.{refl}
use Rattle.c_values.proofs.options.options_numbered.Goals as goal

pub returns : goal.returns
returns c = rw (c.manner_in.ensures, c.arrangement_in.ensures, c.caller_in.ensures) refl
