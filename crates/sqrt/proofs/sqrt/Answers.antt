-- Each `return` is a law of Cases; above zero the root is that of the fields.
use mathlib.Core.Path.{◌≡◌, sym, ap, ◌∙◌}
use mathlib.Core.Bool.{true}
use native.Mathlib.Omega.{arith}
use lib.Dec.{T}
use lib.Ieee.{Float, binary64, lt}
use denote.Floats.{passes}
use Rattle.sqrt.specs.Sqrt.{sqrt}
use Rattle.sqrt.proofs.Cases.{+0·0, root_at_zero, above_no_nan, root_of_neither, fields_of, root-at-top, fields_above}
use Rattle.sqrt.proofs.sqrt.Goals as goal

above : (x : Float) → lt +0·0 x ≡ true → T (lt +0·0 x)
above x e = passes _ e

pub returns-then-x : goal.returns-then-x
returns-then-x c = root_at_zero c.args.x (passes _ c.if-x.true)

pub float_to_bits-bits : goal.float_to_bits-bits
float_to_bits-bits c = above_no_nan c.args.x (above c.args.x c.if-x-2.true)

pub returns-then-exponent-eq2047 : goal.returns-then-exponent-eq2047
returns-then-exponent-eq2047 c = root-at-top c.args.x _ _ (fields_of c.args.x (passes _ c.well_formed.0.1) (above c.args.x c.if-x-2.true)) (above c.args.x c.if-x-2.true) c.if-exponent-eq2047.true

pub root_of_fields-requires : goal.root_of_fields-requires
root_of_fields-requires c = record {
  finite = omega (arith, c.if-exponent-eq2047.false);
  short = omega arith;
  above = fields_above c.args.x _ _ (fields_of c.args.x (passes _ c.well_formed.0.1) (above c.args.x c.if-x-2.true)) (above c.args.x c.if-x-2.true);
}

pub returns-then-x-2 : goal.returns-then-x-2
returns-then-x-2 c = c.root_of_fields.ensures ∙ ap (sqrt binary64) (sym (fields_of c.args.x (passes _ c.well_formed.0.1) (above c.args.x c.if-x-2.true)))

pub returns : goal.returns
returns c = root_of_neither c.args.x c.if-x.false c.if-x-2.false
