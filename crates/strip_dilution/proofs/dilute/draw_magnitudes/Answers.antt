use mathlib.Core.Path.{◌≡◌}
use Rattle.strip_dilution.proofs.Drawing.{draw_none, draw_more}
use native.Mathlib.Omega.{arith}
use Rattle.strip_dilution.proofs.dilute.draw_magnitudes.Goals as goal

pub loop-i-init : goal.loop-i-init
loop-i-init c = (draw_none _ _ _ _ c.new-rng.ensures, omega arith)

pub loop-i-preserved : goal.loop-i-preserved
loop-i-preserved c = let d = c.draw_magnitude-drawn.ensures in (draw_more _ _ _ c.loop-i.invariant.0 (omega (arith, c.loop-i.invariant.0.kept)) d.0 d.1, omega arith)

pub shape_of-mag : goal.shape_of-mag
shape_of-mag c = c.loop-i.invariant.0.kept

pub returns : goal.returns
returns c = let e : c.loop-i.i ≡ c.args.k = omega arith in (rw e at c.loop-i.invariant.0).drawn
