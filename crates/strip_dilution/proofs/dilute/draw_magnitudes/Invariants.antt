-- The magnitudes of the first i edges stand at the front.
use Prim.Native.Nat.{◌≤◌}
use Rattle.strip_dilution.specs.Diluted.{dilution}
use Rattle.strip_dilution.proofs.Drawing.{Drawing}
use Rattle.strip_dilution.proofs.dilute.draw_magnitudes.Given as goal

abbrev pub invariant-loop-i : goal.invariant-loop-i
invariant-loop-i l = Drawing (dilution l.keep l.mlo l.mhi) l.seed l.i l.initial.mag l.mag l.rng.s × (l.i ≤ l.k)
