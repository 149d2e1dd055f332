-- The digits stay placed while they move up, until there are 53.
use Prim.Native.Nat.{◌-◌, ◌^◌}
use Rattle.sqrt.specs.Placed.{magnitude, Placed}
use Rattle.sqrt.proofs.place.raised.Given as goal

abbrev pub invariant-loop-significand : goal.invariant-loop-significand
invariant-loop-significand l = Placed (magnitude l.exponent l.digits) l.significand l.power

abbrev pub decreases-loop-significand : goal.decreases-loop-significand
decreases-loop-significand l = 2 ^ 52 - l.significand
