-- Each pair of the order is one of the lists.
use Prim.Native.Nat.{◌-◌}
use native.Mathlib.Omega.{arith}
use Rattle.sweep_answering.proofs.last_vertex.Goals as goal

pub offset_bounds-us-p : goal.offset_bounds-us-p
offset_bounds-us-p c = let s = c in let p = s.requires in omega (arith, p.1.inside (s.args.left - 1) (omega (arith, p.1.long, p.2)), s.well_formed)

pub bounds-us-p : goal.bounds-us-p
bounds-us-p c = let s = c in let p = s.requires in p.1.inside (s.args.left - 1) (omega (arith, p.1.long, p.2))

pub offset_bounds-vs-p : goal.offset_bounds-vs-p
offset_bounds-vs-p c = let s = c in let p = s.requires in omega (arith, p.1.inside (s.args.left - 1) (omega (arith, p.1.long, p.2)), s.well_formed)

pub bounds-vs-p : goal.bounds-vs-p
bounds-vs-p c = let s = c in let p = s.requires in omega (arith, p.1.inside (s.args.left - 1) (omega (arith, p.1.long, p.2)), p.0)
