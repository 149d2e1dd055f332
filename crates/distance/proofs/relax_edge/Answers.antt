-- `relax_edge` meets its contract. After the first direction the lengths are ready for the second.
use native.Mathlib.Omega.{arith}
use Rattle.distance.proofs.Relaxation.{first-ready, edge-swept}
use Rattle.distance.proofs.relax_edge.Goals as goal

pub relax-x-requires : goal.relax-x-requires
relax-x-requires c =
    let s = c in
    let e = s.requires.0.inside _ s.requires.1 in
    omega (arith, s.requires.0.top _ e.0)

pub relax-y-requires : goal.relax-y-requires
relax-y-requires c =
    let s = c in
    let R = first-ready s.requires.0 _ s.requires.1 c.relax-x.ensures in
    let e = R.inside _ s.requires.1 in
    omega (arith, R.top _ e.0, R.top _ e.1)

pub returns : goal.returns
returns c =
    let s = c in
    let x = c.relax-x.ensures in
    edge-swept s.requires.0 _ s.requires.1 x c.relax-y.ensures
