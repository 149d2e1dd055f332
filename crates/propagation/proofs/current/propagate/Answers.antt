-- On from the current vector, or anew from the forward vector of u.
use mathlib.Core.Path.{◌≡◌}
use Prim.Native.Nat.{◌<◌}
use native.Mathlib.Omega.{arith}
use Rattle.propagation.proofs.Propagation.{propagated-on, start-places, propagated_anew}
use Rattle.propagation.proofs.current.propagate.Goals as goal

pub returns-then-current-v : goal.returns-then-current-v
returns-then-current-v c =
    let s = c in
    let b : s.args.u < s.args.n = omega arith in
    let e : s.args.current.vertex ≡ s.args.u = omega arith in
    propagated-on _ _ _ _ _ _ _ _ _ _ b e c.advance.ensures

pub half_alternate-requires : goal.half_alternate-requires
half_alternate-requires c =
    let s = c in
    let b : s.args.u < s.args.n = omega arith in
    rw c.forward_place-f.ensures (start-places _ s.args.room.now _ _ _ _ s.requires.0 b s.requires.3)

pub advance-requires-2 : goal.advance-requires-2
advance-requires-2 c =
    let s = c in
    (rw c.half_alternate.auto.room s.requires.0, s.requires.1, s.requires.2, omega arith)

pub returns : goal.returns
returns c =
    let at = c in
    let s = c in
    let b : s.args.u < s.args.n = omega arith in
    let e = rw at.forward_place-f.ensures at at.half_alternate.ensures in
    propagated_anew _ _ _ _ _ _ s.requires.0 b s.requires.3 _ e _ _ _ _ c.advance-2.ensures
