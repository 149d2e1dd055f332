-- By the test, in the terms of the definition.
use Prim.Native.Nat.{◌-◌, ◌≤◌, ◌<◌, min, max}
use native.Mathlib.Omega.{arith}
use borrow.Author.Tests.{lt-ltb, le-ltb}
use borrow.Author.Rules.{rules}
use Rattle.pair_places.proofs.pairs.is_propagated.Goals as goal

pub later-requires : goal.later-requires
later-requires c = search rules

pub earlier-requires : goal.earlier-requires
earlier-requires c = search rules

pub returns-then-later-earlier : goal.returns-then-later-earlier
returns-then-later-earlier c =
    let s = c in
    let near : max s.args.u s.args.v - min s.args.u s.args.v < s.args.w =
    omega (arith, c.earlier.ensures, c.later.ensures) in
    rw (lt-ltb _ _ near)

pub returns : goal.returns
returns c =
    let s = c in
    let far : s.args.w ≤ max s.args.u s.args.v - min s.args.u s.args.v =
    omega (arith, c.earlier.ensures, c.later.ensures) in
    rw (le-ltb _ _ far)
