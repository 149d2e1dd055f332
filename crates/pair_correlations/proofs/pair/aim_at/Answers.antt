-- A pair that is not near takes the propagated vector in place of the forward one.
use mathlib.Core.Path.{refl}
use native.Mathlib.Omega.{arith}
use Rattle.pair_correlations.proofs.PairLaws.{aimed_direct, aimed_far}
use Rattle.pair_correlations.proofs.pair.aim_at.Goals as goal

pub direct_source-direct-requires : goal.direct_source-direct-requires
direct_source-direct-requires c = (c.requires.0.holds, c.requires.1)

pub returns-then-v-u : goal.returns-then-v-u
returns-then-v-u c =
    let s = c in
    aimed_direct _ s.args.room.now _ _ _ _ _ _ _ s.requires.0 s.requires.1 c.direct_source-direct.ensures (omega arith) s.requires.2 _ refl refl

pub propagate-place-requires : goal.propagate-place-requires
propagate-place-requires c =
    let s = c in
    (s.requires.0, omega (arith, s.requires.1.order), s.requires.1.inside, s.requires.1.propagated (omega arith), s.requires.2)

pub returns : goal.returns
returns c =
    let s = c in
    aimed_far _ _ _ _ _ _ _ _ _ s.requires.0 s.requires.1 c.direct_source-direct.ensures _ _ (omega arith)
    c.propagate-place.ensures _ refl refl
