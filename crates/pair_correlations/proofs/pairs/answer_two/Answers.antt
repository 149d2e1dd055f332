-- Both pairs' sums are those of the definition.
use native.Mathlib.Omega.{arith}
use Rattle.pair_correlations.proofs.Two.{second-sourced, second-same, two-answered}
use Rattle.pair_correlations.proofs.pairs.answer_two.Goals as goal

pub bounds-vs-p : goal.bounds-vs-p
bounds-vs-p c = let s = c in omega (arith, s.requires.2, s.requires.1.matched)

pub aim_at-aim-requires : goal.aim_at-aim-requires
aim_at-aim-requires c =
    let s = c in
    (s.requires.0, rw (c.earlier.ensures, c.later.ensures) s.requires.7, s.requires.5)

pub second_source-other-requires : goal.second_source-other-requires
second_source-other-requires c = let s = c in (s.requires.0.holds, s.requires.1, s.requires.3, s.requires.8)

pub write_two-sound-requires : goal.write_two-sound-requires
write_two-sound-requires c =
    let s = c in
    let p = s.requires in
    let aimed = rw (c.earlier.ensures, c.later.ensures) at c.aim_at-aim.ensures in (
      aimed.sourced,
      second-sourced s.args.plan.now s.args.us.now s.args.vs.now s.args.room.now _ _ _ _ _ _ _ _ _ p.0 p.2 p.3 p.8 p.4 aimed c.second_source-other.ensures,
      omega (arith, p.2, p.6),
      omega (arith, p.3, p.6),
      second-same s.args.plan.now s.args.us.now s.args.vs.now s.args.room.now _ _ _ _ _ _ _ _ _ p.0 p.2 p.3 p.8 p.4 aimed c.second_source-other.ensures,
    )

pub returns : goal.returns
returns c =
    let s = c in
    let p = s.requires in
    let aimed = rw (c.earlier.ensures, c.later.ensures) at c.aim_at-aim.ensures in
    two-answered _ _ _ _ _ _ _ _ _ _ _ _ _ p.0 p.2 p.3 p.8 p.4 aimed c.second_source-other.ensures _ _ _ c.write_two-sound.ensures
