-- Each half begins where its place does.
use Prim.Native.Nat.{◌-◌, ◌^◌, ◌≤◌}
use native.Mathlib.Omega.{arith}
use lib.Pow.{pow_pos}
use Rattle.list_laws.proofs.Laws.Power.{pow_double}
use Rattle.pair_sums.proofs.Way.{begun-within, begun-sums}
use Rattle.pair_sums.proofs.alone.half_sums.Goals as goal

pub sums_of_one-requires : goal.sums_of_one-requires
sums_of_one-requires c =
    let s = c.before.before.before in
    begun-within _ _ 1 _ _ s.requires c.begins-x.ensures (pow_pos s.args.w)

pub returns-then-w-eq1 : goal.returns-then-w-eq1
returns-then-w-eq1 c = begun-sums _ _ _ _ _ c.begins-x.ensures (c.sums_of_one.ensures _ c.if-w-eq1.true)

pub alone_there_and_back-requires : goal.alone_there_and_back-requires
alone_there_and_back-requires c =
    let s = c.before.before.before in
    let w = s.args.w in
    let place = s.requires.forward in
    let l : 2 ^ (w - 1) ≤ 2 ^ w = omega (arith, pow_double w place.wide) in
    (omega (arith, place.wide), place.narrow, begun-within _ _ _ _ _ s.requires c.begins-x.ensures l)

pub returns : goal.returns
returns c = begun-sums _ _ _ _ _ c.begins-x.ensures c.alone_there_and_back.ensures
