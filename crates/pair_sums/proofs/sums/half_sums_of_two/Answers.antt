-- Each half begins where its place does.
use Prim.Native.Nat.{◌-◌, ◌^◌, ◌≤◌}
use native.Mathlib.Omega.{arith}
use lib.Pow.{pow_pos}
use Rattle.list_laws.proofs.Laws.Power.{pow_double}
use Rattle.pair_sums.proofs.Way.{begun-within, begun-sums}
use Rattle.pair_sums.proofs.sums.half_sums_of_two.Goals as goal

pub sums_of_one-requires : goal.sums_of_one-requires
sums_of_one-requires c =
    let s = c.before.before.before.before in
    begun-within _ _ 1 _ _ s.requires.0 c.begins-x.ensures (pow_pos s.args.w)

pub sums_of_one-requires-then-w-eq1 : goal.sums_of_one-requires-then-w-eq1
sums_of_one-requires-then-w-eq1 c =
    let s = c.before.before.before.before.before in
    begun-within _ _ 1 _ _ s.requires.1 c.begins-y.ensures (pow_pos s.args.w)

pub returns-then-w-eq1 : goal.returns-then-w-eq1
returns-then-w-eq1 c =
    let e = c.if-w-eq1.true in (
      begun-sums _ _ _ _ _ c.begins-x.ensures (c.sums_of_one.ensures _ e),
      begun-sums _ _ _ _ _ c.begins-y.ensures (c.sums_of_one-then-w-eq1.ensures _ e),
    )

pub there_and_back-requires : goal.there_and_back-requires
there_and_back-requires c =
    let s = c.before.before.before.before in
    let w = s.args.w in
    let place = s.requires.0.forward in
    let l : 2 ^ (w - 1) ≤ 2 ^ w = omega (arith, pow_double w place.wide) in (
      omega (arith, place.wide),
      place.narrow,
      begun-within _ _ _ _ _ s.requires.0 c.begins-x.ensures l,
      begun-within _ _ _ _ _ s.requires.1 c.begins-y.ensures l,
    )

pub returns : goal.returns
returns c = (
  begun-sums _ _ _ _ _ c.begins-x.ensures c.there_and_back.ensures.0,
  begun-sums _ _ _ _ _ c.begins-y.ensures c.there_and_back.ensures.1,
)
