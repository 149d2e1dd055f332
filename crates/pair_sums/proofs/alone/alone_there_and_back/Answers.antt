use mathlib.Core.Path.{◌≡◌}
use Prim.Native.Nat.{◌+◌, ◌*◌, ◌-◌, ◌^◌, ◌≤◌}
use native.Mathlib.Omega.{arith}
use Rattle.step_tables.proofs.Laws.Constants.{zero_is}
use Rattle.list_laws.proofs.Laws.Power.{pow_double}
use Rattle.pair_sums.proofs.Way.{summed-none, less_within, two_each}
use Rattle.pair_sums.proofs.alone.alone_there_and_back.Goals as goal

pub loop-k-init : goal.loop-k-init
loop-k-init c = summed-none _ _ _ _ zero_is zero_is

pub terms_there-s-requires : goal.terms_there-s-requires
terms_there-s-requires c =
    let l : 2 * c.loop-k.k + 2 ≤ 2 ^ (c.args.w - 1) = omega (arith, two_each c.args.w c.requires.0) in
    (less_within _ _ _ c.requires.2 _ l, omega arith)

pub loop-k-preserved : goal.loop-k-preserved
loop-k-preserved c =
    let w = c.args.w in
    let l : 2 * c.loop-k.k + 2 ≤ 2 ^ (w - 1) = omega (arith, two_each w c.requires.0) in
    let e : 2 * (c.loop-k.k + 1) ≡ 2 * c.loop-k.k + 2 = omega arith in
    rw e (c.terms_there-s.ensures w (omega arith) l c.loop-k.invariant)

pub loop-k-2-init : goal.loop-k-2-init
loop-k-2-init c =
    let w = c.args.w in
    let k : c.loop-k.k ≡ c.pow2-n.result = omega arith in
    let e : 2 ^ w - 2 * c.pow2-n.result ≡ 2 * c.pow2-n.result = omega (arith, two_each w c.requires.0, pow_double w (omega arith)) in
    rw (e, ← k) c.loop-k.invariant

pub terms_back-s-requires : goal.terms_back-s-requires
terms_back-s-requires c =
    let l : 2 * (c.loop-k-2.k - 1) + 2 ≤ 2 ^ (c.args.w - 1) = omega (arith, two_each c.args.w c.requires.0) in
    (less_within _ _ _ c.requires.2 _ l, omega arith)

pub loop-k-2-preserved : goal.loop-k-2-preserved
loop-k-2-preserved c =
    let w = c.args.w in
    let k = c.loop-k-2.k in
    let l : 2 * (k - 1) + 2 ≤ 2 ^ (w - 1) = omega (arith, two_each w c.requires.0) in
    let e : 2 * (k - 1) + 2 ≡ 2 * k = omega arith in
    c.terms_back-s.ensures w (omega arith) l (rw e c.loop-k-2.invariant)

pub returns : goal.returns
returns c =
    let e : 2 ^ c.args.w - 2 * c.loop-k-2.k ≡ 2 ^ c.args.w = omega arith in
    rw e at c.loop-k-2.invariant
