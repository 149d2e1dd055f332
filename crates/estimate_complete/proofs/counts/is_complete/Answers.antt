use mathlib.Core.Path.{refl, sym, ◌∙◌}
use mathlib.Core.Bool.{true, false}
use Prim.Native.Nat.{suc, ◌^◌, ◌≤◌}
use native.Mathlib.Omega.{arith}
use native.Mathlib.Numerals.{add-one}
use native.Mathlib.Nat.{pow-suc}
use lib.Dec.{eqb}
use lib.Pow.{pow_mono}
use borrow.Author.Tests.{eq-eqb, ne_eqb}
use Rattle.limits.specs.Limits.{most_counted}
use Rattle.list_laws.proofs.Laws.Search.{start, hit, miss, none}
use Rattle.estimate_complete.proofs.counts.is_complete.Goals as goal

pub loop-free-init : goal.loop-free-init
loop-free-init c = (omega arith, refl, start _)

pub returns-then-count-power : goal.returns-then-count-power
returns-then-count-power c =
    let count = c.args.count in
    let l = c.loop-free in
    hit (λ k. eqb count (2 ^ k)) (suc most_counted) l._free (omega arith) true (sym (eq-eqb count (2 ^ l._free) (c.if-count-power.true ∙ l.invariant.1))) refl

pub overflow_mul-power : goal.overflow_mul-power
overflow_mul-power c =
    let l = c.loop-free in
    let h : l._free ≤ 34 = omega arith in
    let m = pow_mono h in
    record { fits = rw l.invariant.1 (omega arith) }

pub loop-free-preserved : goal.loop-free-preserved
loop-free-preserved c =
    let count = c.args.count in
    let l = c.loop-free in (
      omega arith,
      rw (l.invariant.1, add-one, pow-suc) (omega arith),
      miss (λ k. eqb count (2 ^ k)) l._free l.invariant.2 false (sym (ne_eqb count (2 ^ l._free) (λ e. c.if-count-power.false (e ∙ sym l.invariant.1)))) refl,
    )

pub returns : goal.returns
returns c =
    let count = c.args.count in
    let l = c.loop-free in
    none (λ k. eqb count (2 ^ k)) (suc most_counted) l._free l.invariant.2 (omega arith) l.invariant.0
