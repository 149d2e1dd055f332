use mathlib.Core.Path.{◌≡◌, refl, ap, ◌∙◌}
use native.Mathlib.Omega.{arith}
use lib.ListN.{length, get_or, length-set}
use Rattle.list_laws.specs.Tabulate.{tabulate}
use Rattle.totals_signs.proofs.Filling.{filled_none, filled_more, filled_all, same_more, ahead, same-all}
use Rattle.totals_signs.proofs.Bits.{minus_is}
use Rattle.totals_signs.proofs.numbered.enumerated_signs.Goals as goal

pub loop-e-init : goal.loop-e-init
loop-e-init c = (omega arith, refl, filled_none _ _, λ k a b. absurd (omega arith))

pub is_minus-minus-requires : goal.is_minus-minus-requires
is_minus-minus-requires c = c.requires.1 c.loop-e.e (omega arith)

pub loop-e-preserved : goal.loop-e-preserved
loop-e-preserved c =
    let l = c.loop-e in
    let s = c.before in
    let m = minus_is (λ k. get_or s.args.bits.now k 0) _ _ _ c.is_minus-minus.ensures in (
      omega arith,
      simp length-set l.invariant.1,
      filled_more _ s.args.signs.now _ _ _ l.invariant.2 (omega arith) m,
      same_more _ s.args.signs.now _ _ _ _ _ l.invariant.3 m (ahead _ s.args.signs.now _ _ l.invariant.2) c.last_changed-last.ensures,
    )

pub shape_of-signs : goal.shape_of-signs
shape_of-signs c = c.loop-e.invariant.1

pub returns : goal.returns
returns c =
    let s = c.before in
    let l = c.loop-e in
    let e : l.e ≡ length s.args.bits.now = omega arith in
    let all = l.invariant.2 ∙ filled_all _ s.args.signs.now _ (omega arith) ∙ ap (tabulate _) e in
    record { signs_after = all; by_index = same-all _ s.args.signs.now _ _ _ all (rw e at l.invariant.3) }
