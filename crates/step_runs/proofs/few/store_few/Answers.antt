-- A store is an entry more.
use mathlib.Core.Path.{◌≡◌, ap, ◌∙◌}
use lib.ListN.{length-set}
use Rattle.step_tables.proofs.Laws.Constants.{zero_is}
use Rattle.step_tables.specs.Rule.{alternating}
use Rattle.largest_entry.specs.Larger.{larger}
use Rattle.step_runs.proofs.FewIteration.{few-one, few-two, most-one, most-two}
use Rattle.largest_entry.proofs.Laws.Filled.{filled_top}
use native.Mathlib.Omega.{arith}
use Rattle.step_runs.proofs.few.store_few.Goals as goal

pub bounds-v-dst-then-half-eq2 : goal.bounds-v-dst-then-half-eq2
bounds-v-dst-then-half-eq2 c = simp length-set (omega arith)

pub returns-then-half-eq2 : goal.returns-then-half-eq2
returns-then-half-eq2 c =
    let s = c in
    let a = s.args in
    let put_is = few-two _ _ _ _ _ s.requires.2 c.if-half-eq2.true in
    let first = c.larger_of-most.ensures ∙ ap (λ z. larger z a.a) zero_is in record {
      v_after = put_is;
      value = most-two a.v.now a.dst a.half a.a a.b s.requires.2 c.if-half-eq2.true first c.larger_of.ensures
          ∙ filled_top _ _ _ (alternating a.a a.b) _ s.requires.2 put_is;
    }

pub returns : goal.returns
returns c =
    let s = c in
    let a = s.args in
    let one : a.half ≡ 1 = omega arith in
    let put_is = few-one _ _ _ _ _ s.requires.2 one in
    let first = c.larger_of-most.ensures ∙ ap (λ z. larger z a.a) zero_is in record { v_after = put_is; value = most-one a.v.now a.dst a.half a.a a.b s.requires.2 one first ∙ filled_top _ _ _ (alternating a.a a.b) _ s.requires.2 put_is }
