-- Forward; backward, past the pairs that are answered in passing; then the others.
use mathlib.Core.Path.{sym, ◌∙◌, subst}
use Prim.Native.Nat.{ℕ}
use Rattle.vertex_step.specs.Ready.{Ready}
use Rattle.vertex_step.proofs.Laws.Ready.{tail-factors}
use Rattle.sweeps.proofs.Arrangements.{few, passing-pairs, places_behind, both-same, passed-unsound, then-answered}
use Rattle.sweeps.proofs.sweep_and_answer.Goals as goal

pub direct_pairs-directs-requires : goal.direct_pairs-directs-requires
direct_pairs-directs-requires c = let p = c.requires in (p.2.pairs, p.3)

pub sweep_answering-requires : goal.sweep_answering-requires
sweep_answering-requires c =
    let s = c in
    let p = s.requires in
    let d = c.direct_pairs-directs.ensures in
    let e = c.in_passing-passing.ensures in
    (p.0, rw c.sweep_forward.auto.room p.1, passing-pairs _ _ _ _ _ _ _ _ _ p.2 p.3 d e, p.4)

pub returns-then-not-sweep_answering : goal.returns-then-not-sweep_answering
returns-then-not-sweep_answering c =
    let s = c in
    let p = s.requires in
    let d = c.direct_pairs-directs.ensures in
    let e = c.in_passing-passing.ensures in
    let first = c.sweep_forward.ensures in
    let then = c.sweep_answering.ensures in record { same_from = both-same _ _ _ _ _ _ _ _ _ _ _ _ _ _ _ first.since then.since first.forward then.backward; outcome = λ J of given. passed-unsound _ _ _ _ _ _ _ _ _ _ _ _ _ _ _ first.since then.since first.forward then.backward J of given c.if-not-sweep_answering.true }

pub answer_pairs-requires : goal.answer_pairs-requires
answer_pairs-requires c =
    let s = c in
    let p = s.requires in
    let d = c.direct_pairs-directs.ensures in
    let e = c.in_passing-passing.ensures in
    let l = c.sweep_answering.auto.room ∙ c.sweep_forward.auto.room in (
      subst (λ (k : ℕ). Ready s.args.plan.now k s.args.n s.args.w s.args.scales) (sym l) p.1,
      p.2.pairs,
      p.3.all,
      d,
      few _ _ _ _ _ _ _ _ _ p.2 p.3 d e,
      places_behind _ _ _ _ _ _ _ _ _ p.2 p.3 d e,
      c.sweep_answering.auto.results ∙ p.4,
    )

pub returns : goal.returns
returns c =
    let s = c in
    let p = s.requires in
    let d = c.direct_pairs-directs.ensures in
    let e = c.in_passing-passing.ensures in
    let first = c.sweep_forward.ensures in
    let then = c.sweep_answering.ensures in
    let l = c.sweep_answering.auto.room ∙ c.sweep_forward.auto.room in
    let ready = subst (λ (k : ℕ). Ready s.args.plan.now k s.args.n s.args.w s.args.scales) (sym l) p.1 in
    let answered = c.answer_pairs.ensures in
    let both = both-same _ _ _ _ _ _ _ _ _ _ _ _ _ _ _ first.since then.since first.forward then.backward in record {
      same_from = record { same = answered.still.same ∙ both.same; tail = tail-factors _ _ _ s.args.n answered.still.tail ∙ both.tail };
      outcome = λ J of given. then-answered _ _ _ _ _ _ _ _ _ _ _ _ _ _ _ first.since then.since first.forward then.backward J of given ready answered.still
          c.if-not-sweep_answering.false answered.outcome;
    }
