use mathlib.Core.Path.{sym, ap, ◌∙◌, subst}
use Prim.Native.Nat.{ℕ, ◌+◌}
use native.Mathlib.Omega.{arith}
use lib.ListN.{length}
use Rattle.list_laws.proofs.Laws.Tabulate.{tabulate-length}
use Rattle.vertex_step.specs.Ready.{Ready}
use Rattle.totals_signs.specs.Signed.{factors_in_use}
use Rattle.totals_configuration.proofs.Staging.{outcome_of}
use Rattle.totals_configuration.proofs.configuration.answer_signed.Goals as goal

pub overflow_add-shape : goal.overflow_add-shape
overflow_add-shape c = omega (arith, c.requires.0.ready.ends)

pub lay_signed-requires : goal.lay_signed-requires
lay_signed-requires c =
    let p = c.requires in
    let l = p.1 in
    let q = l.enough in
    let f = l.few in
    (omega (arith, p.0.ends), omega arith, omega arith)

pub sweep_and_answer-requires : goal.sweep_and_answer-requires
sweep_and_answer-requires c =
    let s = c in
    let p = s.requires.0 in
    (p.some, subst (λ (k : ℕ). Ready s.args.plan.now k s.args.shape.n s.args.shape.w s.args.shape.scales) (sym c.lay_signed.auto.room) p.ready, p.served, p.ordered, p.fitting)

pub returns : goal.returns
returns c =
    let s = c in
    let a = s.args in
    let x = factors_in_use a.factors.now (length a.signs.now) a.b a.signs.now in
    let t = tabulate-length _ (length a.signs.now) in
    outcome_of a.plan.now a.us.now a.vs.now x a.room.now _ _ _ _ _ _ _ _ _ s.requires.0.ready c.lay_signed.ensures (ap (λ (k : ℕ). a.shape.scales + a.shape.n + k) t ∙ s.requires.0.ends) c.sweep_and_answer.ensures.outcome
