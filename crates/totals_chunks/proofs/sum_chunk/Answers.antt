-- A chunk's samples, or the configurations with its numbers.
use mathlib.Core.Path.{refl}
use native.Mathlib.Omega.{arith}
use Rattle.totals_configuration.proofs.Laws.Lists.{stage_with, factors_with}
use Rattle.totals_chunks.proofs.Adding.{drawn_plan, numbered_plan, numbers_fit}
use Rattle.totals_chunks.proofs.sum_chunk.Goals as goal

pub sampled_chunk-requires : goal.sampled_chunk-requires
sampled_chunk-requires c =
    let p = c.requires in
    (stage_with p.0 p.2.matched refl refl, factors_with p.1 p.2.matched, p.4, p.5)

pub returns-then-chunks : goal.returns-then-chunks
returns-then-chunks c =
    let s = c in
    let a = s.args in
    λ J of.
    c.sampled_chunk.ensures J
    (drawn_plan J a.plan.now a.factors.now a.chunks a.bits.now a.i a.shape of _ s.requires.2.matched c.if-chunks.true)

pub overflow_mul-from : goal.overflow_mul-from
overflow_mul-from c =
    let p = c.requires in
    omega (arith, numbers_fit c.args.i p.2 c.if-chunks.false p.3)

pub enumerated_chunk-requires : goal.enumerated_chunk-requires
enumerated_chunk-requires c =
    let p = c.requires in
    let d = c.if-chunks.false in (
      p.0,
      p.1,
      record { matched = p.2.matched; bits_fit = p.2.bits_fit d; fits = omega (arith, numbers_fit c.args.i p.2 d p.3) },
      p.4,
      p.5,
    )

pub returns : goal.returns
returns c =
    let a = c.args in
    λ J of.
    c.enumerated_chunk.ensures J
    (numbered_plan J a.plan.now a.factors.now a.chunks a.bits.now a.i a.shape of c.if-chunks.false)
