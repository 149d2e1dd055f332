use native.Mathlib.Omega.{arith}
use mathlib.Core.Bool.{false}
use Rattle.list_laws.proofs.Laws.Search.{start, hit, miss, none}
use Rattle.run_record.specs.Reading.{bad_beta}
use Rattle.run_record_reader.proofs.rows.bad_chunk.Goals as goal

pub loop-b-init : goal.loop-b-init
loop-b-init c = (omega arith, start _)

pub bad_beta-requires : goal.bad_beta-requires
bad_beta-requires c = (c.requires, omega arith)

pub returns-then-bad_beta : goal.returns-then-bad_beta
returns-then-bad_beta c =
    let a = c.args in
    hit (bad_beta a.bytes.now a.start a.samples a.betas a.pairs a.chunk) a.betas c.loop-b.b (omega arith) _
    c.bad_beta.ensures c.if-bad_beta.true

pub loop-b-preserved : goal.loop-b-preserved
loop-b-preserved c =
    let a = c.args in (
      omega arith,
      miss (bad_beta a.bytes.now a.start a.samples a.betas a.pairs a.chunk) c.loop-b.b c.loop-b.invariant.1 _
          c.bad_beta.ensures c.if-bad_beta.false,
    )

pub returns : goal.returns
returns c =
    let a = c.args in
    none (bad_beta a.bytes.now a.start a.samples a.betas a.pairs a.chunk) a.betas c.loop-b.b c.loop-b.invariant.1
    (omega arith) (omega arith)
