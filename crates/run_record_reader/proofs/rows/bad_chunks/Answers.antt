use native.Mathlib.Omega.{arith}
use mathlib.Core.Bool.{false}
use Prim.Native.Nat.{◌+◌, ◌*◌, ◌≤◌}
use native.Mathlib.Nat.{mul-le-mul_right}
use Rattle.list_laws.proofs.Laws.Search.{start, hit, miss, none}
use Rattle.run_record.specs.Reading.{bad_chunk}
use Rattle.run_record_reader.proofs.rows.bad_chunks.Goals as goal

pub loop-c-init : goal.loop-c-init
loop-c-init c = (omega arith, start _)

pub bad_chunk-requires : goal.bad_chunk-requires
bad_chunk-requires c =
    let a = c.args in
    let l : (c.loop-c.c + 1) * (a.betas * a.pairs) ≤ a.chunks * (a.betas * a.pairs) = mul-le-mul_right (a.betas * a.pairs) (omega arith) in
    record { long = omega (arith, c.requires.long); range = omega arith; few-samples = omega arith; few-betas = omega arith; few-pairs = omega arith }

pub returns-then-bad_chunk : goal.returns-then-bad_chunk
returns-then-bad_chunk c =
    let a = c.args in
    hit (bad_chunk a.bytes.now a.start a.samples a.betas a.pairs) a.chunks c.loop-c.c (omega arith) _
    c.bad_chunk.ensures c.if-bad_chunk.true

pub loop-c-preserved : goal.loop-c-preserved
loop-c-preserved c =
    let a = c.args in (
      omega arith,
      miss (bad_chunk a.bytes.now a.start a.samples a.betas a.pairs) c.loop-c.c c.loop-c.invariant.1 _
          c.bad_chunk.ensures c.if-bad_chunk.false,
    )

pub returns : goal.returns
returns c =
    let a = c.args in
    none (bad_chunk a.bytes.now a.start a.samples a.betas a.pairs) a.chunks c.loop-c.c c.loop-c.invariant.1
    (omega arith) (omega arith)
