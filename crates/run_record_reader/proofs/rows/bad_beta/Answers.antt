use native.Mathlib.Omega.{arith}
use mathlib.Core.Bool.{false}
use Prim.Native.Nat.{◌+◌, ◌*◌, ◌<◌}
use Rattle.list_laws.proofs.Laws.Search.{start, hit, miss, none}
use Rattle.run_record.specs.Reading.{bad_pair}
use Rattle.run_record.proofs.Laws.Places.{row_inside}
use Rattle.run_record_reader.proofs.rows.bad_beta.Goals as goal

pub loop-p-init : goal.loop-p-init
loop-p-init c = (omega arith, start _)

pub overflow_mul-place : goal.overflow_mul-place
overflow_mul-place c = record { fits = omega (arith, (let it : (let a = c.args in a.chunk * (a.betas * a.pairs) + (a.beta * a.pairs + c.loop-p.p) < (a.chunk + 1) * (a.betas * a.pairs)) = let a = c.args in row_inside (a.chunk + 1) a.betas a.pairs a.chunk a.beta c.loop-p.p (omega arith) (omega arith) (omega arith) in it)) }

pub overflow_mul-place-in-loop-p : goal.overflow_mul-place-in-loop-p
overflow_mul-place-in-loop-p c = record { fits = omega (arith, (let it : (let a = c.args in a.chunk * (a.betas * a.pairs) + (a.beta * a.pairs + c.loop-p.p) < (a.chunk + 1) * (a.betas * a.pairs)) = let a = c.args in row_inside (a.chunk + 1) a.betas a.pairs a.chunk a.beta c.loop-p.p (omega arith) (omega arith) (omega arith) in it)) }

pub overflow_mul-place-in-loop-p-2 : goal.overflow_mul-place-in-loop-p-2
overflow_mul-place-in-loop-p-2 c = record { fits = omega (arith, (let it : (let a = c.args in a.chunk * (a.betas * a.pairs) + (a.beta * a.pairs + c.loop-p.p) < (a.chunk + 1) * (a.betas * a.pairs)) = let a = c.args in row_inside (a.chunk + 1) a.betas a.pairs a.chunk a.beta c.loop-p.p (omega arith) (omega arith) (omega arith) in it)) }

pub overflow_add-place : goal.overflow_add-place
overflow_add-place c = record { fits = omega (arith, (let it : (let a = c.args in a.chunk * (a.betas * a.pairs) + (a.beta * a.pairs + c.loop-p.p) < (a.chunk + 1) * (a.betas * a.pairs)) = let a = c.args in row_inside (a.chunk + 1) a.betas a.pairs a.chunk a.beta c.loop-p.p (omega arith) (omega arith) (omega arith) in it)) }

pub overflow_add-place-in-loop-p : goal.overflow_add-place-in-loop-p
overflow_add-place-in-loop-p c = record { fits = omega (arith, (let it : (let a = c.args in a.chunk * (a.betas * a.pairs) + (a.beta * a.pairs + c.loop-p.p) < (a.chunk + 1) * (a.betas * a.pairs)) = let a = c.args in row_inside (a.chunk + 1) a.betas a.pairs a.chunk a.beta c.loop-p.p (omega arith) (omega arith) (omega arith) in it)) }

pub overflow_mul-place-in-loop-p-3 : goal.overflow_mul-place-in-loop-p-3
overflow_mul-place-in-loop-p-3 c = record { fits = omega (arith, (let it : (let a = c.args in a.chunk * (a.betas * a.pairs) + (a.beta * a.pairs + c.loop-p.p) < (a.chunk + 1) * (a.betas * a.pairs)) = let a = c.args in row_inside (a.chunk + 1) a.betas a.pairs a.chunk a.beta c.loop-p.p (omega arith) (omega arith) (omega arith) in it)) }

pub overflow_add-place-in-loop-p-2 : goal.overflow_add-place-in-loop-p-2
overflow_add-place-in-loop-p-2 c = record { fits = omega (arith, (let it : (let a = c.args in a.chunk * (a.betas * a.pairs) + (a.beta * a.pairs + c.loop-p.p) < (a.chunk + 1) * (a.betas * a.pairs)) = let a = c.args in row_inside (a.chunk + 1) a.betas a.pairs a.chunk a.beta c.loop-p.p (omega arith) (omega arith) (omega arith) in it)) }

pub bad_row-requires : goal.bad_row-requires
bad_row-requires c = (omega (arith, (let it : (let a = c.args in a.chunk * (a.betas * a.pairs) + (a.beta * a.pairs + c.loop-p.p) < (a.chunk + 1) * (a.betas * a.pairs)) = let a = c.args in row_inside (a.chunk + 1) a.betas a.pairs a.chunk a.beta c.loop-p.p (omega arith) (omega arith) (omega arith) in it)), omega arith)

pub returns-then-bad_row : goal.returns-then-bad_row
returns-then-bad_row c =
    let a = c.args in
    hit (bad_pair a.bytes.now a.start a.samples a.betas a.pairs a.chunk a.beta) a.pairs c.loop-p.p (omega arith) _
    c.bad_row.ensures c.if-bad_row.true

pub loop-p-preserved : goal.loop-p-preserved
loop-p-preserved c =
    let a = c.args in (
      omega arith,
      miss (bad_pair a.bytes.now a.start a.samples a.betas a.pairs a.chunk a.beta) c.loop-p.p c.loop-p.invariant.1 _
          c.bad_row.ensures c.if-bad_row.false,
    )

pub returns : goal.returns
returns c =
    let a = c.args in
    none (bad_pair a.bytes.now a.start a.samples a.betas a.pairs a.chunk a.beta) a.pairs c.loop-p.p c.loop-p.invariant.1
    (omega arith) (omega arith)
