-- Too short for a head, no rows, a row that is cut, or else the quotient tells.
use Prim.Native.Nat.{◌*◌, ◌<◌}
use native.Mathlib.Omega.{arith}
use Rattle.record_checks.proofs.Laws.Lengths.{few_bytes, too_short, no_rows_other, cut_row, other-count}
use Rattle.record_checks.proofs.range.other_length.Goals as goal

pub returns-then-size-lt32 : goal.returns-then-size-lt32
returns-then-size-lt32 c = too_short c.args.head c.args.size c.if-size-lt32.true

pub overflow_mul-chunk : goal.overflow_mul-chunk
overflow_mul-chunk c = let s = c in omega (arith, few_bytes s.args.head.betas s.args.head.pairs s.requires.1 s.requires.2)

pub overflow_mul-chunk-2 : goal.overflow_mul-chunk-2
overflow_mul-chunk-2 c = let s = c in omega (arith, few_bytes s.args.head.betas s.args.head.pairs s.requires.1 s.requires.2)

pub returns-then-chunk-eq0 : goal.returns-then-chunk-eq0
returns-then-chunk-eq0 c = let a = c.args in no_rows_other a.head a.size (omega (arith, c.if-size-lt32.false)) c.if-chunk-eq0.true

pub returns-then-rows-chunk-ne0 : goal.returns-then-rows-chunk-ne0
returns-then-rows-chunk-ne0 c =
    let a = c.args in
    let p : 0 < 28 * (a.head.betas * a.head.pairs) = omega (arith, c.if-chunk-eq0.false) in
    cut_row a.head a.size (omega (arith, c.if-size-lt32.false)) p c.if-rows-chunk-ne0.true

pub returns : goal.returns
returns c =
    let a = c.args in
    let p : 0 < 28 * (a.head.betas * a.head.pairs) = omega (arith, c.if-chunk-eq0.false) in
    other-count a.head a.size (omega (arith, c.if-size-lt32.false)) p c.if-rows-chunk-ne0.false
