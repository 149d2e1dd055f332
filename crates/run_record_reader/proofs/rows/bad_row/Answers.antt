-- By the tests in turn.
use Rattle.run_record.proofs.Laws.Cases.{other-kind, other_chunk, other-beta, other-pair, by_sums}
use Rattle.run_record_reader.proofs.rows.bad_row.Goals as goal

pub returns-then-word_at-ne18 : goal.returns-then-word_at-ne18
returns-then-word_at-ne18 c =
    let a = c.args in
    other-kind a.bytes.now a.place a.chunk a.beta a.pair a.samples _ 0 0 0 c.word_at.ensures c.if-word_at-ne18.true

pub returns-then-word_at-chunk : goal.returns-then-word_at-chunk
returns-then-word_at-chunk c =
    let a = c.args in
    other_chunk a.bytes.now a.place a.chunk a.beta a.pair a.samples _ _ 0 0 c.word_at.ensures c.if-word_at-ne18.false
    c.word_at-2.ensures c.if-word_at-chunk.true

pub returns-then-word_at-beta : goal.returns-then-word_at-beta
returns-then-word_at-beta c =
    let a = c.args in
    other-beta a.bytes.now a.place a.chunk a.beta a.pair a.samples _ _ _ 0 c.word_at.ensures c.if-word_at-ne18.false
    c.word_at-2.ensures c.if-word_at-chunk.false c.word_at-3.ensures c.if-word_at-beta.true

pub returns-then-word_at-pair : goal.returns-then-word_at-pair
returns-then-word_at-pair c =
    let a = c.args in
    other-pair a.bytes.now a.place a.chunk a.beta a.pair a.samples _ _ _ _ c.word_at.ensures c.if-word_at-ne18.false
    c.word_at-2.ensures c.if-word_at-chunk.false c.word_at-3.ensures c.if-word_at-beta.false c.word_at-4.ensures c.if-word_at-pair.true

pub returns : goal.returns
returns c =
    let a = c.args in
    rw (c.bad_sums.ensures, c.word_at-5.ensures, c.word_at-6.ensures)
    (by_sums a.bytes.now a.place a.chunk a.beta a.pair a.samples _ _ _ _ c.word_at.ensures c.if-word_at-ne18.false
    c.word_at-2.ensures c.if-word_at-chunk.false c.word_at-3.ensures c.if-word_at-beta.false c.word_at-4.ensures c.if-word_at-pair.false)
