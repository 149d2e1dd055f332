-- The head, the rows, and a cleared room; where some Z is not sound the bytes too.
use mathlib.Core.Path.{sym, ◌∙◌}
use Prim.Native.Nat.{◌≤◌}
use native.Mathlib.Omega.{arith}
use lib.ListN.{length}
use lib.Seq.{length-take-le}
use borrow.Author.Rules.{rules}
use borrow.Author.Tests.{not-true, not-false}
use Rattle.transfer_matrix.specs.Room.{arranged}
use Rattle.totals_call.specs.Finished.{stepping}
use Rattle.totals_record.proofs.Laws.Finishing.{room-cleared, recorded, wiped, record_sums}
use Rattle.totals_record.proofs.job.record_job.Goals as goal

pub overflow_mul-sums : goal.overflow_mul-sums
overflow_mul-sums c = let s = c in omega (arith, record_sums s.args.head s.requires.0 s.requires.1)

pub put_head-requires : goal.put_head-requires
put_head-requires c = search rules

pub slice_bounds-squares-end : goal.slice_bounds-squares-end
slice_bounds-squares-end c = let s = c in record_sums s.args.head s.requires.0 s.requires.1

pub slice_bounds-write_chunks-end : goal.slice_bounds-write_chunks-end
slice_bounds-write_chunks-end c = let s = c in sym (length-take-le _ _ (omega (arith, record_sums s.args.head s.requires.0 s.requires.1)))

pub slice_bounds-fourths-end : goal.slice_bounds-fourths-end
slice_bounds-fourths-end c = let s = c in record_sums s.args.head s.requires.0 s.requires.1

pub slice_bounds-write_chunks-end-2 : goal.slice_bounds-write_chunks-end-2
slice_bounds-write_chunks-end-2 c = let s = c in sym (length-take-le _ _ (omega (arith, record_sums s.args.head s.requires.0 s.requires.1)))

pub write_chunks-sound-requires : goal.write_chunks-sound-requires
write_chunks-sound-requires c =
    let s = c in
    let l = record_sums s.args.head s.requires.0 s.requires.1 in
    (s.requires.0, s.requires.1, s.requires.2, c.put_head.auto.bytes ∙ s.requires.3, length-take-le _ _ (omega (arith, l)), length-take-le _ _ (omega (arith, l)))

pub room_needed-end-requires : goal.room_needed-end-requires
room_needed-end-requires c =
    let p = c.requires.0.job in
    (p.pairs, p.edges.few, p.edges.narrow, p.few-edges)

pub slice_bounds-clear-end : goal.slice_bounds-clear-end
slice_bounds-clear-end c = (let it : c.room_needed-end.result ≤ length c.write_chunks-sound.new.work = let p = c.requires.0.job in omega (arith, c.room_needed-end.ensures, p.roomy, c.write_chunks-sound.auto.work) in it)

pub slice_bounds-clear-end-2 : goal.slice_bounds-clear-end-2
slice_bounds-clear-end-2 c = sym (length-take-le _ c.write_chunks-sound.new.work ((let it : c.room_needed-end.result ≤ length c.write_chunks-sound.new.work = let p = c.requires.0.job in omega (arith, c.room_needed-end.ensures, p.roomy, c.write_chunks-sound.auto.work) in it)))

pub clear-requires : goal.clear-requires
clear-requires c = search rules

pub clear_bytes-requires : goal.clear_bytes-requires
clear_bytes-requires c = search rules

pub returns-then-not-sound : goal.returns-then-not-sound
returns-then-not-sound c =
    let s = c in
    let a = s.args in
    let t = c.write_chunks-sound in
    let n = c.room_needed-end in
    let memory = room-cleared n.result _ a.work.now t.new.work c.clear.new.list n.ensures ((let it : c.room_needed-end.result ≤ length c.write_chunks-sound.new.work = let p = c.requires.0.job in omega (arith, c.room_needed-end.ensures, p.roomy, c.write_chunks-sound.auto.work) in it)) c.clear.ensures t.ensures.behind in
    wiped a.n a.w a.early.now a.late.now a.factors.now (stepping a.elementwise) a.us.now a.vs.now a.head (arranged a.less) (length a.early.now)
    s.requires.3 c.put_head.ensures t.ensures memory (not-true _ c.if-not-sound.true-raw) t.auto.bytes c.clear_bytes.ensures

pub returns-else-not-sound : goal.returns-else-not-sound
returns-else-not-sound c =
    let s = c in
    let a = s.args in
    let t = c.write_chunks-sound in
    let n = c.room_needed-end in
    let memory = room-cleared n.result _ a.work.now t.new.work c.clear.new.list n.ensures ((let it : c.room_needed-end.result ≤ length c.write_chunks-sound.new.work = let p = c.requires.0.job in omega (arith, c.room_needed-end.ensures, p.roomy, c.write_chunks-sound.auto.work) in it)) c.clear.ensures t.ensures.behind in
    recorded a.n a.w a.early.now a.late.now a.factors.now (stepping a.elementwise) a.us.now a.vs.now a.head (arranged a.less) (length a.early.now)
    s.requires.3 c.put_head.ensures t.ensures memory (not-false _ c.if-not-sound.false-raw)
