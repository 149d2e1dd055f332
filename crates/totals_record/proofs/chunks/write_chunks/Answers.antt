use mathlib.Core.Path.{◌≡◌, refl, sym, ap, ◌∙◌}
use Prim.Native.Nat.{ℕ, ◌*◌}
use native.Mathlib.Omega.{arith}
use lib.ListN.{length}
use borrow.Author.Tests.{not-true, not-false}
use Rattle.run_record.specs.Records.{per_chunk}
use Rattle.totals_call.proofs.Laws.Entering.{drawn-numbered}
use Rattle.transfer_matrix.specs.Room.{arranged}
use Rattle.totals_call.specs.Finished.{stepping}
use Rattle.totals_record.proofs.Laws.Writing.{passed_with, writing_none, writing_more, not_written, all-written, none_written}
use Rattle.totals_record.proofs.chunks.write_chunks.Goals as goal

pub returns-then-squares-eq0 : goal.returns-then-squares-eq0
returns-then-squares-eq0 c =
    let s = c in
    let a = s.args in
    none_written a.n a.w a.early.now a.late.now a.factors.now (stepping a.elementwise) a.us.now a.vs.now a.head (arranged a.less) (length a.early.now) a.bytes.now a.work.now s.requires.1 (sym s.requires.4 ∙ c.if-squares-eq0.true)

pub overflow_sub-chunks : goal.overflow_sub-chunks
overflow_sub-chunks c = c.requires.2

pub loop-c-init : goal.loop-c-init
loop-c-init c = writing_none _ _ _ _ _ _ _ _ _ _ _ _ _ _ _

pub overflow_add-first : goal.overflow_add-first
overflow_add-first c = let s = c in omega (arith, s.requires.2, c.loop-c-test.true, s.well_formed)

pub overflow_add-end : goal.overflow_add-end
overflow_add-end c = let s = c in omega (arith, s.requires.2, c.loop-c-test.true, s.well_formed)

pub total_job-requires : goal.total_job-requires
total_job-requires c =
    let s = c in
    let a = s.args in
    let l = c.loop-c in
    let i = l.invariant in
    let e : per_chunk a.head ≡ a.head.betas * length a.us.now = ap (λ (k : ℕ). a.head.betas * k) s.requires.1 in
    (passed_with s.requires.0 i.memories, drawn-numbered a.head.seed _ _ a.head.samples a.early.now a.late.now a.early.now refl, i.squareds ∙ s.requires.4 ∙ e, i.fourthds ∙ s.requires.5 ∙ e)

pub shape_of-squares-then-not-total_job : goal.shape_of-squares-then-not-total_job
shape_of-squares-then-not-total_job c = c.total_job.auto.squares ∙ c.loop-c.invariant.squareds

pub shape_of-fourths-then-not-total_job : goal.shape_of-fourths-then-not-total_job
shape_of-fourths-then-not-total_job c = c.total_job.auto.fourths ∙ c.loop-c.invariant.fourthds

pub shape_of-bytes-then-not-total_job : goal.shape_of-bytes-then-not-total_job
shape_of-bytes-then-not-total_job c = c.loop-c.invariant.written.size

pub shape_of-work-then-not-total_job : goal.shape_of-work-then-not-total_job
shape_of-work-then-not-total_job c = c.total_job.auto.work ∙ c.loop-c.invariant.memories

pub returns-then-not-total_job : goal.returns-then-not-total_job
returns-then-not-total_job c =
    let a = c.args in
    not_written a.n a.w a.early.now a.late.now a.factors.now (stepping a.elementwise) a.us.now a.vs.now a.head (arranged a.less) (length a.early.now) c.loop-c.invariant c.loop-c-test.true c.total_job.ensures (not-true _ c.if-not-total_job.true-raw)

pub put_chunk-requires : goal.put_chunk-requires
put_chunk-requires c =
    let s = c in
    let i = c.loop-c.invariant in
    let t = c.total_job.auto in
    (i.written.size ∙ s.requires.3, c.loop-c-test.true, t.squares ∙ i.squareds ∙ s.requires.4, t.fourths ∙ i.fourthds ∙ s.requires.5)

pub loop-c-preserved : goal.loop-c-preserved
loop-c-preserved c =
    let t = c.total_job in
    let a = c.args in
    writing_more a.n a.w a.early.now a.late.now a.factors.now (stepping a.elementwise) a.us.now a.vs.now a.head (arranged a.less) (length a.early.now) c.loop-c.invariant c.loop-c-test.true t.ensures (not-false _ c.if-not-total_job.false-raw)
    t.auto.squares t.auto.fourths t.auto.work c.put_chunk.ensures

pub shape_of-squares : goal.shape_of-squares
shape_of-squares c = c.loop-c.invariant.squareds

pub shape_of-fourths : goal.shape_of-fourths
shape_of-fourths c = c.loop-c.invariant.fourthds

pub shape_of-bytes : goal.shape_of-bytes
shape_of-bytes c = c.loop-c.invariant.written.size

pub shape_of-work : goal.shape_of-work
shape_of-work c = c.loop-c.invariant.memories

pub returns : goal.returns
returns c =
    let l = c.loop-c in
    let a = c.args in
    all-written a.n a.w a.early.now a.late.now a.factors.now (stepping a.elementwise) a.us.now a.vs.now a.head (arranged a.less) (length a.early.now) (omega (arith, l.invariant.below)) l.invariant
