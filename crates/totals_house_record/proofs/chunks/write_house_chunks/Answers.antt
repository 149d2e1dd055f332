use mathlib.Core.Path.{◌≡◌, refl, sym, ◌∙◌}
use Prim.Native.Nat.{◌*◌}
use native.Mathlib.Omega.{arith}
use lib.ListN.{length}
use borrow.Author.Tests.{not-true, not-false}
use Rattle.run_record.specs.Records.{per_chunk}
use Rattle.totals_call.proofs.Laws.Entering.{drawn-numbered}
use Rattle.transfer_matrix.specs.Room.{arranged}
use Rattle.totals_call.specs.Finished.{stepping}
use Rattle.refusals.specs.Couplings.{all_couplings}
use Rattle.house_factors.specs.Factors.{paired_factors}
use Rattle.totals_record.specs.Written.{chunk_of}
use Rattle.totals_house_record.proofs.Laws.Housing.{passed_with, totals_with}
use Rattle.totals_record.proofs.Laws.Writing.{writing_none, writing_more, not_written, all-written, none_written}
use Rattle.totals_house_record.proofs.chunks.write_house_chunks.Goals as goal

pub returns-then-squares-eq0 : goal.returns-then-squares-eq0
returns-then-squares-eq0 c =
    let s = c in
    let a = s.args in
    none_written a.n a.w a.early.now a.late.now (paired_factors (all_couplings a.betas.now a.mag.now)) (stepping a.elementwise) a.us.now a.vs.now a.head (arranged a.less) (length a.early.now) a.bytes.now a.work.now s.requires.2 (sym s.requires.5 ∙ c.if-squares-eq0.true)

pub overflow_sub-chunks : goal.overflow_sub-chunks
overflow_sub-chunks c = c.requires.3

pub loop-c-init : goal.loop-c-init
loop-c-init c = writing_none _ _ _ _ _ _ _ _ _ _ _ _ _ _ _

pub overflow_add-first : goal.overflow_add-first
overflow_add-first c = let s = c in omega (arith, s.requires.3, c.loop-c-test.true, s.well_formed)

pub overflow_add-end : goal.overflow_add-end
overflow_add-end c = let s = c in omega (arith, s.requires.3, c.loop-c-test.true, s.well_formed)

pub total_house_job-requires : goal.total_house_job-requires
total_house_job-requires c =
    let s = c in
    let a = s.args in
    let l = c.loop-c in
    let i = l.invariant in
    let e : per_chunk a.head ≡ length a.betas.now * length a.us.now = rw (s.requires.1, s.requires.2) in
    (passed_with s.requires.0 i.memories, drawn-numbered a.head.seed _ _ a.head.samples a.early.now a.late.now a.early.now refl, i.squareds ∙ s.requires.5 ∙ e, i.fourthds ∙ s.requires.6 ∙ e)

pub shape_of-squares-then-not-total_house_job : goal.shape_of-squares-then-not-total_house_job
shape_of-squares-then-not-total_house_job c = c.total_house_job.auto.squares ∙ c.loop-c.invariant.squareds

pub shape_of-fourths-then-not-total_house_job : goal.shape_of-fourths-then-not-total_house_job
shape_of-fourths-then-not-total_house_job c = c.total_house_job.auto.fourths ∙ c.loop-c.invariant.fourthds

pub shape_of-bytes-then-not-total_house_job : goal.shape_of-bytes-then-not-total_house_job
shape_of-bytes-then-not-total_house_job c = c.loop-c.invariant.written.size

pub shape_of-work-then-not-total_house_job : goal.shape_of-work-then-not-total_house_job
shape_of-work-then-not-total_house_job c = c.total_house_job.auto.work ∙ c.loop-c.invariant.memories

pub returns-then-not-total_house_job : goal.returns-then-not-total_house_job
returns-then-not-total_house_job c =
    let a = c.args in
    not_written a.n a.w a.early.now a.late.now (paired_factors (all_couplings a.betas.now a.mag.now)) (stepping a.elementwise) a.us.now a.vs.now a.head (arranged a.less) (length a.early.now) c.loop-c.invariant c.loop-c-test.true (totals_with a.n a.w a.early.now a.late.now (paired_factors (all_couplings a.betas.now a.mag.now)) (stepping a.elementwise) a.us.now a.vs.now (length a.betas.now) a.head.betas (chunk_of a.head c.loop-c.c) (arranged a.less) (length a.early.now) c.requires.1 c.total_house_job.ensures) (not-true _ c.if-not-total_house_job.true-raw)

pub put_chunk-requires : goal.put_chunk-requires
put_chunk-requires c =
    let s = c in
    let i = c.loop-c.invariant in
    let t = c.total_house_job.auto in
    (i.written.size ∙ s.requires.4, c.loop-c-test.true, t.squares ∙ i.squareds ∙ s.requires.5, t.fourths ∙ i.fourthds ∙ s.requires.6)

pub loop-c-preserved : goal.loop-c-preserved
loop-c-preserved c =
    let t = c.total_house_job in
    let a = c.args in
    writing_more a.n a.w a.early.now a.late.now (paired_factors (all_couplings a.betas.now a.mag.now)) (stepping a.elementwise) a.us.now a.vs.now a.head (arranged a.less) (length a.early.now) c.loop-c.invariant c.loop-c-test.true (totals_with a.n a.w a.early.now a.late.now (paired_factors (all_couplings a.betas.now a.mag.now)) (stepping a.elementwise) a.us.now a.vs.now (length a.betas.now) a.head.betas (chunk_of a.head c.loop-c.c) (arranged a.less) (length a.early.now) c.requires.1 t.ensures) (not-false _ c.if-not-total_house_job.false-raw)
    t.auto.squares t.auto.fourths t.auto.work c.put_chunk.ensures

pub shape_of-squares : goal.shape_of-squares
shape_of-squares c = c.loop-c.invariant.squareds

pub shape_of-fourths : goal.shape_of-fourths
shape_of-fourths c = c.loop-c.invariant.fourthds

pub shape_of-bytes : goal.shape_of-bytes
shape_of-bytes c = c.loop-c.invariant.written.size

pub shape_of-work : goal.shape_of-work
shape_of-work c = c.loop-c.invariant.memories

pub returns : goal.returns
returns c =
    let l = c.loop-c in
    let a = c.args in
    all-written a.n a.w a.early.now a.late.now (paired_factors (all_couplings a.betas.now a.mag.now)) (stepping a.elementwise) a.us.now a.vs.now a.head (arranged a.less) (length a.early.now) (omega (arith, l.invariant.below)) l.invariant
