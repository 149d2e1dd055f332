use mathlib.Core.Path.{◌≡◌, refl, sym, ◌∙◌, subst}
use mathlib.Core.Bool.{true, not}
use Prim.Native.Nat.{ℕ, ◌+◌, ◌-◌, ◌*◌}
use native.Mathlib.Omega.{arith}
use lib.Ieee.{Float}
use lib.ListN.{length}
use borrow.Author.Tests.{not-true, not-false}
use Rattle.step_tables.proofs.Laws.Constants.{zero_is}
use Rattle.list_laws.specs.Search.{some}
use Rattle.transfer_matrix.specs.Job.{Job}
use Rattle.totals_configuration.proofs.Laws.Chunked.{chunked-none, chunked-more, not_chunked}
use Rattle.totals_configuration.proofs.Laws.Lists.{filled, stage_with}
use Rattle.totals_configuration.specs.Powers.{correlation_at, unsound_betas}
use Rattle.totals_configuration.specs.Sums.{Sums}
use Rattle.totals_chunks.specs.Totals.{PlanOfChunks}
use Rattle.totals_chunks.proofs.Adding.{no, first_chunk, chunk_more, all-summed}
use Rattle.totals_chunks.proofs.Idling.{none-sound, zero_totals}
use Rattle.totals_chunks.proofs.chunked_totals.Goals as goal

pub fill-requires-2 : goal.fill-requires-2
fill-requires-2 c = omega (arith, c.requires.3.squared, c.requires.3.fourthed)

-- nothing to sweep: the totals stay at zero
pub returns-then-nothing : goal.returns-then-nothing
returns-then-nothing c =
    let s = c in
    let p = s.requires.3 in
    let e = p.squared in
    let idle = rw e at (c.nothing.ensures.0 c.if-nothing.true) in
    λ J of. (
      none-sound s.args.chunks _ idle J s.args.us.now s.args.vs.now s.args.shape.betas refl,
      λ _. zero_totals s.args.chunks _ idle _ _ _ _ zero_is (filled s.args.squares.now _ _ _ _ refl e c.fill.ensures)
          (filled s.args.fourths.now _ _ _ _ (e ∙ sym p.fourthed) e c.fill-2.ensures),
    )

pub loop-i-init : goal.loop-i-init
loop-i-init c =
    let s = c in
    let g = s.requires.3 in
    record {
      above = omega arith;
      below = c.nothing.ensures.1 c.if-nothing.false;
      rooms = refl;
      marks = refl;
      results = refl;
      part-squareds = refl;
      part-fourthds = refl;
      squareds = refl;
      fourthds = refl;
      chunked = λ J of.
          first_chunk s.args.chunks.first
          (chunked-none _ _ _ _ _ _ _ zero_is (filled s.args.squares.now _ _ _ _ refl g.squared c.fill.ensures)
          (filled s.args.fourths.now _ _ _ _ (g.squared ∙ sym g.fourthed) g.squared c.fill-2.ensures));
    }

pub sum_chunk-requires : goal.sum_chunk-requires
sum_chunk-requires c =
    let p = c.requires in
    let i = c.loop-i.invariant in
    let g = p.2 in (
      stage_with p.0 refl i.rooms i.results,
      p.1,
      record { matched = i.marks ∙ g.matched; bits_fit = g.bits_fit; fits = g.fits },
      omega (arith, c.loop-i-test.true),
      i.part-squareds ∙ p.3.part-squared,
      i.part-fourthds ∙ p.3.part-fourthed,
    )

pub shape_of-room-then-not-sum_chunk : goal.shape_of-room-then-not-sum_chunk
shape_of-room-then-not-sum_chunk c = c.sum_chunk.auto.room ∙ c.loop-i.invariant.rooms

pub shape_of-signs-then-not-sum_chunk : goal.shape_of-signs-then-not-sum_chunk
shape_of-signs-then-not-sum_chunk c = c.sum_chunk.auto.signs ∙ c.loop-i.invariant.marks

pub shape_of-c-then-not-sum_chunk : goal.shape_of-c-then-not-sum_chunk
shape_of-c-then-not-sum_chunk c = c.sum_chunk.auto.c ∙ c.loop-i.invariant.results

pub shape_of-subsquares-then-not-sum_chunk : goal.shape_of-subsquares-then-not-sum_chunk
shape_of-subsquares-then-not-sum_chunk c = c.sum_chunk.auto.squares ∙ c.loop-i.invariant.part-squareds

pub shape_of-subfourths-then-not-sum_chunk : goal.shape_of-subfourths-then-not-sum_chunk
shape_of-subfourths-then-not-sum_chunk c = c.sum_chunk.auto.fourths ∙ c.loop-i.invariant.part-fourthds

pub shape_of-squares-then-not-sum_chunk : goal.shape_of-squares-then-not-sum_chunk
shape_of-squares-then-not-sum_chunk c = c.loop-i.invariant.squareds ∙ c.fill.auto.room

pub shape_of-fourths-then-not-sum_chunk : goal.shape_of-fourths-then-not-sum_chunk
shape_of-fourths-then-not-sum_chunk c = c.loop-i.invariant.fourthds ∙ c.fill-2.auto.room

pub returns-then-not-sum_chunk : goal.returns-then-not-sum_chunk
returns-then-not-sum_chunk c =
    let s = c in
    let l = c.loop-i in
    λ J of. (
      not_chunked _ _ _ _ (l.i - s.args.chunks.first) _ _ (l.invariant.chunked J of) _ ((let it : (let a = c.args in
          let i = c.loop-i.i in
          let r = c.sum_chunk in
          (J : ℕ → ℕ → ℕ → Job Float) → PlanOfChunks J a.plan.now a.factors.now a.bits.now a.chunks a.shape
          → (r.result ≡ not (some (λ j. unsound_betas (J (a.chunks.first + (i - a.chunks.first)) j) a.us.now a.vs.now a.shape.betas) a.chunks.size))
          × (r.result ≡ true → Sums (λ j. correlation_at (J (a.chunks.first + (i - a.chunks.first)) j) a.us.now a.vs.now) a.chunks.size (a.shape.betas * length a.us.now) r.new.squares r.new.fourths)) = λ J of. let a = c.args in
          let l = c.loop-i in
          let r = c.sum_chunk in
          let z : l.i ≡ a.chunks.first + (l.i - a.chunks.first) = omega (arith, l.invariant.above) in
          subst (λ (x : ℕ). (r.result ≡ not (some (λ j. unsound_betas (J x j) a.us.now a.vs.now a.shape.betas) a.chunks.size))
          × (r.result ≡ true → Sums (λ j. correlation_at (J x j) a.us.now a.vs.now) a.chunks.size (a.shape.betas * length a.us.now) r.new.squares r.new.fourths)) z (r.ensures (J l.i) (of l.i)) in it) J of).0 _ (omega (arith, l.invariant.above, c.loop-i-test.true)) (not-true _ c.if-not-sum_chunk.true-raw),
      λ z. absurd (no (sym z)),
    )

pub add_sums-requires : goal.add_sums-requires
add_sums-requires c =
    let i = c.loop-i.invariant in
    let g = c.requires.3 in
    i.squareds ∙ c.fill.auto.room ∙ g.squared ∙ sym (c.sum_chunk.auto.squares ∙ i.part-squareds ∙ g.part-squared)

pub add_sums-requires-in-loop-i : goal.add_sums-requires-in-loop-i
add_sums-requires-in-loop-i c =
    let i = c.loop-i.invariant in
    let g = c.requires.3 in
    i.fourthds ∙ c.fill-2.auto.room ∙ g.fourthed ∙ sym (c.sum_chunk.auto.fourths ∙ i.part-fourthds ∙ g.part-fourthed)

pub loop-i-preserved : goal.loop-i-preserved
loop-i-preserved c =
    let s = c in
    let l = c.loop-i in
    let g = l.invariant in
    let a = c.sum_chunk in
    let x = c.add_sums in
    let y = c.add_sums-in-loop-i in
    let t = c.loop-i-test.true in
    let yes = not-false _ c.if-not-sum_chunk.false-raw in
    let n = s.requires.3 in
    record {
      above = omega (arith, g.above);
      below = omega arith;
      rooms = a.auto.room ∙ g.rooms;
      marks = a.auto.signs ∙ g.marks;
      results = a.auto.c ∙ g.results;
      part-squareds = a.auto.squares ∙ g.part-squareds;
      part-fourthds = a.auto.fourths ∙ g.part-fourthds;
      squareds = x.auto.totals ∙ g.squareds;
      fourthds = y.auto.totals ∙ g.fourthds;
      chunked = λ J of.
          let was = (let it : (let a = c.args in
          let i = c.loop-i.i in
          let r = c.sum_chunk in
          (J : ℕ → ℕ → ℕ → Job Float) → PlanOfChunks J a.plan.now a.factors.now a.bits.now a.chunks a.shape
          → (r.result ≡ not (some (λ j. unsound_betas (J (a.chunks.first + (i - a.chunks.first)) j) a.us.now a.vs.now a.shape.betas) a.chunks.size))
          × (r.result ≡ true → Sums (λ j. correlation_at (J (a.chunks.first + (i - a.chunks.first)) j) a.us.now a.vs.now) a.chunks.size (a.shape.betas * length a.us.now) r.new.squares r.new.fourths)) = λ J of. let a = c.args in
          let l = c.loop-i in
          let r = c.sum_chunk in
          let z : l.i ≡ a.chunks.first + (l.i - a.chunks.first) = omega (arith, l.invariant.above) in
          subst (λ (x : ℕ). (r.result ≡ not (some (λ j. unsound_betas (J x j) a.us.now a.vs.now a.shape.betas) a.chunks.size))
          × (r.result ≡ true → Sums (λ j. correlation_at (J x j) a.us.now a.vs.now) a.chunks.size (a.shape.betas * length a.us.now) r.new.squares r.new.fourths)) z (r.ensures (J l.i) (of l.i)) in it) J of in
          chunk_more s.args.chunks.first l.i g.above
          (chunked-more _ _ _ _ (l.i - s.args.chunks.first) _ _ (g.chunked J of) _ was.0 _ _ _ _ yes (was.1 yes)
          (rw (g.squareds ∙ c.fill.auto.room ∙ n.squared) at x.ensures) (rw (g.fourthds ∙ c.fill-2.auto.room ∙ n.fourthed) at y.ensures));
    }

pub shape_of-room : goal.shape_of-room
shape_of-room c = c.loop-i.invariant.rooms

pub shape_of-signs : goal.shape_of-signs
shape_of-signs c = c.loop-i.invariant.marks

pub shape_of-c : goal.shape_of-c
shape_of-c c = c.loop-i.invariant.results

pub shape_of-subsquares : goal.shape_of-subsquares
shape_of-subsquares c = c.loop-i.invariant.part-squareds

pub shape_of-subfourths : goal.shape_of-subfourths
shape_of-subfourths c = c.loop-i.invariant.part-fourthds

pub shape_of-squares : goal.shape_of-squares
shape_of-squares c = c.loop-i.invariant.squareds ∙ c.fill.auto.room

pub shape_of-fourths : goal.shape_of-fourths
shape_of-fourths c = c.loop-i.invariant.fourthds ∙ c.fill-2.auto.room

pub returns : goal.returns
returns c =
    let s = c in
    let l = c.loop-i in
    let e : l.i ≡ s.args.chunks.end = omega (arith, l.invariant.below, c.loop-i-test.false) in
    λ J of.
    let g = all-summed (λ i j. unsound_betas (J i j) s.args.us.now s.args.vs.now s.args.shape.betas)
    (λ i j. correlation_at (J i j) s.args.us.now s.args.vs.now) s.args.chunks _ _ _ (rw e at (l.invariant.chunked J of)) in
    (g.0, λ _. g.1)
