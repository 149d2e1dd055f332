-- The counts, the lists' lengths, and each list by its own loop.
use Rattle.std.proofs.lemmas.Result.{err_from_is_err_and}
use mathlib.Core.Path.{sym, ◌∙◌}
use native.Mathlib.Omega.{arith}
use Rattle.job_sheet_lists.proofs.Laws.Calls.{counted_is, refused-sheet, short-first, short-second, short-third, Roomy, places_fit}
use Rattle.job_sheet_lists.proofs.Laws.Calls.{load_ones, load_others, load_magnitudes, load_betas, load_firsts, load_seconds, loaded}
use Rattle.job_sheet_lists.proofs.sheet_job.Goals as goal

pub returns-in_err-counts : goal.returns-in_err-counts
returns-in_err-counts c =
    let p = err_from_is_err_and c.from_residual.result c.from_residual.ensures.1 in
    rw (p.1, p.2) (refused-sheet _ _ _ _ _ _ _ _ c.in_err-counts.ensures.0)

pub returns-then-too_short : goal.returns-then-too_short
returns-then-too_short c =
    let t1 = c in
    let e1 = t1 in
    let k = e1 in
    let s = k in
    short-first s.args.sheet.now s.args.a.now s.args.b.now s.args.m.now s.args.betas.now s.args.us.now s.args.vs.now c.in_ok-counts.counts.edges c.in_ok-counts.counts.betas c.in_ok-counts.counts.pairs
    (counted_is _ _ c.in_ok-counts.ensures) (sym t1.too_short.ensures ∙ c.if-too_short.true)

pub returns-then-too_short-2 : goal.returns-then-too_short-2
returns-then-too_short-2 c =
    let t2 = c in
    let e2 = t2 in
    let t1 = e2 in
    let e1 = t1 in
    let k = e1 in
    let s = k in
    short-second s.args.sheet.now s.args.a.now s.args.b.now s.args.m.now s.args.betas.now s.args.us.now s.args.vs.now c.in_ok-counts.counts.edges c.in_ok-counts.counts.betas c.in_ok-counts.counts.pairs
    (counted_is _ _ c.in_ok-counts.ensures) (sym t1.too_short.ensures ∙ e2.if-too_short.false) (sym t2.too_short-2.ensures ∙ c.if-too_short-2.true)

pub returns-then-too_short-3 : goal.returns-then-too_short-3
returns-then-too_short-3 c =
    let t3 = c in
    let e3 = t3 in
    let t2 = e3 in
    let e2 = t2 in
    let t1 = e2 in
    let e1 = t1 in
    let k = e1 in
    let s = k in
    short-third s.args.sheet.now s.args.a.now s.args.b.now s.args.m.now s.args.betas.now s.args.us.now s.args.vs.now c.in_ok-counts.counts.edges c.in_ok-counts.counts.betas c.in_ok-counts.counts.pairs
    (counted_is _ _ c.in_ok-counts.ensures) (sym t1.too_short.ensures ∙ e2.if-too_short.false) (sym t2.too_short-2.ensures ∙ e3.if-too_short-2.false) (sym t3.too_short-3.ensures ∙ c.if-too_short-3.true)

pub overflow_mul-first_beta : goal.overflow_mul-first_beta
overflow_mul-first_beta c = omega (
  arith,
  places_fit ((let it : Roomy c.args.sheet.now c.args.a.now c.args.b.now c.args.m.now c.args.betas.now c.args.us.now c.args.vs.now c.in_ok-counts.counts.edges c.in_ok-counts.counts.betas c.in_ok-counts.counts.pairs = let t3 = c in
      let e3 = t3 in
      let t2 = e3 in
      let e2 = t2 in
      let t1 = e2 in
      let e1 = t1 in
      record {
        counts = counted_is _ _ c.in_ok-counts.ensures;
        ends = sym t1.too_short.ensures ∙ e2.if-too_short.false;
        doubles = sym t2.too_short-2.ensures ∙ e3.if-too_short-2.false;
        pairs = sym t3.too_short-3.ensures ∙ c.if-too_short-3.false;
      } in it)),
)

pub overflow_add-first_beta : goal.overflow_add-first_beta
overflow_add-first_beta c = omega (
  arith,
  places_fit ((let it : Roomy c.args.sheet.now c.args.a.now c.args.b.now c.args.m.now c.args.betas.now c.args.us.now c.args.vs.now c.in_ok-counts.counts.edges c.in_ok-counts.counts.betas c.in_ok-counts.counts.pairs = let t3 = c in
      let e3 = t3 in
      let t2 = e3 in
      let e2 = t2 in
      let t1 = e2 in
      let e1 = t1 in
      record {
        counts = counted_is _ _ c.in_ok-counts.ensures;
        ends = sym t1.too_short.ensures ∙ e2.if-too_short.false;
        doubles = sym t2.too_short-2.ensures ∙ e3.if-too_short-2.false;
        pairs = sym t3.too_short-3.ensures ∙ c.if-too_short-3.false;
      } in it)),
)

pub overflow_mul-first_pair : goal.overflow_mul-first_pair
overflow_mul-first_pair c = omega (
  arith,
  places_fit ((let it : Roomy c.args.sheet.now c.args.a.now c.args.b.now c.args.m.now c.args.betas.now c.args.us.now c.args.vs.now c.in_ok-counts.counts.edges c.in_ok-counts.counts.betas c.in_ok-counts.counts.pairs = let t3 = c in
      let e3 = t3 in
      let t2 = e3 in
      let e2 = t2 in
      let t1 = e2 in
      let e1 = t1 in
      record {
        counts = counted_is _ _ c.in_ok-counts.ensures;
        ends = sym t1.too_short.ensures ∙ e2.if-too_short.false;
        doubles = sym t2.too_short-2.ensures ∙ e3.if-too_short-2.false;
        pairs = sym t3.too_short-3.ensures ∙ c.if-too_short-3.false;
      } in it)),
)

pub overflow_add-first_pair : goal.overflow_add-first_pair
overflow_add-first_pair c = omega (
  arith,
  places_fit ((let it : Roomy c.args.sheet.now c.args.a.now c.args.b.now c.args.m.now c.args.betas.now c.args.us.now c.args.vs.now c.in_ok-counts.counts.edges c.in_ok-counts.counts.betas c.in_ok-counts.counts.pairs = let t3 = c in
      let e3 = t3 in
      let t2 = e3 in
      let e2 = t2 in
      let t1 = e2 in
      let e1 = t1 in
      record {
        counts = counted_is _ _ c.in_ok-counts.ensures;
        ends = sym t1.too_short.ensures ∙ e2.if-too_short.false;
        doubles = sym t2.too_short-2.ensures ∙ e3.if-too_short-2.false;
        pairs = sym t3.too_short-3.ensures ∙ c.if-too_short-3.false;
      } in it)),
)

pub load_numbers-requires : goal.load_numbers-requires
load_numbers-requires c = load_ones ((let it : Roomy c.args.sheet.now c.args.a.now c.args.b.now c.args.m.now c.args.betas.now c.args.us.now c.args.vs.now c.in_ok-counts.counts.edges c.in_ok-counts.counts.betas c.in_ok-counts.counts.pairs = let t3 = c in
    let e3 = t3 in
    let t2 = e3 in
    let e2 = t2 in
    let t1 = e2 in
    let e1 = t1 in
    record {
      counts = counted_is _ _ c.in_ok-counts.ensures;
      ends = sym t1.too_short.ensures ∙ e2.if-too_short.false;
      doubles = sym t2.too_short-2.ensures ∙ e3.if-too_short-2.false;
      pairs = sym t3.too_short-3.ensures ∙ c.if-too_short-3.false;
    } in it))

pub load_numbers-requires-2 : goal.load_numbers-requires-2
load_numbers-requires-2 c = load_others ((let it : Roomy c.args.sheet.now c.args.a.now c.args.b.now c.args.m.now c.args.betas.now c.args.us.now c.args.vs.now c.in_ok-counts.counts.edges c.in_ok-counts.counts.betas c.in_ok-counts.counts.pairs = let t3 = c in
    let e3 = t3 in
    let t2 = e3 in
    let e2 = t2 in
    let t1 = e2 in
    let e1 = t1 in
    record {
      counts = counted_is _ _ c.in_ok-counts.ensures;
      ends = sym t1.too_short.ensures ∙ e2.if-too_short.false;
      doubles = sym t2.too_short-2.ensures ∙ e3.if-too_short-2.false;
      pairs = sym t3.too_short-3.ensures ∙ c.if-too_short-3.false;
    } in it))

pub load_words-requires : goal.load_words-requires
load_words-requires c = load_magnitudes ((let it : Roomy c.args.sheet.now c.args.a.now c.args.b.now c.args.m.now c.args.betas.now c.args.us.now c.args.vs.now c.in_ok-counts.counts.edges c.in_ok-counts.counts.betas c.in_ok-counts.counts.pairs = let t3 = c in
    let e3 = t3 in
    let t2 = e3 in
    let e2 = t2 in
    let t1 = e2 in
    let e1 = t1 in
    record {
      counts = counted_is _ _ c.in_ok-counts.ensures;
      ends = sym t1.too_short.ensures ∙ e2.if-too_short.false;
      doubles = sym t2.too_short-2.ensures ∙ e3.if-too_short-2.false;
      pairs = sym t3.too_short-3.ensures ∙ c.if-too_short-3.false;
    } in it))

pub load_words-requires-2 : goal.load_words-requires-2
load_words-requires-2 c = load_betas ((let it : Roomy c.args.sheet.now c.args.a.now c.args.b.now c.args.m.now c.args.betas.now c.args.us.now c.args.vs.now c.in_ok-counts.counts.edges c.in_ok-counts.counts.betas c.in_ok-counts.counts.pairs = let t3 = c in
    let e3 = t3 in
    let t2 = e3 in
    let e2 = t2 in
    let t1 = e2 in
    let e1 = t1 in
    record {
      counts = counted_is _ _ c.in_ok-counts.ensures;
      ends = sym t1.too_short.ensures ∙ e2.if-too_short.false;
      doubles = sym t2.too_short-2.ensures ∙ e3.if-too_short-2.false;
      pairs = sym t3.too_short-3.ensures ∙ c.if-too_short-3.false;
    } in it))

pub load_numbers-requires-3 : goal.load_numbers-requires-3
load_numbers-requires-3 c = load_firsts ((let it : Roomy c.args.sheet.now c.args.a.now c.args.b.now c.args.m.now c.args.betas.now c.args.us.now c.args.vs.now c.in_ok-counts.counts.edges c.in_ok-counts.counts.betas c.in_ok-counts.counts.pairs = let t3 = c in
    let e3 = t3 in
    let t2 = e3 in
    let e2 = t2 in
    let t1 = e2 in
    let e1 = t1 in
    record {
      counts = counted_is _ _ c.in_ok-counts.ensures;
      ends = sym t1.too_short.ensures ∙ e2.if-too_short.false;
      doubles = sym t2.too_short-2.ensures ∙ e3.if-too_short-2.false;
      pairs = sym t3.too_short-3.ensures ∙ c.if-too_short-3.false;
    } in it))

pub load_numbers-requires-4 : goal.load_numbers-requires-4
load_numbers-requires-4 c = load_seconds ((let it : Roomy c.args.sheet.now c.args.a.now c.args.b.now c.args.m.now c.args.betas.now c.args.us.now c.args.vs.now c.in_ok-counts.counts.edges c.in_ok-counts.counts.betas c.in_ok-counts.counts.pairs = let t3 = c in
    let e3 = t3 in
    let t2 = e3 in
    let e2 = t2 in
    let t1 = e2 in
    let e1 = t1 in
    record {
      counts = counted_is _ _ c.in_ok-counts.ensures;
      ends = sym t1.too_short.ensures ∙ e2.if-too_short.false;
      doubles = sym t2.too_short-2.ensures ∙ e3.if-too_short-2.false;
      pairs = sym t3.too_short-3.ensures ∙ c.if-too_short-3.false;
    } in it))

pub number_at-requires : goal.number_at-requires
number_at-requires c = let z = places_fit ((let it : Roomy c.args.sheet.now c.args.a.now c.args.b.now c.args.m.now c.args.betas.now c.args.us.now c.args.vs.now c.in_ok-counts.counts.edges c.in_ok-counts.counts.betas c.in_ok-counts.counts.pairs = let t3 = c in
    let e3 = t3 in
    let t2 = e3 in
    let e2 = t2 in
    let t1 = e2 in
    let e1 = t1 in
    record {
      counts = counted_is _ _ c.in_ok-counts.ensures;
      ends = sym t1.too_short.ensures ∙ e2.if-too_short.false;
      doubles = sym t2.too_short-2.ensures ∙ e3.if-too_short-2.false;
      pairs = sym t3.too_short-3.ensures ∙ c.if-too_short-3.false;
    } in it)) in (omega arith, omega arith)

pub number_at-requires-2 : goal.number_at-requires-2
number_at-requires-2 c = let z = places_fit ((let it : Roomy c.args.sheet.now c.args.a.now c.args.b.now c.args.m.now c.args.betas.now c.args.us.now c.args.vs.now c.in_ok-counts.counts.edges c.in_ok-counts.counts.betas c.in_ok-counts.counts.pairs = let t3 = c in
    let e3 = t3 in
    let t2 = e3 in
    let e2 = t2 in
    let t1 = e2 in
    let e1 = t1 in
    record {
      counts = counted_is _ _ c.in_ok-counts.ensures;
      ends = sym t1.too_short.ensures ∙ e2.if-too_short.false;
      doubles = sym t2.too_short-2.ensures ∙ e3.if-too_short-2.false;
      pairs = sym t3.too_short-3.ensures ∙ c.if-too_short-3.false;
    } in it)) in (omega arith, omega arith)

pub returns : goal.returns
returns c =
    let l6 = c in
    let l5 = l6 in
    let l4 = l5 in
    let l3 = l4 in
    let l2 = l3 in
    let l1 = l2 in
    loaded ((let it : Roomy c.args.sheet.now c.args.a.now c.args.b.now c.args.m.now c.args.betas.now c.args.us.now c.args.vs.now c.in_ok-counts.counts.edges c.in_ok-counts.counts.betas c.in_ok-counts.counts.pairs = let t3 = c in
    let e3 = t3 in
    let t2 = e3 in
    let e2 = t2 in
    let t1 = e2 in
    let e1 = t1 in
    record {
      counts = counted_is _ _ c.in_ok-counts.ensures;
      ends = sym t1.too_short.ensures ∙ e2.if-too_short.false;
      doubles = sym t2.too_short-2.ensures ∙ e3.if-too_short-2.false;
      pairs = sym t3.too_short-3.ensures ∙ c.if-too_short-3.false;
    } in it)) c.number_at.ensures c.number_at-2.ensures
    l1.load_numbers.ensures l2.load_numbers-2.ensures l3.load_words.ensures l4.load_words-2.ensures l5.load_numbers-3.ensures l6.load_numbers-4.ensures
