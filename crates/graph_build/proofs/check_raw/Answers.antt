-- The tests, one after the other.
use Rattle.refusals.specs.Request.{Request, job_request, bad_vertices, bad_lists, bad_edges, bad_sizes}
use Rattle.refusals.proofs.Laws.Accepted.{accepted-lengths}
use Rattle.refusals.specs.Edges.{dropping}
use Rattle.refusals.proofs.Laws.Dropping.{dropping-lists}
use Rattle.refusals.proofs.Laws.First.{here, past, told}
use Prim.Native.Nat.{ℕ}
use mathlib.Core.Bool.{cond}
use mathlib.Core.Path.{◌≡◌, refl, ◌∙◌}
use Rattle.graph_build.proofs.check_raw.Goals as goal

pub returns-then-bad_vertices : goal.returns-then-bad_vertices
returns-then-bad_vertices c = record { refusal = here _ _ _ (told c.bad_vertices.ensures c.if-bad_vertices.true) }

pub returns-then-bad_lists : goal.returns-then-bad_lists
returns-then-bad_lists c = record {
  refusal = (let it : (r rest : ℕ) → r ≡ rest → r ≡ cond (bad_vertices ((let it : Request = let x = c.args in
      job_request x.n 0 x.a.now x.b.now (dropping x.dropped x.m.now) x.us.now x.vs.now x.betas.now in it))) 1 rest = λ r rest h. past _ _ _ _ (told c.bad_vertices.ensures c.if-bad_vertices.false) h in it) _ _ (here _ _ _ (told ((let it : c.bad_lists.result ≡ bad_lists ((let it : Request = let x = c.args in
      job_request x.n 0 x.a.now x.b.now (dropping x.dropped x.m.now) x.us.now x.vs.now x.betas.now in it)) = let x = c.args in
      c.bad_lists.ensures ∙ dropping-lists x.dropped x.n 0 x.a.now x.b.now x.m.now x.us.now x.vs.now x.betas.now in it)) c.if-bad_lists.true));
}

pub bad_edges-requires : goal.bad_edges-requires
bad_edges-requires c =
    let x = c.args in
    (accepted-lengths x.n 0 x.a.now x.b.now (dropping x.dropped x.m.now) x.us.now x.vs.now x.betas.now
    (told ((let it : c.bad_lists.result ≡ bad_lists ((let it : Request = let x = c.args in
    job_request x.n 0 x.a.now x.b.now (dropping x.dropped x.m.now) x.us.now x.vs.now x.betas.now in it)) = let x = c.args in
    c.bad_lists.ensures ∙ dropping-lists x.dropped x.n 0 x.a.now x.b.now x.m.now x.us.now x.vs.now x.betas.now in it)) c.if-bad_lists.false)).0.others

pub returns-then-bad_edges : goal.returns-then-bad_edges
returns-then-bad_edges c = record {
  refusal = (let it : (r rest : ℕ) → r ≡ rest
      → let q = (let it : Request = let x = c.args in
      job_request x.n 0 x.a.now x.b.now (dropping x.dropped x.m.now) x.us.now x.vs.now x.betas.now in it) in r ≡ cond (bad_vertices q) 1 (cond (bad_lists q) 2 rest) = λ r rest h. (let it : (r rest : ℕ) → r ≡ rest → r ≡ cond (bad_vertices ((let it : Request = let x = c.args in
      job_request x.n 0 x.a.now x.b.now (dropping x.dropped x.m.now) x.us.now x.vs.now x.betas.now in it))) 1 rest = λ r rest h. past _ _ _ _ (told c.bad_vertices.ensures c.if-bad_vertices.false) h in it) r _ (past _ _ _ _ (told ((let it : c.bad_lists.result ≡ bad_lists ((let it : Request = let x = c.args in
      job_request x.n 0 x.a.now x.b.now (dropping x.dropped x.m.now) x.us.now x.vs.now x.betas.now in it)) = let x = c.args in
      c.bad_lists.ensures ∙ dropping-lists x.dropped x.n 0 x.a.now x.b.now x.m.now x.us.now x.vs.now x.betas.now in it)) c.if-bad_lists.false) h) in it) _ _ (here _ _ _ (told c.bad_edges.ensures c.if-bad_edges.true));
}

pub returns-then-bad_sizes : goal.returns-then-bad_sizes
returns-then-bad_sizes c = record {
  refusal = (let it : (r rest : ℕ) → r ≡ rest
      → let q = (let it : Request = let x = c.args in
      job_request x.n 0 x.a.now x.b.now (dropping x.dropped x.m.now) x.us.now x.vs.now x.betas.now in it) in r ≡ cond (bad_vertices q) 1 (cond (bad_lists q) 2 (cond (bad_edges q) 3 rest)) = λ r rest h. (let it : (r rest : ℕ) → r ≡ rest
      → let q = (let it : Request = let x = c.args in
      job_request x.n 0 x.a.now x.b.now (dropping x.dropped x.m.now) x.us.now x.vs.now x.betas.now in it) in r ≡ cond (bad_vertices q) 1 (cond (bad_lists q) 2 rest) = λ r rest h. (let it : (r rest : ℕ) → r ≡ rest → r ≡ cond (bad_vertices ((let it : Request = let x = c.args in
      job_request x.n 0 x.a.now x.b.now (dropping x.dropped x.m.now) x.us.now x.vs.now x.betas.now in it))) 1 rest = λ r rest h. past _ _ _ _ (told c.bad_vertices.ensures c.if-bad_vertices.false) h in it) r _ (past _ _ _ _ (told ((let it : c.bad_lists.result ≡ bad_lists ((let it : Request = let x = c.args in
      job_request x.n 0 x.a.now x.b.now (dropping x.dropped x.m.now) x.us.now x.vs.now x.betas.now in it)) = let x = c.args in
      c.bad_lists.ensures ∙ dropping-lists x.dropped x.n 0 x.a.now x.b.now x.m.now x.us.now x.vs.now x.betas.now in it)) c.if-bad_lists.false) h) in it) r _ (past _ _ _ _ (told c.bad_edges.ensures c.if-bad_edges.false) h) in it) _ _ (here _ _ _ (told c.bad_sizes.ensures c.if-bad_sizes.true));
}

pub returns-then-unordered_betas : goal.returns-then-unordered_betas
returns-then-unordered_betas c = record {
  refusal = (let it : (r rest : ℕ) → r ≡ rest
      → let q = (let it : Request = let x = c.args in
      job_request x.n 0 x.a.now x.b.now (dropping x.dropped x.m.now) x.us.now x.vs.now x.betas.now in it) in
      r ≡ cond (bad_vertices q) 1 (cond (bad_lists q) 2 (cond (bad_edges q) 3 (cond (bad_sizes q) 4 rest))) = λ r rest h. (let it : (r rest : ℕ) → r ≡ rest
      → let q = (let it : Request = let x = c.args in
      job_request x.n 0 x.a.now x.b.now (dropping x.dropped x.m.now) x.us.now x.vs.now x.betas.now in it) in r ≡ cond (bad_vertices q) 1 (cond (bad_lists q) 2 (cond (bad_edges q) 3 rest)) = λ r rest h. (let it : (r rest : ℕ) → r ≡ rest
      → let q = (let it : Request = let x = c.args in
      job_request x.n 0 x.a.now x.b.now (dropping x.dropped x.m.now) x.us.now x.vs.now x.betas.now in it) in r ≡ cond (bad_vertices q) 1 (cond (bad_lists q) 2 rest) = λ r rest h. (let it : (r rest : ℕ) → r ≡ rest → r ≡ cond (bad_vertices ((let it : Request = let x = c.args in
      job_request x.n 0 x.a.now x.b.now (dropping x.dropped x.m.now) x.us.now x.vs.now x.betas.now in it))) 1 rest = λ r rest h. past _ _ _ _ (told c.bad_vertices.ensures c.if-bad_vertices.false) h in it) r _ (past _ _ _ _ (told ((let it : c.bad_lists.result ≡ bad_lists ((let it : Request = let x = c.args in
      job_request x.n 0 x.a.now x.b.now (dropping x.dropped x.m.now) x.us.now x.vs.now x.betas.now in it)) = let x = c.args in
      c.bad_lists.ensures ∙ dropping-lists x.dropped x.n 0 x.a.now x.b.now x.m.now x.us.now x.vs.now x.betas.now in it)) c.if-bad_lists.false) h) in it) r _ (past _ _ _ _ (told c.bad_edges.ensures c.if-bad_edges.false) h) in it) r _ (past _ _ _ _ (told c.bad_sizes.ensures c.if-bad_sizes.false) h) in it) _ _ (here _ _ _ (told c.unordered_betas.ensures c.if-unordered_betas.true));
}

pub returns : goal.returns
returns c = record {
  refusal = (let it : (r rest : ℕ) → r ≡ rest
      → let q = (let it : Request = let x = c.args in
      job_request x.n 0 x.a.now x.b.now (dropping x.dropped x.m.now) x.us.now x.vs.now x.betas.now in it) in
      r ≡ cond (bad_vertices q) 1 (cond (bad_lists q) 2 (cond (bad_edges q) 3 (cond (bad_sizes q) 4 rest))) = λ r rest h. (let it : (r rest : ℕ) → r ≡ rest
      → let q = (let it : Request = let x = c.args in
      job_request x.n 0 x.a.now x.b.now (dropping x.dropped x.m.now) x.us.now x.vs.now x.betas.now in it) in r ≡ cond (bad_vertices q) 1 (cond (bad_lists q) 2 (cond (bad_edges q) 3 rest)) = λ r rest h. (let it : (r rest : ℕ) → r ≡ rest
      → let q = (let it : Request = let x = c.args in
      job_request x.n 0 x.a.now x.b.now (dropping x.dropped x.m.now) x.us.now x.vs.now x.betas.now in it) in r ≡ cond (bad_vertices q) 1 (cond (bad_lists q) 2 rest) = λ r rest h. (let it : (r rest : ℕ) → r ≡ rest → r ≡ cond (bad_vertices ((let it : Request = let x = c.args in
      job_request x.n 0 x.a.now x.b.now (dropping x.dropped x.m.now) x.us.now x.vs.now x.betas.now in it))) 1 rest = λ r rest h. past _ _ _ _ (told c.bad_vertices.ensures c.if-bad_vertices.false) h in it) r _ (past _ _ _ _ (told ((let it : c.bad_lists.result ≡ bad_lists ((let it : Request = let x = c.args in
      job_request x.n 0 x.a.now x.b.now (dropping x.dropped x.m.now) x.us.now x.vs.now x.betas.now in it)) = let x = c.args in
      c.bad_lists.ensures ∙ dropping-lists x.dropped x.n 0 x.a.now x.b.now x.m.now x.us.now x.vs.now x.betas.now in it)) c.if-bad_lists.false) h) in it) r _ (past _ _ _ _ (told c.bad_edges.ensures c.if-bad_edges.false) h) in it) r _ (past _ _ _ _ (told c.bad_sizes.ensures c.if-bad_sizes.false) h) in it) _ _ (past _ _ _ _ (told c.unordered_betas.ensures c.if-unordered_betas.false) refl);
}
