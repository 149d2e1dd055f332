-- A job that no check refuses, with work memory for its room, is one that a plan can be made of.
use Rattle.std.specs.Prelude.{◌≡◌, List, ℕ, ◌≤◌, Float, length, take}
use Rattle.std.proofs.Common.{sym, ◌∙◌, arith}
use Rattle.std.proofs.lemmas.List.{length-map}
use Rattle.transfer_matrix.specs.Room.{Arrangement, room}
use Rattle.refusals.specs.Edges.{kept, kept_early}
use Rattle.kept_edges.proofs.Laws.Fronts.{front-early, front-late}
use Rattle.plan_layout.specs.Plannable.{Plannable}
use Rattle.job_checks.specs.Checked.{ReadyJob}

module _ {n floor : ℕ} {a b : List ℕ} {m : List Float} {us vs : List ℕ} {k w : ℕ} {early early' late late' : List ℕ} {mag mag' : List Float}
    (g : ReadyJob n floor a b m us vs k w early early' late late' mag mag') where
  -- as many ends as kept edges
  pub edge_count : length (kept_early a b m) ≡ length (kept a b m)
  edge_count = length-map (kept a b m) (λ x. x.early)

  -- the fronts of the lists are the kept edges
  pub plannable : (A : Arrangement) (work : ℕ) → room A n w k us vs ≤ work → Plannable A n w (take k early') (take k late') us vs work
  plannable A work h =
      let p = g.passed in
      let c = edge_count ∙ sym g.written.edges in
      rw (front-early g.written, front-late g.written)
      record {
        some = p.graph.some-vertex;
        edges = g.edges;
        few-edges = omega (arith, g.few-edges);
        few-near = g.near;
        pairs = g.pairs;
        distinct = p.ends-apart;
        few-pairs = p.few-pairs;
        roomy = rw c h;
      }
