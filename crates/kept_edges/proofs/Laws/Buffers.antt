-- A checked graph and lists to write to: the refusal of both, from that of the graph.
use Rattle.std.specs.Prelude.{◌≡◌, Result, Bool, true, false, List, [], ℕ, Float}
use Rattle.refusals.specs.declared.Refusal.{Refusal}
use Rattle.refusals.specs.Numbers.{refused}
use Rattle.refusals.specs.Request.{graph_request}
use Rattle.refusals.specs.Refusal.{refusal, of_graph_with_buffers}
use Rattle.refusals.proofs.Laws.Later.{then-buffers, refused-before, refused_here, refused_not}
use Rattle.kept_edges.specs.Keep.{CheckedGraph}

module _ {n : ℕ} {a b : List ℕ} {m : List Float} {answer : Result ℕ Refusal} {early early' late late' : List ℕ} {mag mag' : List Float}
    (G : CheckedGraph n a b m [] [] [] answer early early' late late' mag mag') where
  -- of a call with buffers, which misfit or not
  module _ (misfit : Bool) where
    pub buffers-before : (refused answer ≡ 0 → ⊥) → refused answer ≡ refusal of_graph_with_buffers (graph_request n a b m misfit)
    buffers-before = refused-before (then-buffers n a b m misfit) (refused answer) G.refusal

    pub buffers_here : refused answer ≡ 0 → misfit ≡ true → 12 ≡ refusal of_graph_with_buffers (graph_request n a b m misfit)
    buffers_here = refused_here (then-buffers n a b m misfit) (refused answer) G.refusal

    pub buffers_not : refused answer ≡ 0 → misfit ≡ false → 0 ≡ refusal of_graph_with_buffers (graph_request n a b m misfit)
    buffers_not = refused_not (then-buffers n a b m misfit) (refused answer) G.refusal
