-- What a graph is as a number, 0 for accepted, and what it leaves in references that held `old`.
use Rattle.std.specs.Prelude.{◌≡◌, Result, Ok, Err, ℕ}
use Rattle.refusals.specs.declared.Refusal.{Refusal}
use Rattle.refusals.specs.Numbers.{refused}
use Rattle.graph_edges.specs.declared.Graph.{Graph}

abbrev pub window_in : Result Graph Refusal → ℕ → ℕ
window_in (Ok g) old = g.win
window_in (Err e) old = old

abbrev pub edges_in : Result Graph Refusal → ℕ → ℕ
edges_in (Ok g) old = g.edges
edges_in (Err e) old = old

pub record Tells (a : Result Graph Refusal) (r window window' edges edges' : ℕ) : Type 0 where
  pub number : r ≡ refused a
  pub windowed : window' ≡ window_in a window
  pub counted : edges' ≡ edges_in a edges
