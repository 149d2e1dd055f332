-- What an answer that was told says of the refusal's number and of the references.
use mathlib.Core.Path.{◌∙◌}
use mathlib.Core.Bool.{Bool}
use mathlib.Core.List.{List}
use Prim.Native.Nat.{ℕ}
use lib.Ieee.{Float}
use Rattle.refusals.specs.Edges as Edges
use Rattle.graph_edges.specs.Graphs.{Set}
use Rattle.graph.specs.Reached.{Distanced}
use Rattle.std.specs.Prelude.{Option, Result}
use Rattle.refusals.specs.declared.Refusal.{Refusal}
use Rattle.graph_edges.specs.declared.Graph.{Graph}
use Rattle.c_answers.specs.Graphs as Graphs
use Rattle.c_answers.proofs.Laws.Graphs as GraphsLaws
use Rattle.c_answers.specs.Distances as Distances
use Rattle.export_graphs.specs.Graphs.{Listed}
use Rattle.export_graphs.specs.Distances.{Told}

-- ---- the kept edges of a graph

pub kept-told : (k n floor : ℕ) (es : List Edges.Kept) {a : Result Graph Refusal} {r : ℕ} {early early' late late' : List ℕ} {mag mag' : List Float} {raw raw' : List ℕ} {window window' count count' : ℕ}
    → Set k n floor es a early early' late late' mag mag' raw raw' → Graphs.Tells a r window window' count count'
    → Listed k floor es r early early' late late' mag mag' raw raw' window window' count count'
kept-told k n floor es {a = a} {window = window} {count = count} q t =
    record {
      answer = t.number ∙ q.answer.0;
      earlies = q.earlies;
      lates = q.lates;
      mags = q.mags;
      raws = q.raws;
      windowed = t.windowed ∙ GraphsLaws.window-made k _ a window q.answer;
      counted = t.counted ∙ GraphsLaws.edges-made k _ a count q.answer;
    }

-- ---- the distance of two vertices

pub distance-told : (k : ℕ) (early late : List ℕ) (u v : ℕ) (a : Result (Option ℕ) Refusal) {r : ℕ} {joined joined' : Bool} {edges edges' : ℕ} → Distanced k early late u v a
    → Distances.Tells a r joined joined' edges edges' → Told k early late u v r joined joined' edges edges'
distance-told k early late u v a q t = record { number = t.number ∙ q.number; answer = a; right = q; tells = t }
