-- Laws of what specs/Graphs defines.
use Rattle.std.specs.Prelude.{◌≡◌, Result, Ok, Err, ℕ, zero, suc}
use Rattle.std.proofs.Common.{ap, ◌∙◌, arith}
use Rattle.refusals.specs.Answers.{Answered, left}
use Rattle.refusals.specs.declared.Refusal.{Refusal}
use Rattle.refusals.proofs.Laws.Answers.{number-not_zero, left_alone}
use Rattle.graph_edges.specs.declared.Graph.{Graph}
use Rattle.c_answers.specs.Graphs.{window_in, edges_in}

-- ---- of a call whose refusal and graph are known

pub window-made : (k : ℕ) (g : Graph) (a : Result Graph Refusal) (old : ℕ) → Answered k g a → window_in a old ≡ left k g.win old
window-made zero g (Ok x) old e = ap (λ y. y.win) e.1
window-made (suc k) g (Ok x) old e = let z = e.0 in absurd (omega arith)
window-made k g (Err f) old e = left_alone k g.win old (λ z. number-not_zero f (e.0 ∙ z))

pub edges-made : (k : ℕ) (g : Graph) (a : Result Graph Refusal) (old : ℕ) → Answered k g a → edges_in a old ≡ left k g.edges old
edges-made zero g (Ok x) old e = ap (λ y. y.edges) e.1
edges-made (suc k) g (Ok x) old e = let z = e.0 in absurd (omega arith)
edges-made k g (Err f) old e = left_alone k g.edges old (λ z. number-not_zero f (e.0 ∙ z))
