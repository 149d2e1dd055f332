-- Factors from β to one over β: of an edge, of what a step reads, of a job.
use Rattle.std.specs.Prelude.{Bool, true, false, cond, ◌&&◌, List, [], ◌∷◌, ℕ, zero, suc, ◌+◌, ◌-◌, ◌≤◌, length, T, eqb, Float}
use Rattle.std.proofs.Math.Option.{Option, none, some}
use Rattle.std.proofs.Common.{arith}
use Rattle.std.specs.Float.Ieee.Positive.{positive}
use Rattle.fraction.proofs.Fraction.{ℚ, invℚ}
use Rattle.fraction.proofs.Value.{value}
use Rattle.transfer_matrix.specs.Checked.{All}
use Rattle.transfer_matrix.specs.Job.{Edge, Job, Back, Step, back_edge, back_edges, prepend, step_of}
use Rattle.accuracy.proofs.Laws.Ring.{◌≼◌}

-- The factor x is from β to one over β.
pub record Moderate (β : ℚ) (x : Float) : Type 0 where
  pub passed : T (positive x)
  pub least : β ≼ value x
  pub most : β ≼ invℚ (value x)

abbrev pub ModerateMaybe : ℚ → Option Float → Type 0
ModerateMaybe β none = Unit
ModerateMaybe β (some x) = Moderate β x

abbrev pub AllModerate : ℚ → List (Back Float) → Type 0
AllModerate β bs = All (λ b. Moderate β b.factor) bs

-- Each factor that a step reads is so.
pub record ModerateStep (β : ℚ) (s : Step Float) : Type 0 where
  pub left : ModerateMaybe β s.left
  pub others : AllModerate β s.others

-- Each factor of a job's edges is so.
abbrev pub EdgesModerate : ℚ → List (Edge Float) → Type 0
EdgesModerate β es = All (λ e. Moderate β e.factor) es

moderate-edge : (β : ℚ) (es : List (Edge Float)) → EdgesModerate β es → (t d : ℕ) → ModerateMaybe β (back_edge es t d)
unfolding back_edge
moderate-edge β [] h t d = tt
moderate-edge β (e ∷ es) h t d = go (eqb e.late t && eqb (e.early + d) t) (moderate-edge β es h.1 t d)
  where
    go : (b : Bool) → ModerateMaybe β (back_edge es t d) → ModerateMaybe β (cond b (some e.factor) (back_edge es t d))
    go true r = h.0
    go false r = r

moderate-prepend : (β : ℚ) (d : ℕ) (o : Option Float) (bs : List (Back Float)) → ModerateMaybe β o → AllModerate β bs → AllModerate β (prepend d o bs)
unfolding prepend
moderate-prepend β d none bs h k = k
moderate-prepend β d (some x) bs h k = (h, k)

moderate-edges : (β : ℚ) (es : List (Edge Float)) → EdgesModerate β es → (t d n : ℕ) → AllModerate β (back_edges es t d n)
unfolding back_edges
moderate-edges β es h t d zero = tt
moderate-edges β es h t d (suc n) = moderate-prepend β d (back_edge es t d) _ (moderate-edge β es h t d) (moderate-edges β es h t (suc d) n)

-- With at most p near edges a vertex, a step takes at most p + 5 roundings.
pub step-roundings : (J : Job Float) (p : ℕ) → ((t : ℕ) → length (step_of J t).others ≤ p) → (t : ℕ) → length (step_of J t).others + 5 ≤ p + 5
step-roundings J p few t = let f = few t in omega arith

-- So each step of a job whose edges are so reads such factors only.
pub moderate-steps : (β : ℚ) (J : Job Float) → EdgesModerate β J.edges → (t : ℕ) → ModerateStep β (step_of J t)
moderate-steps β J h t = record { left = moderate-edge β J.edges h t J.window; others = moderate-edges β J.edges h t 1 (J.window - 1) }
