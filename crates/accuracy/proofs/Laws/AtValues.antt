-- What a step reads, at the numbers that its doubles stand for: the step of the job in fractions.
use Rattle.std.specs.Prelude.{◌≡◌, refl, Bool, true, false, cond, ◌&&◌, List, [], ◌∷◌, map, ℕ, zero, suc, ◌+◌, ◌*◌, ◌-◌, ◌/◌, ◌%◌, ◌^◌, eqb, Float}
use Rattle.std.proofs.Common.{◌∙◌, ap, ap₂}
use Rattle.std.proofs.Math.Option.{Option, none, some}
use Rattle.fraction.proofs.Fraction.{ℚ}
use Rattle.fraction.proofs.Value.{value}
use Rattle.transfer_matrix.specs.Job.{Edge, Job, Back, Step, back_edge, back_edges, prepend, step_of}
use Rattle.transfer_matrix.specs.Sweep.{pattern}
use Rattle.exactness.specs.Exact.{edge_at_value, at_values}

-- A back edge, a left edge and a step, each factor the number that the double stands for.
abbrev pub back_at_value : Back Float → Back ℚ
back_at_value b = record { distance = b.distance; factor = value b.factor }

abbrev pub maybe_value : Option Float → Option ℚ
maybe_value none = none
maybe_value (some x) = some (value x)

abbrev pub step_at_value : Step Float → Step ℚ
step_at_value s = record { left = maybe_value s.left; others = map back_at_value s.others }

back_edge-value : (es : List (Edge Float)) (t d : ℕ) → back_edge (map edge_at_value es) t d ≡ maybe_value (back_edge es t d)
unfolding back_edge
back_edge-value [] t d = refl
back_edge-value (e ∷ es) t d = go (eqb e.late t && eqb (e.early + d) t) (back_edge-value es t d)
  where
    go : (b : Bool) → back_edge (map edge_at_value es) t d ≡ maybe_value (back_edge es t d)
        → cond b (some (value e.factor)) (back_edge (map edge_at_value es) t d) ≡ maybe_value (cond b (some e.factor) (back_edge es t d))
    go true h = refl
    go false h = h

prepend-value : (d : ℕ) (o : Option Float) (bs : List (Back Float)) → prepend d (maybe_value o) (map back_at_value bs) ≡ map back_at_value (prepend d o bs)
unfolding prepend
prepend-value d none bs = refl
prepend-value d (some x) bs = refl

back_edges-value : (es : List (Edge Float)) (t d n : ℕ) → back_edges (map edge_at_value es) t d n ≡ map back_at_value (back_edges es t d n)
unfolding back_edges
back_edges-value es t d zero = refl
back_edges-value es t d (suc n) =
    ap₂ (prepend d) (back_edge-value es t d) (back_edges-value es t (suc d) n) ∙ prepend-value d (back_edge es t d) (back_edges es t (suc d) n)

-- The step of the job in fractions is the step of the job in doubles, at their values.
pub step_of-values : (J : Job Float) (t : ℕ) → step_of (at_values J) t ≡ step_at_value (step_of J t)
step_of-values J t i = record {
  left = back_edge-value J.edges t J.window i;
  others = back_edges-value J.edges t 1 (J.window - 1) i;
}

-- The pattern does not depend on the factors.
pub pattern-value : (bs : List (Back Float)) (k : ℕ) → pattern (map back_at_value bs) k ≡ pattern bs k
unfolding pattern
pattern-value [] k = refl
pattern-value (b ∷ bs) k = ap (λ (n : ℕ). k / 2 ^ (b.distance - 1) % 2 + 2 * n) (pattern-value bs k)
