-- In a job whose factors have no minus sign, neither has an entry of a step's tables.
use Rattle.std.specs.Prelude.{Bool, true, false, cond, ◌&&◌, List, [], ◌∷◌, ℕ, zero, suc, ◌+◌, ◌-◌, ◌/◌, ◌^◌, T, eqb, length, Float}
use Rattle.std.proofs.Math.Option.{Option, none, some}
use Rattle.std.specs.Float.{binary64}
use Rattle.std.specs.Float.Ieee.{mul, div}
use Rattle.std.specs.Float.Ieee.Positive.{positive}
use Rattle.rounding.proofs.Laws.Sign.{cond_not_minus, mul_not_minus, div_not_minus}
use Rattle.rounding.specs.Laws.Sign.{not_minus}
use Rattle.rounding.specs.Under.{unit}
use Rattle.rounding.proofs.Laws.Under.{under_refl, positive-not_minus}
use Rattle.rounding.specs.Laws.Under.{Under}
use Rattle.list_laws.specs.Bits.{bit}
use Rattle.transfer_matrix.specs.Job.{Edge, Job, Back, Step, back_edge, back_edges, prepend, step_of}
use Rattle.transfer_matrix.specs.Checked.{All, Kept, Checked}
use Rattle.transfer_matrix.specs.Rounded.{ieee}
use Rattle.transfer_matrix.specs.Sweep.{product, up, down, ep, em}

-- All that the bounds ask of a job.
abbrev pub EdgesNotMinus : List (Edge Float) → Type 0
EdgesNotMinus es = All (λ e. T (not_minus e.factor)) es

abbrev BacksNotMinus : List (Back Float) → Type 0
BacksNotMinus bs = All (λ b. T (not_minus b.factor)) bs

-- What a step multiplies by, with the scale sc: the two factors of the left edge, and the tables. None has a minus sign, said as in `Beneath`.
pub record StepNotMinus (s : Step Float) (sc : Float) : Type 0 where
  pub plus : Under (ep ieee s.left) (ep ieee s.left)
  pub minus : Under (em ieee s.left) (em ieee s.left)
  pub spin_up : (m : ℕ) → Under (up ieee s.others sc m) (up ieee s.others sc m)
  pub spin_down : (m : ℕ) → Under (down ieee s.others sc m) (down ieee s.others sc m)

product-not_minus : (bs : List (Back Float)) → BacksNotMinus bs → (m : ℕ) (x : Float) → T (not_minus x) → T (not_minus (product ieee bs m x))
unfolding product
product-not_minus [] h m x p = p
product-not_minus (b ∷ bs) h m x p =
    let y = div binary64 x b.factor in
    let z = mul binary64 x b.factor in
    product-not_minus bs h.1 (m / 2) (cond (bit 0 m) y z)
    (cond_not_minus (bit 0 m) y z (div_not_minus binary64 x b.factor p h.0) (mul_not_minus binary64 x b.factor p h.0))

up-not_minus : (bs : List (Back Float)) → BacksNotMinus bs → (sc : Float) → T (not_minus sc) → (m : ℕ) → T (not_minus (up ieee bs sc m))
unfolding up
up-not_minus bs h sc p m = mul_not_minus binary64 (product ieee bs m unit) sc (product-not_minus bs h m unit tt) p

-- What holds of no edge, and of an edge whose factor has no minus sign, holds of a back edge.
back_edge-is : (P : Option Float → Type 0) → P none → ((x : Float) → T (not_minus x) → P (some x)) → (es : List (Edge Float))
    → EdgesNotMinus es → (t d : ℕ) → P (back_edge es t d)
unfolding back_edge
back_edge-is P n s [] h t d = n
back_edge-is P n s (e ∷ es) h t d = go (eqb e.late t && eqb (e.early + d) t) (s e.factor h.0) (back_edge-is P n s es h.1 t d)
  where
    go : (b : Bool) → P (some e.factor) → P (back_edge es t d) → P (cond b (some e.factor) (back_edge es t d))
    go true p q = p
    go false p q = q

back_edges-not_minus : (es : List (Edge Float)) → EdgesNotMinus es → (t d n : ℕ) → BacksNotMinus (back_edges es t d n)
unfolding back_edges prepend
back_edges-not_minus es h t d zero = tt
back_edges-not_minus es h t d (suc n) =
    let r = back_edges-not_minus es h t (suc d) n in
    back_edge-is (λ (o : Option Float). BacksNotMinus (prepend d o (back_edges es t (suc d) n))) r (λ x p. (p, r)) es h t d

pub step_of-not_minus : (J : Job Float) → EdgesNotMinus J.edges → (t : ℕ) (sc : Float) → T (not_minus sc) → StepNotMinus (step_of J t) sc
unfolding ep em down
step_of-not_minus J h t sc p =
    let left = back_edge J.edges t J.window in
    let bs = back_edges J.edges t 1 (J.window - 1) in
    let e = back_edge-is (λ (o : Option Float). T (not_minus (ep ieee o))) tt (λ x p. p) J.edges h t J.window in
    let i =
    back_edge-is (λ (o : Option Float). T (not_minus (em ieee o))) tt (λ x p. div_not_minus binary64 unit x tt p) J.edges h t J.window in
    let tables : (m : ℕ) → Under (up ieee bs sc m) (up ieee bs sc m) =
    λ m. under_refl (up ieee bs sc m) (up-not_minus bs (back_edges-not_minus J.edges h t 1 (J.window - 1)) sc p m) in
    record {
      plus = under_refl (ep ieee left) e;
      minus = under_refl (em ieee left) i;
      spin_up = tables;
      spin_down = λ m. tables (2 ^ length bs - 1 - m);
    }

-- Factors that are finite and above zero have no minus sign.
pub checked-not_minus : (J : Job Float) → Checked (λ x. T (positive x)) J → EdgesNotMinus J.edges
checked-not_minus J h = go J.edges h.edges
  where
    go : (es : List (Edge Float)) → All (Kept (λ x. T (positive x)) J) es → EdgesNotMinus es
    go [] h = tt
    go (e ∷ es) h = (positive-not_minus e.factor h.0.passed, go es h.1)
