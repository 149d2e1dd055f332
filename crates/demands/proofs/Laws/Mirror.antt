-- Where every spin is flipped, forward and backward vectors of a job keep their entries, and propagated ones change their signs: of whole sweeps.
use Rattle.std.specs.Prelude.{◌≡◌, refl, Bool, true, false, List, T, Float}
use Rattle.std.proofs.Math.Option.{Option, none, some}
use Prim.Native.Nat.{ℕ, zero, suc, ◌+◌, ◌*◌, ◌-◌, ◌^◌, ◌≤◌, ◌<◌}
use Rattle.std.proofs.Common.{arith, eq-eqb}
use Rattle.std.specs.Float.{nan, inf, fin}
use Rattle.std.specs.Float.Ieee.{binary64, up, down, level, div, neg, eq}
use Rattle.std.specs.Float.Ieee.Scale.{finite}
use Rattle.list_laws.proofs.Laws.Power.{pow_double}
use Rattle.rounding.specs.Alike.{Alike, same, zeros}
use Rattle.rounding.proofs.Laws.Alike.{alike_sym, alike_trans, alike_neg}
use Rattle.rounding.proofs.Laws.Negation.{neg_neg}
use Rattle.transfer_matrix.specs.Job.{Edge, Job, Back, step_of, prepend, back_edge, back_edges}
use Rattle.transfer_matrix.specs.Rounded.{ieee}
use Rattle.transfer_matrix.specs.Sweep as S
use Rattle.half_vectors.specs.Half.{forward_half}
use Rattle.half_vectors.specs.Antisymmetric.{AntisymmetricHalf, alternate_half}
use Rattle.half_vectors.proofs.Laws.Flip.{Below}
use Rattle.half_vectors.proofs.Laws.FlipInvariance.{Symmetric, start_symmetric, forward_symmetric, backward_symmetric}
use Rattle.half_vectors.proofs.Laws.Half.{by_halves}
use Rattle.half_vectors.proofs.Laws.Symmetric.{symmetric_of}
use Rattle.half_vectors.proofs.Laws.Antisymmetric.{alternate_antisymmetric, forward_antisymmetric}

-- ---- equal as numbers

level-same : (s : Bool) (a : ℕ) → T (level s a s a)
level-same true a = rw (eq-eqb a a refl) tt
level-same false a = rw (eq-eqb a a refl) tt

level_noughts : (s t : Bool) (a b : ℕ) → a ≡ 0 → b ≡ 0 → T (level s a t b)
level_noughts true true a b p q = rw (p, q) tt
level_noughts true false a b p q = rw (p, q) tt
level_noughts false true a b p q = rw (p, q) tt
level_noughts false false a b p q = rw (p, q) tt

itself : (x : Float) → T (finite x) → T (eq x x)
unfolding eq
itself nan h = absurd h
itself (inf s) h = absurd h
itself (fin s m e) h = level-same s (m * up e * down e)

-- finite numbers that are the same but for the sign of a zero
pub alike_equal : {x y : Float} → Alike x y → T (finite x) → T (eq x y)
unfolding eq
alike_equal {x} same h = itself x h
alike_equal (zeros {s} {t} {d} {e}) h = level_noughts s t (0 * up d * down e) (0 * up e * down d) (omega arith) (omega arith)

-- ---- a vector of an antisymmetric half

pub opposite : (w : ℕ) {h : ℕ → Float} {v : List Float} → 1 ≤ w → AntisymmetricHalf w h v → (k : ℕ) → k < 2 ^ w
    → Alike (S.at ieee v k) (neg (S.at ieee v (2 ^ w - 1 - k)))
opposite w {h} {v} wide e = by_halves w wide _ low high
  where
    low : (j : ℕ) → j < 2 ^ (w - 1) → Alike (S.at ieee v j) (neg (S.at ieee v (2 ^ w - 1 - j)))
    low j b =
        let turned : Alike (neg (S.at ieee v (2 ^ w - 1 - j))) (h j) = rw neg_neg at (alike_neg (e.high j b)) in
        alike_trans (e.low j b) (alike_sym turned)

    high : (j : ℕ) → j < 2 ^ (w - 1) → Alike (S.at ieee v (2 ^ w - 1 - j)) (neg (S.at ieee v (2 ^ w - 1 - (2 ^ w - 1 - j))))
    high j b =
        let i : 2 ^ w - 1 - (2 ^ w - 1 - j) ≡ j = omega (arith, pow_double w wide) in
        rw i (alike_trans (e.high j b) (alike_sym (alike_neg (e.low j b))))

-- ---- the near edges of a vertex are shorter than the window

prepend-below : (d h : ℕ) (x : Option Float) (bs : List (Back Float)) → d - 1 < h → Below h bs → Below h (prepend d x bs)
unfolding prepend
prepend-below d h none bs l r = r
prepend-below d h (some x) bs l r = (l, r)

backs_below : (es : List (Edge Float)) (t d n h : ℕ) → 1 ≤ d → d + n ≤ h + 1 → Below h (back_edges es t d n)
unfolding back_edges
backs_below es t d zero h p l = tt
backs_below es t d (suc n) h p l =
    prepend-below d h (back_edge es t d) (back_edges es t (suc d) n) (omega arith) (backs_below es t (suc d) n h (omega arith) (omega arith))

-- ---- the sweeps of a job

module _ (J : Job Float) (wide : 1 ≤ J.window) where
  near-low : (t : ℕ) → Below (J.window - 1) (back_edges J.edges t 1 (J.window - 1))
  near-low t = backs_below J.edges t 1 (J.window - 1) (J.window - 1) (omega arith) (omega arith)

  before_symmetric : (t : ℕ) → Symmetric J.window (S.before_step ieee J t).0
  unfolding S.before_step S.sweep_forward
  before_symmetric zero = start_symmetric J.window
  before_symmetric (suc t) =
      forward_symmetric J.window (step_of J t) (div binary64 ieee.𝟙 (S.before_step ieee J t).1) (S.before_step ieee J t).0 wide (near-low t)
      (before_symmetric t)

  after_symmetric : (i : ℕ) → Symmetric J.window (S.after_steps ieee J i).0
  unfolding S.after_steps S.sweep_backward
  after_symmetric zero = start_symmetric J.window
  after_symmetric (suc i) =
      backward_symmetric J.window (step_of J (J.last - i)) (div binary64 ieee.𝟙 (S.after_steps ieee J i).1) (S.after_steps ieee J i).0 wide
      (near-low (J.last - i)) (after_symmetric i)

  pub forwards_symmetric : (t : ℕ) → Symmetric J.window (S.forward ieee J t)
  unfolding S.forward
  forwards_symmetric t = before_symmetric (suc t)

  pub backwards_symmetric : (t : ℕ) → Symmetric J.window (S.backward ieee J t)
  unfolding S.backward
  backwards_symmetric t = after_symmetric (J.last - t)

  -- the half that stands for a propagated vector
  propagated_half : ℕ → ℕ → ℕ → Float
  propagated_half u zero = alternate_half (S.at ieee (S.forward ieee J u))
  propagated_half u (suc i) = forward_half J.window (step_of J (u + suc i)) (S.scale ieee J (u + suc i)) neg (propagated_half u i)

  propagated_antisymmetric : (u i : ℕ) → AntisymmetricHalf J.window (propagated_half u i) (S.propagated ieee J u i)
  unfolding S.propagated propagated_half
  propagated_antisymmetric u zero =
      alternate_antisymmetric J.window (S.at ieee (S.forward ieee J u)) (S.forward ieee J u) wide (symmetric_of wide (forwards_symmetric u) (λ j b. refl))
  propagated_antisymmetric u (suc i) =
      forward_antisymmetric J.window (step_of J (u + suc i)) (S.scale ieee J (u + suc i)) (propagated_half u i) (S.propagated ieee J u i) wide
      (near-low (u + suc i)) (propagated_antisymmetric u i)

  pub propagated_opposite : (u i k : ℕ) → k < 2 ^ J.window
      → Alike (S.at ieee (S.propagated ieee J u i) k) (neg (S.at ieee (S.propagated ieee J u i) (2 ^ J.window - 1 - k)))
  propagated_opposite u i = opposite J.window wide (propagated_antisymmetric u i)
