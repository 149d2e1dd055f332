-- Rows that have what every edge says are the steps of the definition.
use mathlib.Core.Path.{◌≡◌, refl, sym, ap, ◌∙◌}
use mathlib.Core.Bool.{Bool, true, false, cond}
use mathlib.Core.List.{List, [], ◌∷◌, map}
use mathlib.Core.Logic.{dite}
use Prim.Native.Nat.{ℕ, zero, suc, ◌+◌, ◌-◌, ◌≤◌, ◌<◌}
use native.Mathlib.Decide.{dec_lt}
use native.Mathlib.Omega.{arith}
use lib.Dec.{eqb, eqb-suc-zero}
use lib.Ieee.{Float, nan}
use lib.ListN.{length, get_or}
use Rattle.transfer_matrix.specs.Job.{Back, Manner, prepend, step_of}
use Rattle.transfer_matrix.specs.Configuration.{job_of}
use Rattle.plan_steps.specs.Layout.{near_at, near_count, near_edge, near_bit, near_from, named, step_in, Vertex}
use Rattle.plan_steps.specs.Edges.{Steps}
use Rattle.plan_steps.specs.Rows.{goes_back, first_of, first_back, listed, near_row, Rising, more, Row}
use Rattle.plan_steps.proofs.Laws.Listed.{back-first, backs_listed}
use Rattle.plan_steps.proofs.Entering.{row-rising}

first_le : (early late : List ℕ) (t d m : ℕ) → first_back early late t d m ≤ m
unfolding first_back first_of
first_le early late t d zero = omega arith
first_le early late t d (suc m) = go (first_back early late t d m) (goes_back early late t d m) (first_le early late t d m)
  where
    go : (k : ℕ) (b : Bool) → k ≤ m → cond (eqb k 0) (cond b (suc m) 0) k ≤ suc m
    go zero true l = omega arith
    go zero false l = omega arith
    go (suc k) b l = rw (eqb-suc-zero k) (omega arith)

-- ---- the numbers of edges, and their factors

module _ {K : Type 0} (factor : ℕ → K) where
  abbrev factored : Back ℕ → Back K
  factored b = record { distance = b.distance; factor = factor b.factor }

  near-factored : (plan : List ℕ) (t i k : ℕ) → near_from factor plan t i k ≡ map factored (near_from (λ e. e) plan t i k)
  unfolding near_from
  near-factored plan t i zero = refl
  near-factored plan t i (suc k) = rw (near-factored plan t (suc i) k)

  listed-factored : (row : ℕ → ℕ) (d k : ℕ) → listed factor row d k ≡ map factored (listed (λ e. e) row d k)
  unfolding listed named prepend
  listed-factored row d zero = refl
  listed-factored row d (suc k) = rw (listed-factored row (suc d) k) (go (row d))
    where
      go : (r : ℕ)
          → prepend d (named factor r) (map factored (listed (λ e. e) row (suc d) k))
          ≡ map factored (prepend d (named (λ e. e) r) (listed (λ e. e) row (suc d) k))
      go zero = refl
      go (suc r) = rw (eqb-suc-zero r)

-- ---- what is known of each edge of a row

-- m edges, all shorter than w
data Within (w m : ℕ) : List (Back ℕ) → Type 0 where
  nil : Within w m []
  cons : {b : Back ℕ} {l : List (Back ℕ)} → b.distance < w → b.factor < m → Within w m l → Within w m (b ∷ l)

listed-within : (row : ℕ → ℕ) (w m : ℕ) → ((d : ℕ) → row d ≤ m) → (d k : ℕ) → d + k ≤ w → Within w m (listed (λ e. e) row d k)
unfolding listed named prepend
listed-within row w m h d zero l = nil
listed-within row w m h d (suc k) l = go (row d) (h d) (listed-within row w m h (suc d) k (omega arith))
  where
    go : (r : ℕ) → r ≤ m → Within w m (listed (λ e. e) row (suc d) k) → Within w m (prepend d (named (λ e. e) r) (listed (λ e. e) row (suc d) k))
    go zero b i = i
    go (suc r) b i =
        let p : d < w = omega arith in
        let q : suc r - 1 < m = omega arith in
        rw (eqb-suc-zero r) (cons p q i)

near_within : (plan : List ℕ) (w m t i k : ℕ) → Within w m (near_from (λ e. e) plan t i k)
    → (j : ℕ) → i ≤ j → j < i + k → (near_bit plan t j + 1 < w) × (near_edge plan t j < m)
unfolding near_from
near_within plan w m t i zero g j a b = absurd (omega arith)
near_within plan w m t i (suc k) (cons p q g) j a b =
    dite (dec_lt i j) (λ l. near_within plan w m t (suc i) k g j l (omega arith)) (λ l. let e : j ≡ i = omega arith in rw e (p, q))

near-from : (plan : List ℕ) (t d i k : ℕ) → Rising d (near_from (λ e. e) plan t i k) → (j : ℕ) → i ≤ j → j < i + k → d ≤ near_bit plan t j + 1
unfolding near_from
near-from plan t d i zero g j a b = absurd (omega arith)
near-from plan t d i (suc k) (more p g) j a b =
    dite (dec_lt i j) (λ l. omega (arith, near-from plan t (suc (near_at {K = ℕ} (λ e. e) plan t i).distance) (suc i) k g j l (omega arith))) (λ l. let e : j ≡ i = omega arith in rw e p)

near-rising : (plan : List ℕ) (t d i k : ℕ) → Rising d (near_from (λ e. e) plan t i k)
    → (a b : ℕ) → i ≤ a → a < b → b < i + k → near_bit plan t a < near_bit plan t b
unfolding near_from
near-rising plan t d i zero g a b p q r = absurd (omega arith)
near-rising plan t d i (suc k) (more x g) a b p q r =
    dite (dec_lt i a) (λ l. near-rising plan t (suc (near_at {K = ℕ} (λ e. e) plan t i).distance) (suc i) k g a b l q (omega arith))
    (λ l. let e : a ≡ i = omega arith in rw e (omega (arith, near-from plan t _ (suc i) k g b (omega arith) (omega arith))))

module _ (early late plan : List ℕ) (n w : ℕ) (wide : 1 ≤ w) (rows : (t : ℕ) → t < n → Row plan early late w (length early) t) where
  vertex-of : (t : ℕ) → t < n → Vertex plan w (length early) t
  vertex-of t b =
      let g = rows t b in
      let r = row-rising plan early late w (length early) t g in
      let row : ℕ → ℕ = λ d. first_back early late t d (length early) in
      let in_row : Within w (length early) (near_row plan t) =
      rw g.near (listed-within row w (length early) (λ d. first_le early late t d (length early)) 1 (w - 1) (omega arith)) in
      let known = near_within plan w (length early) t 0 (near_count plan t) in_row in
      record {
        left = omega (arith, g.left, first_le early late t w (length early));
        few = g.few;
        edge = λ i c. (known i (omega arith) (omega arith)).1;
        low = λ i c. omega (arith, (known i (omega arith) (omega arith)).0);
        rising = λ i j a c. near-rising plan t 1 0 (near_count plan t) r i j (omega arith) a (omega arith);
      }

  step-of : (x : List Float) (manner : Manner) (t : ℕ) → t < n → step_in plan x t ≡ step_of (job_of nan n w early late x manner) t
  step-of x manner t b =
      let f : ℕ → Float = λ e. get_or x e nan in
      let g = rows t b in
      let l = ap (named f) g.left ∙ sym (back-first early late f t w) in
      let o =
      near-factored f plan t 0 (near_count plan t) ∙ ap (map (factored f)) g.near
      ∙ sym (listed-factored f (λ d. first_back early late t d (length early)) 1 (w - 1)) ∙ sym (backs_listed early late f t 1 (w - 1)) in
      cc

  pub steps_of : Steps plan early late n w
  steps_of = record { vertex = vertex-of; step = step-of }
