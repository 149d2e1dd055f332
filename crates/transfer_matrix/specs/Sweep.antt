-- The sweep rules of the Ising transfer matrix, over any arithmetic, in the order and words of document 01.
-- A vector has 2 ^ window entries; bit 0 of the index is the newest vertex, 0 means spin up.
use Rattle.std.specs.Prelude.{Bool, List, [], ◌∷◌, ltb, eqb, get_or}
use Rattle.std.proofs.Math.Bool.{cond, not}
use Rattle.std.specs.Bool.{beq}
use Rattle.std.proofs.Math.Option.{Option, none, some}
use Prim.Native.Nat.{ℕ, zero, suc, ◌+◌, ◌*◌, ◌-◌, ◌/◌, ◌%◌, ◌^◌, min, max}
use Rattle.std.proofs.Math.ListN.{length}
use Rattle.transfer_matrix.specs.Arithmetic.{Ops, sum, signed_sum}
use Rattle.list_laws.specs.Bits.{bit}
use Rattle.list_laws.specs.Tabulate.{tabulate}
use Rattle.transfer_matrix.specs.Job.{Job, Manner, block, per_element, Back, Step, step_of, back_edge, back_edges}

-- In a step, bit i of the pattern is bit d - 1 of k, d being the i-th of the distances, i from 0.
unfoldable pub pattern : {K : Type 0} → List (Back K) → ℕ → ℕ
pattern [] k = 0
pattern (b ∷ bs) k = k / 2 ^ (b.distance - 1) % 2 + 2 * pattern bs k

module _ (O : Ops) where
  open O use {K, 𝟘, 𝟙, ◌⊕◌, ◌⊖◌, ◌⊗◌, ◌⊘◌, ⊝◌, ◌≺◌}

  infixl 60 ◌⊕◌
  infixl 60 ◌⊖◌
  infixl 70 ◌⊗◌
  infixl 70 ◌⊘◌
  infixl 50 ◌≺◌
  infixl 80 ⊝◌
  -- ---- the tables of a step

  -- From x, over the back edges, shortest first: times the factor if the bit of the pattern m is clear, else divided by it.
  unfoldable pub product : List (Back K) → ℕ → K → K
  product [] m x = x
  product (b ∷ bs) m x = product bs (m / 2) (cond (bit 0 m) (x ⊘ b.factor) (x ⊗ b.factor))

  -- The spin-up table at m: from 1.0, that product, then times the scale.
  unfoldable pub up : List (Back K) → K → ℕ → K
  unfolding product
  up bs sc m = product bs m 𝟙 ⊗ sc

  -- The spin-down table at m is the spin-up table at m's complement.
  unfoldable pub down : List (Back K) → K → ℕ → K
  unfolding up
  down bs sc m = up bs sc (2 ^ length bs - 1 - m)

  -- ep is the left edge's factor; 1.0 where there is none.
  unfoldable pub ep : Option K → K
  ep none = 𝟙
  ep (some x) = x

  -- em is 1.0 divided by the left edge's factor; 1.0 where there is none.
  unfoldable pub em : Option K → K
  em none = 𝟙
  em (some x) = 𝟙 ⊘ x

  -- ---- the steps, in a window w with a scale sc

  -- Entry j of a vector.
  abbrev pub at : List K → ℕ → K
  at v j = get_or v j 𝟘

  -- Forward, with lower half a and upper half b: entry 2k is (ep a + em b) up, entry 2k + 1 is (em a + ep b) down.
  unfoldable pub forward_at : ℕ → Step K → K → (ℕ → K) → ℕ → K
  unfolding up down ep em pattern
  forward_at w s sc v j =
      let k = j / 2 in
      let m = pattern s.others k in
      let a = v k in
      let b = v (2 ^ (w - 1) + k) in
      cond (bit 0 j)
      ((em s.left ⊗ a ⊕ ep s.left ⊗ b) ⊗ down s.others sc m)
      ((ep s.left ⊗ a ⊕ em s.left ⊗ b) ⊗ up s.others sc m)

  unfoldable pub forward_step : ℕ → Step K → K → List K → List K
  unfolding forward_at tabulate
  forward_step w s sc v = tabulate (forward_at w s sc (at v)) (2 ^ w)

  -- Backward, from entries 2k and 2k + 1: x and y are those times up and down; the lower entry is ep x + em y, the upper em x + ep y.
  unfoldable pub backward_at : ℕ → Step K → K → (ℕ → K) → ℕ → K
  unfolding up down ep em pattern
  backward_at w s sc v j =
      let k = j % 2 ^ (w - 1) in
      let m = pattern s.others k in
      let x = v (2 * k) ⊗ up s.others sc m in
      let y = v (2 * k + 1) ⊗ down s.others sc m in
      cond (ltb j (2 ^ (w - 1))) (ep s.left ⊗ x ⊕ em s.left ⊗ y) (em s.left ⊗ x ⊕ ep s.left ⊗ y)

  unfoldable pub backward_step : ℕ → Step K → K → List K → List K
  unfolding backward_at tabulate
  backward_step w s sc v = tabulate (backward_at w s sc (at v)) (2 ^ w)

  -- Start: all 1.0.
  unfoldable pub start : ℕ → List K
  unfolding tabulate
  start w = tabulate (λ j. 𝟙) (2 ^ w)

  -- The largest entry, from m on; a NaN is passed over.
  unfoldable pub largest : K → List K → K
  largest m [] = m
  largest m (x ∷ v) = largest (cond (m ≺ x) x m) v

  -- The stored largest entry after the step at t that gave v. Per-element manner: after every step. Block manner: after steps with
  -- t mod 4 = r, otherwise it counts as 1.0.
  unfoldable pub stored : Manner → ℕ → ℕ → List K → K
  unfolding largest
  stored per_element r t v = largest 𝟘 v
  stored block r t v = cond (eqb (t % 4) r) (largest 𝟘 v) 𝟙

  -- The entries at odd indexes negated.
  unfoldable pub alternate : ℕ → List K → List K
  unfolding tabulate
  alternate w v = tabulate (λ j. cond (bit 0 j) (⊝ (at v j)) (at v j)) (2 ^ w)

  module _ (J : Job K) where
    -- ---- the sweeps: a vector, with the stored largest entry that the next step's scale is 1.0 over

    abbrev pub Swept : Type 0
    Swept = List K × K

    -- The forward step at t. Block manner: the largest entry is taken after steps with t mod 4 = 3.
    unfoldable pub sweep_forward : ℕ → Swept → Swept
    unfolding forward_step stored back_edge back_edges
    sweep_forward t s = let v = forward_step J.window (step_of J t) (𝟙 ⊘ s.1) s.0 in (v, stored J.manner 3 t v)

    -- Before the forward step at t. The step at vertex 0 is taken too, from the start.
    unfoldable pub before_step : ℕ → Swept
    unfolding sweep_forward start
    before_step zero = (start J.window, 𝟙)
    before_step (suc t) = sweep_forward t (before_step t)

    -- The forward vector at vertex t is what step t yields.
    unfoldable pub forward : ℕ → List K
    unfolding before_step
    forward t = (before_step (suc t)).0

    -- The scale of the forward step at t, 1.0 at first.
    unfoldable pub scale : ℕ → K
    unfolding before_step
    scale t = 𝟙 ⊘ (before_step t).1

    -- The backward step at t. Block manner: the largest entry is taken after steps with t mod 4 = 0.
    unfoldable pub sweep_backward : ℕ → Swept → Swept
    unfolding backward_step stored back_edge back_edges
    sweep_backward t s = let v = backward_step J.window (step_of J t) (𝟙 ⊘ s.1) s.0 in (v, stored J.manner 0 t v)

    -- After i backward steps, which run from the last vertex to vertex 1.
    unfoldable pub after_steps : ℕ → Swept
    unfolding sweep_backward start
    after_steps zero = (start J.window, 𝟙)
    after_steps (suc i) = sweep_backward (J.last - i) (after_steps i)

    -- The backward vector at vertex t: all 1.0 at the last vertex.
    unfoldable pub backward : ℕ → List K
    unfolding after_steps
    backward t = (after_steps (J.last - t)).0

    -- The propagated vector of u, i steps on: from u's forward vector with its odd entries negated, by the stored scales.
    unfoldable pub propagated : ℕ → ℕ → List K
    unfolding alternate forward forward_step scale back_edge back_edges
    propagated u zero = alternate J.window (forward u)
    propagated u (suc i) = forward_step J.window (step_of J (u + suc i)) (scale (u + suc i)) (propagated u i)

    -- ---- a pair u < v

    -- Z is the sum of forward times backward at the pair's later vertex, in index order from zero.
    unfoldable pub Z : ℕ → K
    unfolding forward backward sum
    Z v =
        let f = forward v in
        let b = backward v in
        sum O (2 ^ J.window) (λ j. at f j ⊗ at b j)

    -- N of a direct pair: Z's products, subtracted where bits 0 and d differ, d being the distance.
    unfoldable pub direct_n : ℕ → ℕ → K
    unfolding forward backward signed_sum
    direct_n u v =
        let f = forward v in
        let b = backward v in
        signed_sum O (2 ^ J.window) (λ j. not (beq (bit 0 j) (bit (v - u) j))) (λ j. at f j ⊗ at b j)

    -- N of a propagated pair: the propagated vector times backward, subtracted at odd indexes.
    unfoldable pub propagated_n : ℕ → ℕ → K
    unfolding backward propagated signed_sum
    propagated_n u v =
        let g = propagated u (v - u) in
        let b = backward v in
        signed_sum O (2 ^ J.window) (λ j. bit 0 j) (λ j. at g j ⊗ at b j)

    -- A pair nearer than the window is direct; at the window or farther it is propagated.
    unfoldable pub N : ℕ → ℕ → K
    unfolding direct_n propagated_n
    N u v =
        let near = direct_n u v in
        let far = propagated_n u v in
        cond (ltb (v - u) J.window) near far

    -- The answer is N over Z, whichever end of the pair comes first.
    unfoldable pub answer : ℕ → ℕ → K
    unfolding N Z
    answer u v = N (min u v) (max u v) ⊘ Z (max u v)

    -- The answers of the pairs that two lists of ends give, in order.
    unfoldable pub answers : List ℕ → List ℕ → List K
    unfolding answer tabulate
    answers us vs = tabulate (λ i. answer (get_or us i 0) (get_or vs i 0)) (length us)
