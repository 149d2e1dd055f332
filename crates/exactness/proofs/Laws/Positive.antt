-- In exact arithmetic every entry of the sweeps is above zero, and so are the largest entries, the scales and the weights of settings.
use Rattle.std.specs.Prelude.{◌≡◌, Bool, cond, ◌&&◌, length}
use Rattle.std.proofs.Common.{sym, arith}
use Rattle.std.proofs.Math.Path.{subst}
use Rattle.std.proofs.Math.Bool.{true, false}
use mathlib.Core.List.{List, [], ◌∷◌}
use Rattle.std.proofs.Math.Option.{Option, none, some}
use Prim.Native.Nat.{ℕ, zero, suc, ◌+◌, ◌*◌, ◌-◌, ◌/◌, ◌%◌, ◌^◌, ◌<◌}
use Rattle.std.proofs.Math.Nat.{mod-lt}
use Rattle.std.proofs.Math.Pow.{pow_pos}
use Rattle.std.proofs.Math.Dec.{eqb}
use Rattle.transfer_matrix.specs.Arithmetic.{Ops}
use Rattle.list_laws.specs.Bits.{bit}
use Rattle.list_laws.proofs.Laws.Tabulate.{tabulate-length}
use Rattle.transfer_matrix.specs.Job.{Edge, Manner, block, per_element, Job, Back, back_edge, prepend, back_edges, step_of}
use Rattle.transfer_matrix.specs.Checked.{All, Kept, Checked}
use Rattle.transfer_matrix.specs.Sweep.{product, up, ep, em, at, forward_at, backward_at, start, largest, stored}
use Rattle.transfer_matrix.specs.Sweep.{Swept, sweep_forward, before_step, sweep_backward, after_steps}
use Rattle.exactness.specs.Textbook.{Setting, weight}
use Rattle.exactness.proofs.Laws.Algebra.{Laws, Pos}
use Rattle.exactness.proofs.Laws.Entries as E
use Rattle.exactness.proofs.Laws.Step as St
use Rattle.exactness.proofs.Laws.Chain.{forward_scales, backward_scales, scales_at}

module _ (O : Ops) (LW : Laws O) where
  open O use {K, 𝟘, 𝟙, ◌⊘◌, ◌≺◌}

  infixl 70 ◌⊘◌
  infixl 50 ◌≺◌
  open LW use {⊘-is, pos_one, pos_⊕, pos_⊗, pos_inv}

  cond_pos : (b : Bool) (x y : K) → Pos O x → Pos O y → Pos O (cond b x y)
  cond_pos true x y h k = h
  cond_pos false x y h k = k

  div_pos : (x y : K) → Pos O x → Pos O y → Pos O (x ⊘ y)
  div_pos x y h k = subst (Pos O) (sym (⊘-is x y)) (pos_⊗ _ _ h (pos_inv y k))

  -- ---- the largest entry

  abbrev Entries : List K → Type 0
  Entries v = (j : ℕ) → j < length v → Pos O (at O v j)

  largest-on : (v : List K) (m : K) → Pos O m → Entries v → Pos O (largest O m v)
  unfolding largest
  largest-on [] m h k = h
  largest-on (x ∷ v) m h k = largest-on v (cond (m ≺ x) x m) (cond_pos (m ≺ x) x m (k 0 (omega arith)) h) (λ j l. k (suc j) (omega arith))

  largest_pos : (v : List K) → 0 < length v → Entries v → Pos O (largest O 𝟘 v)
  unfolding largest
  largest_pos [] l k = absurd (omega arith)
  largest_pos (x ∷ v) l k =
      let h : Pos O x = k 0 (omega arith) in
      largest-on v (cond (𝟘 ≺ x) x 𝟘) (rw h h) (λ j q. k (suc j) (omega arith))

  -- ---- the tables

  -- above zero, if there is a factor
  abbrev Given : Option K → Type 0
  Given none = Unit
  Given (some x) = Pos O x

  ep_pos : (o : Option K) → Given o → Pos O (ep O o)
  unfolding ep
  ep_pos none h = pos_one
  ep_pos (some x) h = h

  em_pos : (o : Option K) → Given o → Pos O (em O o)
  unfolding em
  em_pos none h = pos_one
  em_pos (some x) h = pos_inv x h

  abbrev Factors : List (Back K) → Type 0
  Factors bs = All (λ b. Pos O b.factor) bs

  prepend_pos : (d : ℕ) (o : Option K) (bs : List (Back K)) → Given o → Factors bs → Factors (prepend d o bs)
  unfolding prepend
  prepend_pos d none bs h k = k
  prepend_pos d (some x) bs h k = (h, k)

  product_pos : (bs : List (Back K)) (m : ℕ) (x : K) → Factors bs → Pos O x → Pos O (product O bs m x)
  unfolding product
  product_pos [] m x k h = h
  product_pos (b ∷ bs) m x k h =
      product_pos bs (m / 2) _ k.1 (cond_pos (bit 0 m) _ _ (div_pos x b.factor h k.0) (pos_⊗ _ _ h k.0))

  up_pos : (bs : List (Back K)) (sc : K) (m : ℕ) → Factors bs → Pos O sc → Pos O (up O bs sc m)
  unfolding up
  up_pos bs sc m k h = pos_⊗ _ _ (product_pos bs m 𝟙 k pos_one) h

  module _ (J : Job K) (ok : Checked (Pos O) J) where
    edge_pos : (es : List (Edge K)) → All (Kept (Pos O) J) es → (t d : ℕ) → Given (back_edge es t d)
    unfolding back_edge
    edge_pos [] k t d = tt
    edge_pos (e ∷ es) k t d = go (eqb e.late t && eqb (e.early + d) t) (edge_pos es k.1 t d)
      where
        go : (b : Bool) → Given (back_edge es t d) → Given (cond b (some e.factor) (back_edge es t d))
        go true r = k.0.passed
        go false r = r

    found_pos : (t d : ℕ) → Given (back_edge J.edges t d)
    found_pos = edge_pos J.edges ok.edges

    edges_pos : (t d n : ℕ) → Factors (back_edges J.edges t d n)
    unfolding back_edges
    edges_pos t d zero = tt
    edges_pos t d (suc n) = prepend_pos d (back_edge J.edges t d) _ (found_pos t d) (edges_pos t (suc d) n)

    -- ---- a step's entries

    module _ (t : ℕ) (sc : K) (g : ℕ → K) (h : Pos O sc) (k : (j : ℕ) → j < 2 ^ J.window → Pos O (g j)) where
      abbrev half : ℕ
      half = 2 ^ (J.window - 1)

      halves : 2 ^ J.window ≡ 2 * half
      halves = St.size-halves O LW J.window ok.window

      plus : Pos O (ep O (step_of J t).left)
      plus = ep_pos _ (found_pos t J.window)

      minus : Pos O (em O (step_of J t).left)
      minus = em_pos _ (found_pos t J.window)

      others-up : (m : ℕ) → Pos O (up O (step_of J t).others sc m)
      others-up m = up_pos _ sc m (edges_pos t 1 (J.window - 1)) h

      forward_at_pos : (j : ℕ) → j < 2 ^ J.window → Pos O (forward_at O J.window (step_of J t) sc g j)
      unfolding forward_at
      forward_at_pos j l =
          let a = k (j / 2) (omega arith) in
          let b = k (half + j / 2) (omega (arith, halves)) in
          search (cond_pos, pos_⊗, pos_⊕, plus, minus, others-up)

      backward_at_pos : (j : ℕ) → j < 2 ^ J.window → Pos O (backward_at O J.window (step_of J t) sc g j)
      unfolding backward_at
      backward_at_pos j l =
          let q : j % half < half = mod-lt j (pow_pos (J.window - 1)) in
          let a : 2 * (j % half) + 1 < 2 ^ J.window = omega (arith, halves) in
          let x = k (2 * (j % half)) (omega arith) in
          let y = k (2 * (j % half) + 1) a in
          search (cond_pos, pos_⊗, pos_⊕, plus, minus, others-up)

    -- ---- the sweeps

    -- a vector of the window's size with entries above zero, and a stored largest entry above zero
    pub record PositiveSwept (s : Swept O J) : Type 0 where
      sized : length s.0 ≡ 2 ^ J.window
      entries : (j : ℕ) → j < 2 ^ J.window → Pos O (at O s.0 j)
      pub kept : Pos O s.1

    pub start_pos : PositiveSwept (start O J.window, 𝟙)
    unfolding start
    start_pos = record {
      sized = tabulate-length _ (2 ^ J.window);
      entries = λ j l. subst (Pos O) (sym (E.start-at O J.window j l)) pos_one;
      kept = pos_one;
    }

    swept : (r t : ℕ) (v : List K) → length v ≡ 2 ^ J.window → ((j : ℕ) → j < 2 ^ J.window → Pos O (at O v j))
        → PositiveSwept (v, stored O J.manner r t v)
    unfolding stored
    swept r t v e h =
        let k = largest_pos v (omega (arith, pow_pos J.window)) (λ j l. h j (omega arith)) in
        record { sized = e; entries = h; kept = go J.manner k }
      where
        go : (m : Manner) → Pos O (largest O 𝟘 v) → Pos O (stored O m r t v)
        go per_element k = k
        go block k = cond_pos (eqb (t % 4) r) _ _ k pos_one

    pub forward_pos : (t : ℕ) (s : Swept O J) → PositiveSwept s → PositiveSwept (sweep_forward O J t s)
    unfolding sweep_forward
    forward_pos t s p =
        swept 3 t _ (tabulate-length _ (2 ^ J.window))
        (λ j l. subst (Pos O) (sym (E.forward-at O (step_of J t) (𝟙 ⊘ s.1) J.window s.0 j l))
        (forward_at_pos t (𝟙 ⊘ s.1) (at O s.0) (pos_inv _ p.kept) p.entries j l))

    backward_pos : (t : ℕ) (s : Swept O J) → PositiveSwept s → PositiveSwept (sweep_backward O J t s)
    unfolding sweep_backward
    backward_pos t s p =
        swept 0 t _ (tabulate-length _ (2 ^ J.window))
        (λ j l. subst (Pos O) (sym (E.backward-at O (step_of J t) (𝟙 ⊘ s.1) J.window s.0 j l))
        (backward_at_pos t (𝟙 ⊘ s.1) (at O s.0) (pos_inv _ p.kept) p.entries j l))

    pub before_pos : (t : ℕ) → PositiveSwept (before_step O J t)
    unfolding before_step
    before_pos zero = start_pos
    before_pos (suc t) = forward_pos t _ (before_pos t)

    pub after_pos : (i : ℕ) → PositiveSwept (after_steps O J i)
    unfolding after_steps
    after_pos zero = start_pos
    after_pos (suc i) = backward_pos (J.last - i) _ (after_pos i)

    -- ---- scales and weights

    pub scales_pos : (f b : ℕ → K) → ((t : ℕ) → Pos O (f t)) → ((t : ℕ) → Pos O (b t)) → (v : ℕ) → Pos O (scales_at O J f b v)
    unfolding forward_scales backward_scales
    scales_pos f b hf hb v = pos_⊗ _ _ (ahead (suc v)) (behind v (J.last - v))
      where
        ahead : (i : ℕ) → Pos O (forward_scales O f 0 i)
        ahead zero = pos_one
        ahead (suc i) = pos_⊗ _ _ (ahead i) (hf (0 + i))

        behind : (v i : ℕ) → Pos O (backward_scales O b v i)
        behind v zero = pos_one
        behind v (suc i) = pos_⊗ _ _ (hb (suc v)) (behind (suc v) i)

    pub weight_pos : (es : List (Edge K)) → All (Kept (Pos O) J) es → (s : Setting) → Pos O (weight O es s)
    unfolding weight
    weight_pos [] k s = pos_one
    weight_pos (e ∷ es) k s =
        let h : Pos O e.factor = k.0.passed in
        let r : Pos O (weight O es s) = weight_pos es k.1 s in
        search (pos_⊗, cond_pos, pos_inv)
