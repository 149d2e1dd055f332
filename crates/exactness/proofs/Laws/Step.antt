-- One step in exact arithmetic: its tables are products over distances, a backward step sums over the newest spin, and the forward step is
-- the backward step's adjoint.
use Rattle.std.specs.Prelude.{◌≡◌, Bool, cond, ltb, eqb}
use Rattle.std.proofs.Math.Path.{refl, sym, ap}
use Rattle.std.proofs.Common.{◌∙◌, mod-eq_of_lt, lt-ltb, le-ltb}
use Rattle.std.proofs.Math.Bool.{true, false, not, beq}
use mathlib.Core.List.{List, [], ◌∷◌}
use Rattle.std.proofs.Math.Option.{Option, none, some}
use Prim.Native.Nat.{ℕ, zero, suc, ◌+◌, ◌*◌, ◌-◌, ◌/◌, ◌%◌, ◌^◌, ◌≤◌, ◌<◌}
use native.Mathlib.Omega.{arith}
use Rattle.std.proofs.Math.Nat.{pow-succ', add-mod_left}
use Rattle.std.proofs.Math.ListN.{length}
use Rattle.transfer_matrix.specs.Arithmetic.{Ops, sum}
use Rattle.list_laws.specs.Bits.{bit}
use Rattle.transfer_matrix.specs.Job.{Edge, Job, Back, back_edge, prepend, back_edges, Step, step_of}
use Rattle.transfer_matrix.specs.Sweep.{pattern, product, up, down, ep, em, forward_at, backward_at}
use Rattle.exactness.proofs.Laws.Algebra as L
use Rattle.exactness.proofs.Laws.Algebra.{Laws, prod_from}
use Rattle.exactness.proofs.Laws.Digits.{bit_mod, mod_even, mod_odd, mod_low, mod_half, agree_even, agree-odd}
use Rattle.exactness.proofs.Laws.Entries as E
use Rattle.exactness.proofs.Laws.Entries.{up_at, down_at}

-- ---- patterns by a test of the distance: bit i is set where the test holds of the i-th distance

pattern_of : {K : Type 0} → List (Back K) → (ℕ → Bool) → ℕ
pattern_of [] r = 0
pattern_of (b ∷ bs) r = cond (r b.distance) 1 0 + 2 * pattern_of bs r

digit : (x : ℕ) → x < 2 → x ≡ cond (eqb x 1) 1 0
digit zero h = refl
digit (suc zero) h = refl
digit (suc (suc x)) h = absurd (omega arith)

pattern-is : {K : Type 0} (bs : List (Back K)) (k : ℕ) → pattern bs k ≡ pattern_of bs (λ d. bit (d - 1) k)
unfolding pattern pattern_of
pattern-is [] k = refl
pattern-is (b ∷ bs) k = omega (arith, pattern-is bs k, digit (k / 2 ^ (b.distance - 1) % 2) (omega arith))

digit_not : (b : Bool) → cond b 1 0 + cond (not b) 1 0 ≡ 1
digit_not true = refl
digit_not false = refl

pattern_lt : {K : Type 0} (bs : List (Back K)) (r : ℕ → Bool) → pattern_of bs r < 2 ^ length bs
unfolding pattern_of
pattern_lt [] r = omega arith
pattern_lt (b ∷ bs) r = omega (arith, pattern_lt bs r, digit_not (r b.distance), pow-succ' 2 (length bs))

-- the complement of a pattern is the pattern of the opposite test
complement : {K : Type 0} (bs : List (Back K)) (r : ℕ → Bool) → 2 ^ length bs - 1 - pattern_of bs r ≡ pattern_of bs (λ d. not (r d))
unfolding pattern_of
complement [] r = refl
complement (b ∷ bs) r = omega (arith, complement bs r, pattern_lt bs r, digit_not (r b.distance), pow-succ' 2 (length bs))

not_not : (b : Bool) → not (not b) ≡ b
not_not true = refl
not_not false = refl

module _ (O : Ops) where
  open O use {K, 𝟙, ◌⊕◌, ◌⊗◌, ◌⊘◌}

  infixl 60 ◌⊕◌
  infixl 70 ◌⊗◌
  infixl 70 ◌⊘◌
  -- ---- the weight of a vertex's back edges, in a setting whose bit d is the spin of the vertex d back

  -- An edge's weight, by whether its ends agree; where there is no edge it is one.
  unfoldable pub edge_weight : Option K → Bool → K
  edge_weight none agree = 𝟙
  edge_weight (some x) agree = cond agree x (𝟙 ⊘ x)

  module _ (J : Job K) where
    unfoldable pub back_weight : ℕ → ℕ → ℕ → K
    back_weight t c d = edge_weight (back_edge J.edges t d) (beq (bit d c) (bit 0 c))

    unfoldable pub vertex_weight : ℕ → ℕ → K
    vertex_weight t c = prod_from O 1 J.window (back_weight t c)

    -- The sum over the spin of vertex t, given the older ones s, of what f is worth in each case.
    unfoldable pub sum_spin : ℕ → (ℕ → K) → ℕ → K
    sum_spin t f s = vertex_weight t (2 * s) ⊗ f (2 * s) ⊕ vertex_weight t (2 * s + 1) ⊗ f (2 * s + 1)

  edge-ep : (o : Option K) → edge_weight o true ≡ ep O o
  unfolding edge_weight ep
  edge-ep none = refl
  edge-ep (some x) = refl

  edge-em : (o : Option K) → edge_weight o false ≡ em O o
  unfolding edge_weight em
  edge-em none = refl
  edge-em (some x) = refl

  module _ (LW : Laws O) where
    open LW use {⊕_comm, ⊕_assoc, ⊗_comm, ⊗_assoc, ⊗-one, ⊗-⊕, ⊘-is}

    -- ---- the tables

    product_mul : (bs : List (Back K)) (m : ℕ) (x : K) → product O bs m x ≡ x ⊗ product O bs m 𝟙
    unfolding product
    product_mul [] m x = sym (⊗-one x)
    product_mul (b ∷ bs) m x = go (bit 0 m) (product_mul bs (m / 2))
      where
        go : (c : Bool) → ((y : K) → product O bs (m / 2) y ≡ y ⊗ product O bs (m / 2) 𝟙)
            → product O bs (m / 2) (cond c (x ⊘ b.factor) (x ⊗ b.factor))
            ≡ x ⊗ product O bs (m / 2) (cond c (𝟙 ⊘ b.factor) (𝟙 ⊗ b.factor))
        go true ih =
            cc (ih (x ⊘ b.factor), ih (𝟙 ⊘ b.factor), ⊘-is x b.factor, ⊗_assoc x (𝟙 ⊘ b.factor) (product O bs (m / 2) 𝟙))
        go false ih =
            cc (ih (x ⊗ b.factor), ih (𝟙 ⊗ b.factor), L.one-⊗ O LW b.factor, ⊗_assoc x b.factor (product O bs (m / 2) 𝟙))

    product-prepend : (o : Option K) (d : ℕ) (bs : List (Back K)) (r : ℕ → Bool)
        → product O (prepend d o bs) (pattern_of (prepend d o bs) r) 𝟙 ≡ edge_weight o (not (r d)) ⊗ product O bs (pattern_of bs r) 𝟙
    unfolding product prepend pattern_of edge_weight
    product-prepend none d bs r = sym (L.one-⊗ O LW _)
    product-prepend (some x) d bs r = go (r d)
      where
        m : ℕ
        m = pattern_of bs r

        go : (b : Bool) → product O bs ((cond b 1 0 + 2 * m) / 2) (cond (bit 0 (cond b 1 0 + 2 * m)) (𝟙 ⊘ x) (𝟙 ⊗ x))
            ≡ cond (not b) x (𝟙 ⊘ x) ⊗ product O bs m 𝟙
        go false =
            let half : (0 + 2 * m) / 2 ≡ m = omega arith in
            let low : (0 + 2 * m) / 1 % 2 ≡ 0 = omega arith in
            rw (half, low, L.one-⊗ O LW x) (product_mul bs m x)
        go true =
            let half : (1 + 2 * m) / 2 ≡ m = omega arith in
            let low : (1 + 2 * m) / 1 % 2 ≡ 1 = omega arith in
            rw (half, low) (product_mul bs m (𝟙 ⊘ x))

    product_is : (es : List (Edge K)) (t d n : ℕ) (r : ℕ → Bool)
        → product O (back_edges es t d n) (pattern_of (back_edges es t d n) r) 𝟙 ≡ prod_from O d n (λ i. edge_weight (back_edge es t i) (not (r i)))
    unfolding back_edges prod_from product
    product_is es t d zero r = refl
    product_is es t d (suc n) r =
        product-prepend (back_edge es t d) d (back_edges es t (suc d) n) r
        ∙ ap (λ x. edge_weight (back_edge es t d) (not (r d)) ⊗ x) (product_is es t (suc d) n r)

    -- ---- the forward step is the backward step's adjoint

    adjoint_ring : (a b e m u d x y : K)
        → (e ⊗ a ⊕ m ⊗ b) ⊗ u ⊗ x ⊕ (m ⊗ a ⊕ e ⊗ b) ⊗ d ⊗ y ≡ a ⊗ (e ⊗ (x ⊗ u) ⊕ m ⊗ (y ⊗ d)) ⊕ b ⊗ (m ⊗ (x ⊗ u) ⊕ e ⊗ (y ⊗ d))
    adjoint_ring a b e m u d x y = simp (L.⊕-⊗ O LW, ⊗-⊕, ⊗_assoc, ⊗_comm, ⊕_assoc, ⊕_comm, L.⊕-left O LW)

    module _ (w : ℕ) (hw : 1 ≤ w) where
      pub size-halves : 2 ^ w ≡ 2 * 2 ^ (w - 1)
      size-halves = let e : w ≡ suc (w - 1) = omega arith in ap (λ x. 2 ^ x) e ∙ pow-succ' 2 (w - 1)

      pub adjoint : (s : Step K) (sc : K) (f g : ℕ → K)
          → sum O (2 ^ w) (λ j. forward_at O w s sc f j ⊗ g j) ≡ sum O (2 ^ w) (λ j. f j ⊗ backward_at O w s sc g j)
      adjoint s sc f g =
          ap (λ n. sum O n left) size-halves
          ∙ L.sum-pairs O LW h left
          ∙ L.sum_ext O LW h (λ k. left (2 * k) ⊕ left (2 * k + 1)) (λ k. right k ⊕ right (h + k)) each
          ∙ L.sum_add O LW h right (λ k. right (h + k))
          ∙ sym (L.sum_append O LW h h right)
          ∙ ap (λ n. sum O n right) twice
        where
          h : ℕ
          h = 2 ^ (w - 1)

          left : ℕ → K
          left j = forward_at O w s sc f j ⊗ g j

          right : ℕ → K
          right j = f j ⊗ backward_at O w s sc g j

          twice : h + h ≡ 2 ^ w
          twice = omega (arith, size-halves)

          each : (k : ℕ) → k < h → left (2 * k) ⊕ left (2 * k + 1) ≡ right k ⊕ right (h + k)
          each k l =
              cc (
                E.forward_even O s sc w f k,
                E.forward-odd O s sc w f k,
                E.backward-low O s sc w g k k (mod-eq_of_lt l) (lt-ltb k h l),
                E.backward-high O s sc w g k (h + k) (add-mod_left h k ∙ mod-eq_of_lt l) (le-ltb (h + k) h (omega arith)),
                adjoint_ring (f k) (f (h + k)) (ep O s.left) (em O s.left) (up_at O s sc k) (down_at O s sc k) (g (2 * k)) (g (2 * k + 1)),
              )

    -- ---- a backward step, read at a whole setting s of the older spins

    step_ring : (sc e m x y u v : K) → e ⊗ (x ⊗ (u ⊗ sc)) ⊕ m ⊗ (y ⊗ (v ⊗ sc)) ≡ sc ⊗ ((u ⊗ e) ⊗ x ⊕ (v ⊗ m) ⊗ y)
    step_ring sc e m x y u v = simp (⊗-⊕, ⊗_assoc, ⊗_comm, L.⊗-left O LW)

    module _ (J : Job K) (hw : 1 ≤ J.window) (t : ℕ) where
      abbrev w : ℕ
      w = J.window

      w-is : w ≡ suc (w - 1)
      w-is = omega arith

      abbrev step : Step K
      step = step_of J t

      -- the edges shorter than the window
      short_weight : ℕ → K
      short_weight c = prod_from O 1 (w - 1) (back_weight J t c)

      vertex_split : (c : ℕ) (agree : Bool) → beq (bit w c) (bit 0 c) ≡ agree
          → vertex_weight J t c ≡ short_weight c ⊗ edge_weight step.left agree
      unfolding vertex_weight short_weight back_weight
      vertex_split c agree h =
          let e : 1 + (w - 1) ≡ w = omega arith in
          ap (λ n. prod_from O 1 n (back_weight J t c)) w-is
          ∙ L.prod_snoc O LW 1 (w - 1) (back_weight J t c)
          ∙ ap (λ d. short_weight c ⊗ back_weight J t c d) e
          ∙ ap (λ b. short_weight c ⊗ edge_weight step.left b) h

      -- the tables at the low bits of s
      table : (r : ℕ → Bool) (c : ℕ) → ((d : ℕ) → suc d < w → not (r (suc d)) ≡ beq (bit (suc d) c) (bit 0 c))
          → product O step.others (pattern_of step.others r) 𝟙 ≡ short_weight c
      unfolding short_weight back_weight
      table r c h =
          product_is J.edges t 1 (w - 1) r
          ∙ L.prod_ext O LW 1 (w - 1) _ _ (λ d a b. ap (edge_weight (back_edge J.edges t d)) (same d a b))
        where
          same : (d : ℕ) → 1 ≤ d → d < 1 + (w - 1) → not (r d) ≡ beq (bit d c) (bit 0 c)
          same zero a b = absurd (omega arith)
          same (suc d) a b = h d (omega arith)

      older : (s d : ℕ) → suc d < w → bit (suc d - 1) (s % 2 ^ (w - 1)) ≡ bit d s
      older s d h = let e : suc d - 1 ≡ d = omega arith in ap (λ p. bit p (s % 2 ^ (w - 1))) e ∙ bit_mod d (w - 1) s (omega arith)

      up_is : (sc : K) (s : ℕ) → up_at O step sc (s % 2 ^ (w - 1)) ≡ short_weight (2 * s) ⊗ sc
      unfolding up
      up_is sc s =
          ap (λ m. product O step.others m 𝟙 ⊗ sc) (pattern-is step.others (s % 2 ^ (w - 1)))
          ∙ ap (λ x. x ⊗ sc) (table _ (2 * s) (λ d h. ap not (older s d h) ∙ sym (agree_even d s)))

      down_is : (sc : K) (s : ℕ) → down_at O step sc (s % 2 ^ (w - 1)) ≡ short_weight (2 * s + 1) ⊗ sc
      unfolding down
      down_is sc s =
          ap (λ m. product O step.others (2 ^ length step.others - 1 - m) 𝟙 ⊗ sc) (pattern-is step.others (s % 2 ^ (w - 1)))
          ∙ ap (λ m. product O step.others m 𝟙 ⊗ sc) (complement step.others _)
          ∙ ap (λ x. x ⊗ sc) (table _ (2 * s + 1) (λ d h. not_not _ ∙ older s d h ∙ sym (agree-odd d s)))

      pub backward-sums : (sc : K) (f : ℕ → K) (s : ℕ)
          → backward_at O w step sc f (s % 2 ^ w) ≡ sc ⊗ sum_spin J t (λ c. f (c % 2 ^ w)) s
      unfolding sum_spin
      backward-sums sc f s = go (bit q s) refl
        where
          q : ℕ
          q = w - 1

          k : ℕ
          k = s % 2 ^ q

          cut : s % 2 ^ w % 2 ^ q ≡ k
          cut = ap (λ z. s % 2 ^ z % 2 ^ q) w-is ∙ mod_low q s

          x : f (2 * k) ≡ f (2 * s % 2 ^ w)
          x = ap f (sym (ap (λ z. 2 * s % 2 ^ z) w-is ∙ mod_even q s))

          y : f (2 * k + 1) ≡ f ((2 * s + 1) % 2 ^ w)
          y = ap f (sym (ap (λ z. (2 * s + 1) % 2 ^ z) w-is ∙ mod_odd q s))

          half : (b : Bool) → bit q s ≡ b → ltb (s % 2 ^ w) (2 ^ q) ≡ not b
          half b e = ap (λ z. ltb (s % 2 ^ z) (2 ^ q)) w-is ∙ mod_half q s ∙ ap not e

          even : (b : Bool) → bit q s ≡ b → vertex_weight J t (2 * s) ≡ short_weight (2 * s) ⊗ edge_weight step.left (not b)
          even b e = vertex_split (2 * s) (not b) (ap (λ z. beq (bit z (2 * s)) (bit 0 (2 * s))) w-is ∙ agree_even q s ∙ ap not e)

          odd : (b : Bool) → bit q s ≡ b → vertex_weight J t (2 * s + 1) ≡ short_weight (2 * s + 1) ⊗ edge_weight step.left b
          odd b e = vertex_split (2 * s + 1) b (ap (λ z. beq (bit z (2 * s + 1)) (bit 0 (2 * s + 1))) w-is ∙ agree-odd q s ∙ e)

          ring : (a b : K) → a ⊗ (f (2 * k) ⊗ up_at O step sc k) ⊕ b ⊗ (f (2 * k + 1) ⊗ down_at O step sc k)
              ≡ sc ⊗ ((short_weight (2 * s) ⊗ a) ⊗ f (2 * s % 2 ^ w) ⊕ (short_weight (2 * s + 1) ⊗ b) ⊗ f ((2 * s + 1) % 2 ^ w))
          ring a b = cc (up_is sc s, down_is sc s, x, y, step_ring sc a b (f (2 * k)) (f (2 * k + 1)) (short_weight (2 * s)) (short_weight (2 * s + 1)))

          go : (b : Bool) → bit q s ≡ b → backward_at O w step sc f (s % 2 ^ w)
              ≡ sc ⊗ (vertex_weight J t (2 * s) ⊗ f (2 * s % 2 ^ w) ⊕ vertex_weight J t (2 * s + 1) ⊗ f ((2 * s + 1) % 2 ^ w))
          go false e =
              E.backward-low O step sc w f k (s % 2 ^ w) cut (half false e)
              ∙ cc (even false e, odd false e, edge-ep step.left, edge-em step.left, ring (ep O step.left) (em O step.left))
          go true e =
              E.backward-high O step sc w f k (s % 2 ^ w) cut (half true e)
              ∙ cc (even true e, odd true e, edge-ep step.left, edge-em step.left, ring (em O step.left) (ep O step.left))
