-- The weight of a setting: the sweeps' product over vertices and distances is the textbook's product over edges.
use Rattle.std.specs.Prelude.{◌≡◌, ◌≢◌, cond, ◌&&◌, eqb}
use Rattle.std.proofs.Math.Path.{refl, sym, ap, ap₂, fun_ext}
use Rattle.std.proofs.Common.{◌∙◌}
use Rattle.std.specs.Bool.{beq}
use mathlib.Core.List.{List, [], ◌∷◌}
use Rattle.std.proofs.Math.Option.{none}
use Prim.Native.Nat.{ℕ, zero, suc, ◌+◌, ◌*◌, ◌-◌, ◌/◌, ◌^◌, ◌<◌}
use native.Mathlib.Omega.{arith}
use Rattle.std.proofs.Math.Decide.{ℕ_discrete, dec_lt}
use borrow.Author.Tests.{eq-eqb, ne_eqb}
use Rattle.transfer_matrix.specs.Arithmetic.{Ops, sum}
use Rattle.list_laws.specs.Bits.{bit}
use Rattle.transfer_matrix.specs.Job.{Edge, Job, back_edge}
use Rattle.transfer_matrix.specs.Checked.{All, Kept, SameEnds, Apart, Checked}
use Rattle.exactness.specs.Textbook.{Setting, over_settings, weight}
use Rattle.exactness.proofs.Laws.Algebra as L
use Rattle.exactness.proofs.Laws.Algebra.{Laws, prod_from}
use Rattle.exactness.proofs.Laws.Digits.{shift_suc, bit_shift, bit_shift_zero}
use Rattle.exactness.proofs.Laws.Step.{edge_weight, back_weight, vertex_weight}
use Rattle.exactness.proofs.Laws.Spins as Sp
use Rattle.exactness.proofs.Laws.Spins.{path_weight}
use Rattle.exactness.proofs.Laws.Chain.{total}
use Rattle.exactness.proofs.Laws.Settings as S
use Rattle.exactness.proofs.Laws.Settings.{setting_of, setting_at, setting_above}

-- no edge goes back past vertex 0
none_beyond : {K : Type 0} (es : List (Edge K)) (t d : ℕ) → t < d → back_edge es t d ≡ none
unfolding back_edge
none_beyond [] t d h = refl
none_beyond (e ∷ es) t d h = go (ℕ_discrete e.late t) (none_beyond es t d h)
  where
    go : Dec (e.late ≡ t) → back_edge es t d ≡ none → back_edge (e ∷ es) t d ≡ none
    go (yes a) ih = cc (eq-eqb e.late t a, ne_eqb (e.early + d) t (λ b. omega arith), ih)
    go (no a) ih = cc (ne_eqb e.late t a, ih)

-- an edge that joins other vertices than all of these is not found among them
none_apart : {K : Type 0} (e : Edge K) (es : List (Edge K)) → e.early < e.late → All (λ f. SameEnds e f → ⊥) es
    → back_edge es e.late (e.late - e.early) ≡ none
unfolding back_edge
none_apart e [] o h = refl
none_apart e (f ∷ fs) o h = go (ℕ_discrete f.late e.late) (ℕ_discrete f.early e.early) (none_apart e fs o h.1)
  where
    go : Dec (f.late ≡ e.late) → Dec (f.early ≡ e.early) → back_edge fs e.late (e.late - e.early) ≡ none
        → back_edge (f ∷ fs) e.late (e.late - e.early) ≡ none
    go (yes a) (yes b) ih = absurd (h.0 (sym b, sym a))
    go (yes a) (no b) ih =
        cc (eq-eqb f.late e.late a, ne_eqb (f.early + (e.late - e.early)) e.late (λ k. b (omega arith)), ih)
    go (no a) b ih = cc (ne_eqb f.late e.late a, ih)

module _ (O : Ops) (LW : Laws O) (J : Job O.K) where
  open O use {K, 𝟙, ◌⊗◌, ◌⊘◌}

  infixl 70 ◌⊗◌
  infixl 70 ◌⊘◌
  open LW use {⊗-one}

  -- the weight of the edge from vertex i to the one d back, in the setting s
  cell : List (Edge K) → Setting → ℕ → ℕ → K
  cell es s i d = edge_weight O (back_edge es i d) (beq (s (i - d)) (s i))

  grid : List (Edge K) → Setting → K
  grid es s = prod_from O 0 (suc J.last) (λ i. prod_from O 1 J.window (cell es s i))

  -- ---- the sweeps' weight, by vertices and distances

  path-product : (t c : ℕ) → path_weight O J t c ≡ prod_from O 0 t (λ i. vertex_weight O J i (c / 2 ^ (t - suc i)))
  unfolding path_weight prod_from
  path-product zero c = refl
  path-product (suc t) c =
      let z : t ≡ 0 + t = omega arith in
      let y : c ≡ c / 1 = omega arith in
      let x : 0 ≡ suc t - suc (0 + t) = omega arith in
      ap₂ ◌⊗◌
      (path-product t (c / 2) ∙ L.prod_ext O LW 0 t _ _ (λ i a b. ap (vertex_weight O J i) (older i b)))
      (ap₂ (vertex_weight O J) z (y ∙ ap (λ n. c / 2 ^ n) x))
      ∙ sym (L.prod_snoc O LW 0 t (λ i. vertex_weight O J i (c / 2 ^ (suc t - suc i))))
    where
      older : (i : ℕ) → i < 0 + t → c / 2 / 2 ^ (t - suc i) ≡ c / 2 ^ (suc t - suc i)
      older i b = let e : suc (t - suc i) ≡ suc t - suc i = omega arith in sym (shift_suc (t - suc i) c) ∙ ap (λ n. c / 2 ^ n) e

  back_cell : (n c i d : ℕ) → i < n → back_weight O J i (c / 2 ^ (n - suc i)) d ≡ cell J.edges (setting_of n c) i d
  unfolding back_weight cell edge_weight
  back_cell n c i d h = go (dec_lt i d)
    where
      go : Dec (i < d) → edge_weight O (back_edge J.edges i d) (beq (bit d (c / 2 ^ (n - suc i))) (bit 0 (c / 2 ^ (n - suc i))))
          ≡ edge_weight O (back_edge J.edges i d) (beq (setting_of n c (i - d)) (setting_of n c i))
      go (yes l) = rw (none_beyond J.edges i d l)
      go (no l) =
          let e : n - suc i + d ≡ n - suc (i - d) = omega arith in
          ap₂ (λ x y. edge_weight O (back_edge J.edges i d) (beq x y))
          (bit_shift d (n - suc i) c ∙ ap (λ p. bit p c) e ∙ sym (setting_at n c (i - d) (omega arith)))
          (bit_shift_zero (n - suc i) c ∙ sym (setting_at n c i h))

  path_grid : (c : ℕ) → path_weight O J (suc J.last) c ≡ grid J.edges (setting_of (suc J.last) c)
  unfolding grid vertex_weight
  path_grid c =
      path-product (suc J.last) c
      ∙ L.prod_ext O LW 0 (suc J.last) _ _ (λ i a b. ap (prod_from O 1 J.window) (fun_ext (λ d. back_cell (suc J.last) c i d (omega arith))))

  -- ---- that weight, edge by edge

  module _ (P : K → Type 0) (s : Setting) where
    module _ (e : Edge K) (es : List (Edge K)) (kept : Kept P J e) (new : All (λ f. SameEnds e f → ⊥) es) where
      own : K
      own = cond (beq (s e.early) (s e.late)) e.factor (𝟙 ⊘ e.factor)

      only : ℕ → ℕ → K
      only i d = cond (eqb e.late i && eqb (e.early + d) i) own 𝟙

      cell_cons : (i d : ℕ) → cell (e ∷ es) s i d ≡ only i d ⊗ cell es s i d
      unfolding cell only own back_edge edge_weight
      cell_cons i d = go (ℕ_discrete e.late i) (ℕ_discrete (e.early + d) i)
        where
          go : Dec (e.late ≡ i) → Dec (e.early + d ≡ i) → cell (e ∷ es) s i d ≡ only i d ⊗ cell es s i d
          go (yes a) (yes b) =
              let d' : d ≡ e.late - e.early = omega arith in
              let early : i - d ≡ e.early = omega arith in
              let new' : back_edge es i d ≡ none = ap₂ (back_edge es) (sym a) d' ∙ none_apart e es kept.ordered new in
              cc (eq-eqb e.late i a, eq-eqb (e.early + d) i b, new', ap s early, ap s a, ⊗-one own)
          go (yes a) (no b) = cc (eq-eqb e.late i a, ne_eqb (e.early + d) i b, L.one-⊗ O LW (cell es s i d))
          go (no a) b = cc (ne_eqb e.late i a, L.one-⊗ O LW (cell es s i d))

      only-own : prod_from O 0 (suc J.last) (λ i. prod_from O 1 J.window (only i)) ≡ own
      unfolding only
      only-own =
          L.prod_single O LW 0 (suc J.last) e.late (λ i. prod_from O 1 J.window (only i)) (omega arith) (omega arith)
          (λ i n. L.prod_one O LW 1 J.window (only i) (λ d l. row i n d))
          ∙ L.prod_single O LW 1 J.window (e.late - e.early) (only e.late) (omega arith) (omega arith) column
          ∙ hit
        where
          row : (i : ℕ) → i ≢ e.late → (d : ℕ) → only i d ≡ 𝟙
          row i n d = cc (ne_eqb e.late i (λ p. n (sym p)))

          column : (d : ℕ) → d ≢ e.late - e.early → only e.late d ≡ 𝟙
          column d n = cc (eq-eqb e.late e.late refl, ne_eqb (e.early + d) e.late (λ p. n (omega arith)))

          hit : only e.late (e.late - e.early) ≡ own
          hit = cc (eq-eqb e.late e.late refl, eq-eqb (e.early + (e.late - e.early)) e.late (omega arith))

      grid_cons : grid (e ∷ es) s ≡ own ⊗ grid es s
      unfolding grid
      grid_cons =
          ap (prod_from O 0 (suc J.last))
          (fun_ext (λ i. ap (prod_from O 1 J.window) (fun_ext (cell_cons i)) ∙ L.prod_mul O LW 1 J.window (only i) (cell es s i)))
          ∙ L.prod_mul O LW 0 (suc J.last) (λ i. prod_from O 1 J.window (only i)) (λ i. prod_from O 1 J.window (cell es s i))
          ∙ ap (λ x. x ⊗ grid es s) only-own

    grid_is : (es : List (Edge K)) → All (Kept P J) es → Apart es → grid es s ≡ weight O es s
    unfolding grid cell back_edge edge_weight weight own
    grid_is [] kept apart = L.prod_one O LW 0 (suc J.last) _ (λ i l. L.prod_one O LW 1 J.window _ (λ d k. refl))
    grid_is (e ∷ es) kept apart = grid_cons e es kept.0 apart.0 ∙ ap (λ x. own e es kept.0 apart.0 ⊗ x) (grid_is es kept.1 apart.1)

  -- ---- so the sum over all spins is the textbook's sum, once for each setting of the spins before vertex 0

  pub total-is : (P : K → Type 0) → Checked P J → (g : Setting → K)
      → total O J (λ c. g (setting_of (suc J.last) c))
      ≡ sum O (2 ^ J.window) (λ j. 𝟙) ⊗ over_settings O (suc J.last) (λ s. weight O J.edges s ⊗ g s)
  total-is P ok g =
      ap (sum O (2 ^ J.window)) (fun_ext (λ j. Sp.spins-sum O LW J n _ j ∙ ap (sum O (2 ^ n)) (fun_ext (each j)) ∙ sym (S.over-numbers O LW n _)))
      ∙ L.sum_const O LW (2 ^ J.window) _
    where
      n : ℕ
      n = suc J.last

      each : (j c : ℕ) → path_weight O J n (2 ^ n * j + c) ⊗ g (setting_of n (2 ^ n * j + c))
          ≡ weight O J.edges (setting_of n c) ⊗ g (setting_of n c)
      each j c =
          ap (λ x. x ⊗ g (setting_of n (2 ^ n * j + c)))
          (path_grid (2 ^ n * j + c) ∙ grid_is P (setting_of n (2 ^ n * j + c)) J.edges ok.edges ok.apart)
          ∙ ap (λ s. weight O J.edges s ⊗ g s) (setting_above n j c)
