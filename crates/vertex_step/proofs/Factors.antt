-- The factors in the room, read by edge.
use mathlib.Core.Path.{◌≡◌, refl, sym, ap, ◌∙◌, subst}
use mathlib.Core.Bool.{not}
use mathlib.Core.List.{List}
use Prim.Native.Nat.{ℕ, zero, suc, ◌+◌, ◌-◌, ◌≤◌, ◌<◌}
use native.Mathlib.Omega.{arith}
use lib.Dec.{eqb, eqb-suc-zero}
use lib.ListN.{get_or, drop}
use lib.Seq.{get_or-drop}
use lib.Ieee.{Float, nan, binary64, div}
use Rattle.transfer_matrix.specs.Job.{Step}
use Rattle.plan_steps.specs.Layout.{Vertex, named, near_from, step_in, left_edge as left_of, near_count, near_edge, near_bit}
use Rattle.transfer_matrix.specs.Rounded.{ieee}
use Rattle.transfer_matrix.specs.Sweep as S
use Rattle.step_tables.specs.Step.{near_edges, left_edge, step_from, Rising, tables, Filled, Tabled}
use Rattle.step_tables.proofs.Laws.Tables.{tabled}

pub factor-is : (r : List Float) (f e k : ℕ) → e ≡ k → get_or r (f + e) nan ≡ get_or (drop f r) k nan
factor-is r f e k p = ap (λ (i : ℕ). get_or r (f + i) nan) p ∙ sym (get_or-drop f r k nan)

module _ (plan : List ℕ) (x : List Float) (t : ℕ) where
  -- the near edges in two arrays are those of the plan
  near_same : (factors : List Float) (bits : List ℕ) (i n : ℕ)
      → ((j : ℕ) → i ≤ j → j < i + n → (get_or factors j nan ≡ get_or x (near_edge plan t j) nan) × (get_or bits j 0 ≡ near_bit plan t j))
      → near_edges factors bits i n ≡ near_from (λ e. get_or x e nan) plan t i n
  unfolding near_edges near_from
  near_same factors bits i zero h = refl
  near_same factors bits i (suc n) h =
      let a = h i (omega arith) (omega arith) in
      rw (a.0, a.1, near_same factors bits (suc i) n (λ j b c. h j (omega arith) (omega arith)))

  left-same : (k : ℕ) (left : Float) → ((k ≡ 0 → ⊥) → left ≡ get_or x (k - 1) nan) → left_edge (not (eqb k 0)) left ≡ named (λ e. get_or x e nan) k
  unfolding left_edge named
  left-same zero left h = refl
  left-same (suc k) left h = rw (eqb-suc-zero k, h (λ e. omega arith))

  step_same : (k count : ℕ) (left : Float) (factors : List Float) (bits : List ℕ) → k ≡ left_of plan t → count ≡ near_count plan t
      → ((k ≡ 0 → ⊥) → left ≡ get_or x (k - 1) nan)
      → ((j : ℕ) → j < near_count plan t → get_or factors j nan ≡ get_or x (near_edge plan t j) nan)
      → ((j : ℕ) → j < near_count plan t → get_or bits j 0 ≡ near_bit plan t j)
      → step_from (not (eqb k 0)) left factors bits count ≡ step_in plan x t
  step_same k count left factors bits ek ec hl hf hb =
      let l = left-same k left hl ∙ ap (named (λ e. get_or x e nan)) ek in
      let o =
      ap (near_edges factors bits 0) ec ∙ near_same factors bits 0 (near_count plan t) (λ j a b. (hf j (omega arith), hb j (omega arith))) in
      cc

  pub tables-made : (k count : ℕ) (left ep sc : Float) (factors : List Float) (bits : List ℕ) (up down : List Float) → k ≡ left_of plan t
      → count ≡ near_count plan t → ((k ≡ 0 → ⊥) → left ≡ get_or x (k - 1) nan)
      → ((j : ℕ) → j < near_count plan t → get_or factors j nan ≡ get_or x (near_edge plan t j) nan)
      → ((j : ℕ) → j < near_count plan t → get_or bits j 0 ≡ near_bit plan t j)
      → ep ≡ S.ep ieee (left_edge (not (eqb k 0)) left) → Filled (near_edges factors bits 0 count) sc count up down
      → Tabled (step_in plan x t) sc (tables (near_count plan t) ep (div binary64 ieee.𝟙 ep) bits up down)
  tables-made k count left ep sc factors bits up down ek ec hl hf hb p g =
      let step = step_same k count left factors bits ek ec hl hf hb in
      let made = tabled (not (eqb k 0)) left ep sc factors bits count up down p g in
      subst (λ (c : ℕ). Tabled (step_in plan x t) sc (tables c ep (div binary64 ieee.𝟙 ep) bits up down)) ec
      (subst (λ (s : Step Float). Tabled s sc (tables count ep (div binary64 ieee.𝟙 ep) bits up down)) step made)

  pub bits-rise : (w m count : ℕ) (bits : List ℕ) → Vertex plan w m t → count ≡ near_count plan t
      → ((j : ℕ) → j < near_count plan t → get_or bits j 0 ≡ near_bit plan t j) → Rising bits count (w - 1)
  bits-rise w m count bits g ec hb =
      let few = g.few in
      record {
        few = omega arith;
        rise = λ i j a b. omega (arith, g.rising i j a (omega arith), hb i (omega arith), hb j (omega arith));
        low = λ i b. omega (arith, g.low i (omega arith), hb i (omega arith));
      }
