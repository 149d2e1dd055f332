-- Laws of what specs/Reuse defines.
use Rattle.std.specs.Prelude.{◌≡◌, Bool, eqb, get_or}
use Rattle.std.proofs.Math.Path.{refl, ap}
use Rattle.std.proofs.Common.{sym, ◌∙◌}
use Rattle.std.proofs.Math.Bool.{cond}
use mathlib.Core.List.{List}
use Rattle.std.proofs.Math.Option.{none, some}
use Rattle.std.proofs.Math.Logic.{dite}
use Prim.Native.Nat.{ℕ, zero, suc, ◌+◌, ◌-◌, ◌≤◌, ◌<◌}
use Rattle.std.proofs.Math.Decide.{dec_lt}
use native.Mathlib.Omega.{arith}
use Rattle.std.specs.Float.Ieee.{Float}
use Rattle.std.specs.Float.{nan}
use Rattle.transfer_matrix.specs.Job.{Job, step_of}
use Rattle.transfer_matrix.specs.Rounded.{ieee}
use Rattle.transfer_matrix.specs.Sweep as S
use Rattle.plan_steps.specs.Layout.{Vertex, left_edge, near_count, near_edge, named, near_from, step_in}
use Rattle.vertex_step.proofs.Laws.Same.{symmetric_as}
use Rattle.vertex_step.specs.Ready.{PlanOf, Backward}
use Rattle.sweep_places.specs.Reuse.{Reads}

pub reads_map : {plan : List ℕ} {t : ℕ} (P Q : ℕ → Type 0) {w m : ℕ} → Vertex plan w m t → ((e : ℕ) → e < m → P e → Q e) → Reads plan t P → Reads plan t Q
reads_map P Q v f g =
    record { left = λ b. f _ (omega (arith, v.left)) (g.left b); near = λ i b. f _ (v.edge i b) (g.near i b) }

-- ---- a step reads the factors of its own edges

module _ (plan : List ℕ) (x x' : List Float) (t : ℕ) where
  near_same : (i k : ℕ) → ((j : ℕ) → j < i + k → get_or x (near_edge plan t j) nan ≡ get_or x' (near_edge plan t j) nan)
      → near_from (λ e. get_or x e nan) plan t i k ≡ near_from (λ e. get_or x' e nan) plan t i k
  unfolding near_from
  near_same i zero h = refl
  near_same i (suc k) h = rw (h i (omega arith), near_same (suc i) k (λ j b. h j (omega arith)))

  left-same : (k : ℕ) → (0 < k → get_or x (k - 1) nan ≡ get_or x' (k - 1) nan) → named (λ e. get_or x e nan) k ≡ named (λ e. get_or x' e nan) k
  unfolding named
  left-same k h =
      dite (dec_lt 0 k)
      (λ b. ap (λ (y : Float). cond (eqb k 0) none (some y)) (h b))
      (λ b. let z : k ≡ 0 = omega arith in rw z)

  pub step_same : Reads plan t (λ e. get_or x e nan ≡ get_or x' e nan) → step_in plan x t ≡ step_in plan x' t
  step_same g =
      let l = left-same (left_edge plan t) g.left in
      let o = near_same 0 (near_count plan t) (λ j b. g.near j (omega arith)) in
      cc

-- ---- the vectors of two jobs

module _ (J J' : Job Float) (c : ℕ) (last : J.last ≡ J'.last) (window : J.window ≡ J'.window) (manner : J.manner ≡ J'.manner)
    (steps : (t : ℕ) → c < t → t ≤ J.last → step_of J t ≡ step_of J' t) where
  steps-same : (i : ℕ) → i ≤ J.last - c → S.after_steps ieee J i ≡ S.after_steps ieee J' i
  unfolding S.after_steps S.sweep_backward
  steps-same zero b = rw window
  steps-same (suc i) b =
      let before = steps-same i (omega arith) in
      let step = steps (J.last - i) (omega arith) (omega arith) in
      rw (before, step, window, manner, last)

  backward-same : (u : ℕ) → c ≤ u → S.backward ieee J u ≡ S.backward ieee J' u
  unfolding S.backward
  backward-same u b =
      ap (λ (s : List Float × Float). s.0) (steps-same (J.last - u) (omega arith)) ∙ ap (λ (k : ℕ). (S.after_steps ieee J' (k - u)).0) last

pub backward-stands : (J J' : Job Float) (plan : List ℕ) (x x' r : List Float) (n w : ℕ) (elementwise : Bool) (c : ℕ) → PlanOf J plan x n w elementwise
    → PlanOf J' plan x' n w elementwise → ((t : ℕ) → c < t → t < n → Reads plan t (λ e. get_or x e nan ≡ get_or x' e nan)) → Backward J plan r n w 0
    → Backward J' plan r n w c
backward-stands J J' plan x x' r n w elementwise c of of' same g =
    let vertices = of.vertices in
    let steps : (t : ℕ) → c < t → t ≤ J.last → step_of J t ≡ step_of J' t =
    λ t b d. sym (of.step t (omega arith)) ∙ step_same plan x x' t (same t b (omega arith)) ∙ of'.step t (omega arith) in
    record {
      vectors = λ u a b p.
          symmetric_as (g.vectors u (omega arith) b p)
          (backward-same J J' c (omega (arith, of'.vertices)) (of.window ∙ sym of'.window) (of.manner ∙ sym of'.manner) steps u a);
    }
