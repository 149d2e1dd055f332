-- What the loop over the runs of two backward steps knows on its way.
use mathlib.Core.Path.{◌≡◌, ap, ◌∙◌}
use mathlib.Core.List.{List}
use Prim.Native.Nat.{ℕ, ◌+◌, ◌*◌, ◌-◌, ◌^◌, ◌≤◌, ◌<◌}
use native.Mathlib.Omega.{arith}
use lib.ListN.{length, get_or}
use lib.Ieee.{Float, nan}
use Rattle.list_laws.specs.Part.{Apart}
use Rattle.list_laws.proofs.Laws.Part.{apart-within}
use Rattle.step_tables.specs.Step.{pattern_by}
use Rattle.step_tables.specs.Rule.{entries, weights, backward_rule}
use Rattle.step_runs.specs.declared.runs.Four.{Four}
use Rattle.step_runs.specs.Rule.{in_four, Picked}
use Rattle.step_runs.specs.AtRun.{TwoRuns}
use Rattle.step_runs.proofs.Laws.AtRun.{AtRun, run_ends}
use Rattle.step_runs.proofs.Laws.RunWeights.{second_is}
use Rattle.step_runs.specs.OpposedRule.{end_weights, Opposed}
use Rattle.step_runs.proofs.Laws.Opposite.{run_is, opposite_is}
use Rattle.two_steps_backward.specs.Rule.{front_twice, end_twice}
use Rattle.two_steps_backward.proofs.Laws.Rule.{backward-same, end_same}
use Rattle.two_steps_backward.specs.Inward.{Parts, inward}
use Rattle.two_steps_backward.proofs.Laws.Inward.{inward_run, inward-apart}
use Rattle.two_steps_backward.proofs.BackwardIteration.{front_run, end_run}

-- what both steps make from the half at src of d, from pairs at the front and from pairs at the end
abbrev pub front_step : (x y z u : Float) (l : List ℕ) (n : ℕ) (up down : List Float) (l' : List ℕ) (n' : ℕ) (up' down' : List Float) (h src : ℕ)
    (d : List Float) → ℕ → Float
front_step x y z u l n up down l' n' up' down' h src d =
    front_twice x y z u (weights l n up) (weights l n down) (weights l' n' up') (weights l' n' down') (entries d src)

abbrev pub end_step : (x y z u : Float) (l : List ℕ) (n : ℕ) (up down : List Float) (l' : List ℕ) (n' : ℕ) (up' down' : List Float) (h src : ℕ)
    (d : List Float) → ℕ → Float
end_step x y z u l n up down l' n' up' down' h src d =
    end_twice x y u z (end_weights h l n up) (end_weights h l n down) (weights l' n' up') (weights l' n' down') (entries d src)

-- the first k places of both parts of the half, and those opposite to them
abbrev pub stepped : (x y z u : Float) (l : List ℕ) (n : ℕ) (up down : List Float) (l' : List ℕ) (n' : ℕ) (up' down' : List Float) (h src dst : ℕ)
    (d : List Float) → ℕ → List Float
stepped x y z u l n up down l' n' up' down' h src dst d k =
    inward d dst (dst + (2 ^ h - k)) (dst + 2 ^ h) (dst + 2 ^ h + (2 ^ h - k))
    (front_step x y z u l n up down l' n' up' down' h src d) (end_step x y z u l n up down l' n' up' down' h src d)
    (end_step y x z u l n up down l' n' up' down' h src d) (front_step y x z u l n up down l' n' up' down' h src d) k

module _ {l : List ℕ} {n : ℕ} {l' : List ℕ} {n' part h e end quarter size one low two k : ℕ}
    (r : TwoRuns l n l' n' part h e end quarter size one low two) (a : AtRun e end k) (under : k < end) (twice : quarter ≡ 2 * end) where
  -- the targets of a run lie one behind the other
  pub run_targets : (len src dst : ℕ) → Apart len src (2 * 2 ^ h) dst (2 * 2 ^ h)
      → Parts len (dst + k) (dst + (quarter - k - size)) (dst + quarter + k) (dst + quarter + (quarter - k - size)) size
  run_targets len src dst f =
      let ends = run_ends r.first a under in
      let w = r.whole in
      let t = f.to in
      record { first = omega arith; second = omega arith; third = omega arith; last = omega arith }

  -- a run reads apart from what it writes
  pub run_apart : (len src dst : ℕ) → Apart len src (2 * 2 ^ h) dst (2 * 2 ^ h)
      → Apart len (src + 4 * k) (4 * size) (dst + k) size × Apart len (src + 4 * k) (4 * size) (dst + (quarter - k - size)) size
      × Apart len (src + 4 * k) (4 * size) (dst + quarter + k) size × Apart len (src + 4 * k) (4 * size) (dst + quarter + (quarter - k - size)) size
  run_apart len src dst f =
      let ends = run_ends r.first a under in
      let w = r.whole in (
        apart-within (src + 4 * k) (4 * size) (dst + k) size f (omega arith) (omega arith) (omega arith) (omega arith),
        apart-within (src + 4 * k) (4 * size) (dst + (quarter - k - size)) size f (omega arith) (omega arith) (omega arith) (omega arith),
        apart-within (src + 4 * k) (4 * size) (dst + quarter + k) size f (omega arith) (omega arith) (omega arith) (omega arith),
        apart-within (src + 4 * k) (4 * size) (dst + quarter + (quarter - k - size)) size f (omega arith) (omega arith) (omega arith) (omega arith),
      )

  -- a run is the next entries of both steps
  module _ (x y z u : Float) (up down up' down' : List Float) (p q f g : Four) (m t m' src dst : ℕ) (d v : List Float)
      (at-k : m ≡ pattern_by l n k) (at_t : t ≡ pattern_by l n (quarter - k - size)) (at-2k : m' ≡ pattern_by l' n' (2 * k))
      (ps : Opposed up m t one p) (qs : Opposed down m t one q) (fs : Picked up' m' low two f) (gs : Picked down' m' low two g)
      (off : Apart (length d) src (2 * 2 ^ h) dst (2 * 2 ^ h)) where
    abbrev so_far : ℕ → List Float
    so_far = stepped x y z u l n up down l' n' up' down' h src dst d

    module _ (filled : v ≡ so_far k) where
      ends : k + size ≤ end
      ends = run_ends r.first a under

      parts : Parts (length d) dst (dst + (2 ^ h - k)) (dst + 2 ^ h) (dst + 2 ^ h + (2 ^ h - k)) k
      parts =
          let fits = ends in
          let whole = r.whole in
          let to = off.to in
          record { first = omega arith; second = omega arith; third = omega arith; last = omega arith }

      within : (o : ℕ) → dst ≤ o → o + k ≤ dst + 2 * 2 ^ h → Apart (length d) src (2 * 2 ^ h) o k
      within o b c = apart-within src (2 * 2 ^ h) o k off (omega arith) (omega arith) b c

      kept : (j s s' : ℕ) → j < 4 * size → s ≡ src + (4 * k + j) → s' ≡ src + (4 * k + j) → get_or v s nan ≡ get_or d s' nan
      kept j s s' b w w' =
          let fits = ends in
          let whole = r.whole in
          rw (w, w', filled)
          (inward-apart d dst (dst + (2 ^ h - k)) (dst + 2 ^ h) (dst + 2 ^ h + (2 ^ h - k)) _ _ _ _ k parts src (2 * 2 ^ h) (4 * k + j) nan
          (within dst (omega arith) (omega arith)) (within (dst + (2 ^ h - k)) (omega arith) (omega arith))
          (within (dst + 2 ^ h) (omega arith) (omega arith)) (within (dst + 2 ^ h + (2 ^ h - k)) (omega arith) (omega arith)) (omega arith))

      -- the later vertex's step, at place j of the run and so 2 k + j of the half
      later : (z u : Float) (j j' : ℕ) → j < 2 * size → j' ≡ 2 * k + j
          → backward_rule z u (in_four f.first f.second f.third f.fourth) (in_four g.first g.second g.third g.fourth) (entries v (src + 4 * k)) j
          ≡ backward_rule z u (weights l' n' up') (weights l' n' down') (entries d src) j'
      later z u j j' b e =
          rw e
          (backward-same z u _ _ _ _ _ _ j (2 * k + j) (second_is r a up' f j m' b at-2k fs) (second_is r a down' g j m' b at-2k gs)
          (kept (2 * j) _ _ (omega arith) (omega arith) (omega arith)) (kept (2 * j + 1) _ _ (omega arith) (omega arith) (omega arith)))

      front_same : (x y : Float) (i : ℕ) → i < size
          → front_run x y z u p q f g (src + 4 * k) v i ≡ front_step x y z u l n up down l' n' up' down' h src d (k + i)
      front_same x y i b =
          backward-same x y _ _ _ _ _ _ i (k + i) (run_is r a under up p i m t b ps at-k) (run_is r a under down q i m t b qs at-k)
          (later z u (2 * i) _ (omega arith) (omega arith)) (later z u (2 * i + 1) _ (omega arith) (omega arith))

      back-same : (x y : Float) (i : ℕ) → i < size
          → end_run x y z u p q f g (src + 4 * k) v i ≡ end_step x y z u l n up down l' n' up' down' h src d (k + i)
      back-same x y i b =
          end_same x y u z _ _ _ _ _ _ _ _ _ _ i (k + i) (opposite_is r a under up p i m t b ps at_t) (opposite_is r a under down q i m t b qs at_t)
          (later u z (2 * i) _ (omega arith) (omega arith)) (later u z (2 * i + 1) _ (omega arith) (omega arith))

      pub runs_iteration : (v' : List Float)
          → v' ≡ inward v (dst + k) (dst + (quarter - k - size)) (dst + quarter + k) (dst + quarter + (quarter - k - size))
          (front_run x y z u p q f g (src + 4 * k) v) (end_run x y z u p q f g (src + 4 * k) v)
          (end_run y x z u p q f g (src + 4 * k) v) (front_run y x z u p q f g (src + 4 * k) v) size
          → v' ≡ so_far (k + size)
      runs_iteration v' w =
          let fits = ends in
          let whole = r.whole in
          let to = off.to in
          let b = dst + (2 ^ h - (k + size)) in
          let c = dst + 2 ^ h in
          let o = dst + 2 ^ h + (2 ^ h - (k + size)) in
          let e₁ : dst + (quarter - k - size) ≡ b = omega arith in
          let e₂ : dst + quarter + k ≡ c + k = omega arith in
          let e₃ : dst + quarter + (quarter - k - size) ≡ o = omega arith in
          let b₁ : b + size ≡ dst + (2 ^ h - k) = omega arith in
          let b₃ : o + size ≡ dst + 2 ^ h + (2 ^ h - k) = omega arith in
          w
          ∙ ap (λ (s : List Float). inward s (dst + k) (dst + (quarter - k - size)) (dst + quarter + k) (dst + quarter + (quarter - k - size))
          (front_run x y z u p q f g (src + 4 * k) v) (end_run x y z u p q f g (src + 4 * k) v)
          (end_run y x z u p q f g (src + 4 * k) v) (front_run y x z u p q f g (src + 4 * k) v) size) filled
          ∙ rw (e₁, e₂, e₃, ← b₁, ← b₃)
          (inward_run d dst b c o _ _ _ _ _ _ _ _ k size
          (record { first = omega arith; second = omega arith; third = omega arith; last = omega arith })
          (front_same x y) (back-same x y) (back-same y x) (front_same y x))
