-- What the loop over the runs of two forward steps knows on its way.
use mathlib.Core.Path.{◌≡◌, ap, ◌∙◌}
use mathlib.Core.List.{List}
use Prim.Native.Nat.{ℕ, ◌+◌, ◌*◌, ◌-◌, ◌^◌, ◌≤◌, ◌<◌}
use native.Mathlib.Omega.{arith}
use lib.ListN.{length, get_or}
use lib.Ieee.{Float, nan}
use Rattle.list_laws.specs.Tabulate.{tabulate}
use Rattle.list_laws.specs.Part.{Apart, put}
use Rattle.list_laws.proofs.Laws.Part.{apart-within, fill_run, read_apart}
use Rattle.step_tables.specs.Step.{pattern_by}
use Rattle.step_tables.specs.Rule.{entries, from_end, weights, alternating, forward_rule}
use Rattle.step_tables.proofs.Laws.Rules.{rule-from}
use Rattle.step_runs.specs.declared.runs.Four.{Four}
use Rattle.step_runs.specs.Rule.{Picked}
use Rattle.step_runs.proofs.Laws.RunWeights.{second_is}
use Rattle.step_runs.specs.AtRun.{TwoRuns}
use Rattle.step_runs.proofs.Laws.AtRun.{AtRun, run_ends}
use Rattle.step_runs.specs.OpposedRule.{end_weights, Opposed}
use Rattle.step_runs.proofs.Laws.Opposite.{run_is, opposite_is}
use Rattle.two_steps_forward.specs.Rule.{half_twice}
use Rattle.two_steps_forward.proofs.ForwardIteration.{run_rule}

-- what both steps make from the half at src of d
abbrev pub step_rule : (ep sem em sep ep₂ sem₂ em₂ sep₂ : Float) (l : List ℕ) (n : ℕ) (up down : List Float) (l' : List ℕ) (n' : ℕ) (up' down' : List Float)
    (h src : ℕ) (d : List Float) → ℕ → Float
step_rule ep sem em sep ep₂ sem₂ em₂ sep₂ l n up down l' n' up' down' h src d =
    half_twice ep sem em sep ep₂ sem₂ em₂ sep₂ (weights l n up) (weights l n down) (end_weights h l n up) (end_weights h l n down)
    (weights l' n' up') (weights l' n' down')
    (entries d src) (from_end d src (2 * 2 ^ h)) (entries d (src + 2 ^ h)) (from_end d src (2 ^ h))

module _ {l : List ℕ} {n : ℕ} {l' : List ℕ} {n' part h e end quarter size one low two k : ℕ}
    (r : TwoRuns l n l' n' part h e end quarter size one low two) (a : AtRun e end k) (under : k < end) (twice : quarter ≡ 2 * end) where
  -- a run reads apart from what it writes
  pub run_apart : (len src dst : ℕ) → Apart len src (2 * 2 ^ h) dst (2 * 2 ^ h)
      → Apart len (src + k) size (dst + 4 * k) (4 * size) × Apart len (src + quarter + (quarter - k - size)) size (dst + 4 * k) (4 * size)
      × Apart len (src + quarter + k) size (dst + 4 * k) (4 * size) × Apart len (src + (quarter - k - size)) size (dst + 4 * k) (4 * size)
  run_apart len src dst f =
      let ends = run_ends r.first a under in
      let w = r.whole in (
        apart-within (src + k) size (dst + 4 * k) (4 * size) f (omega arith) (omega arith) (omega arith) (omega arith),
        apart-within (src + quarter + (quarter - k - size)) size (dst + 4 * k) (4 * size) f (omega arith) (omega arith) (omega arith) (omega arith),
        apart-within (src + quarter + k) size (dst + 4 * k) (4 * size) f (omega arith) (omega arith) (omega arith) (omega arith),
        apart-within (src + (quarter - k - size)) size (dst + 4 * k) (4 * size) f (omega arith) (omega arith) (omega arith) (omega arith),
      )

  -- a run is the next entries of both steps
  module _ (ep sem em sep ep₂ sem₂ em₂ sep₂ : Float) (up down up' down' : List Float) (p q f g : Four) (m t m' src dst : ℕ) (d v : List Float)
      (at-k : m ≡ pattern_by l n k) (at_t : t ≡ pattern_by l n (quarter - k - size)) (at-2k : m' ≡ pattern_by l' n' (2 * k))
      (ps : Opposed up m t one p) (qs : Opposed down m t one q) (fs : Picked up' m' low two f) (gs : Picked down' m' low two g)
      (off : Apart (length d) src (2 * 2 ^ h) dst (2 * 2 ^ h)) where
    abbrev step : ℕ → Float
    step = step_rule ep sem em sep ep₂ sem₂ em₂ sep₂ l n up down l' n' up' down' h src d

    abbrev run : ℕ → Float
    run =
        run_rule ep sem em sep ep₂ sem₂ em₂ sep₂ p q f g (src + k) (src + quarter + (quarter - k - size)) (src + quarter + k) (src + (quarter - k - size)) size v

    module _ (filled : v ≡ put d dst (tabulate step (4 * k))) where
      kept : (o s s' : ℕ) → o < 2 * 2 ^ h → s ≡ src + o → s' ≡ src + o → get_or v s nan ≡ get_or d s' nan
      kept o s s' b w w' =
          rw (w, w', filled) (read_apart d dst step (4 * k) src (2 * 2 ^ h) (2 * 2 ^ h) o nan off (omega (arith, r.whole)) b)

      ends : k + size ≤ end
      ends = run_ends r.first a under

      front_run : (i : ℕ) → i < 2 * size
          → forward_rule ep sem em sep (alternating p.first p.third) (alternating q.first q.third) (entries v (src + k))
          (from_end v (src + quarter + (quarter - k - size)) size) i
          ≡ forward_rule ep sem em sep (weights l n up) (weights l n down) (entries d src) (from_end d src (2 * 2 ^ h)) (2 * k + i)
      front_run i b =
          let fits = ends in
          let w = r.whole in
          rule-from ep sem em sep _ _ _ _ _ _ _ _ k size i b (λ j c. run_is r a under up p j m t c ps at-k) (λ j c. run_is r a under down q j m t c qs at-k)
          (λ j c. kept (k + j) (src + k + j) (src + (k + j)) (omega arith) (omega arith) (omega arith))
          (λ j c.
          kept (2 * 2 ^ h - 1 - (k + j)) (src + quarter + (quarter - k - size) + (size - 1 - j)) (src + (2 * 2 ^ h - 1 - (k + j)))
          (omega arith) (omega arith) (omega arith))

      back_run : (i : ℕ) → i < 2 * size
          → forward_rule em sep ep sem (alternating q.second q.fourth) (alternating p.second p.fourth) (from_end v (src + (quarter - k - size)) size)
          (entries v (src + quarter + k)) i
          ≡ forward_rule em sep ep sem (end_weights h l n down) (end_weights h l n up) (from_end d src (2 ^ h)) (entries d (src + 2 ^ h)) (2 * k + i)
      back_run i b =
          let fits = ends in
          let w = r.whole in
          rule-from em sep ep sem _ _ _ _ _ _ _ _ k size i b (λ j c. opposite_is r a under down q j m t c qs at_t) (λ j c. opposite_is r a under up p j m t c ps at_t)
          (λ j c.
          kept (2 ^ h - 1 - (k + j)) (src + (quarter - k - size) + (size - 1 - j)) (src + (2 ^ h - 1 - (k + j))) (omega arith) (omega arith) (omega arith))
          (λ j c. kept (2 ^ h + (k + j)) (src + quarter + k + j) (src + 2 ^ h + (k + j)) (omega arith) (omega arith) (omega arith))

      same : (j : ℕ) → j < 4 * size → run j ≡ step (4 * k + j)
      same j b =
          let e : 4 * k + j ≡ 2 * (2 * k) + j = omega arith in
          rw e
          (rule-from ep₂ sem₂ em₂ sep₂ _ _ _ _ _ _ _ _ (2 * k) (2 * size) j (omega arith)
          (λ i c. second_is r a up' f i m' c at-2k fs) (λ i c. second_is r a down' g i m' c at-2k gs) front_run back_run)

      pub runs_iteration : (v' : List Float) → v' ≡ put v (dst + 4 * k) (tabulate run (4 * size)) → v' ≡ put d dst (tabulate step (4 * (k + size)))
      runs_iteration v' w =
          let fits = ends in
          let e : 4 * (k + size) ≡ 4 * k + 4 * size = omega arith in
          w ∙ ap (λ (s : List Float). put s (dst + 4 * k) (tabulate run (4 * size))) filled
          ∙ rw e (fill_run d dst step run (4 * k) (4 * size) (omega (arith, off.to, r.whole)) same)
