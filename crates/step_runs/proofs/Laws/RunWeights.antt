-- The weights that a run takes alternately are those of the step's places.
use Rattle.std.specs.Prelude.{◌≡◌, List, ℕ, ◌+◌, ◌*◌, ◌<◌, get_or, Float}
use Rattle.std.specs.Float.{nan}
use Rattle.step_tables.specs.Step.{pattern_by}
use Rattle.step_tables.specs.Rule.{weights, alternating}
use Rattle.step_runs.specs.declared.runs.Four.{Four}
use Rattle.step_runs.specs.Rule.{in_four, Picked}
use Rattle.step_runs.proofs.Laws.Picks.{pick_lower, pick_two}
use Rattle.step_runs.specs.AtRun.{Runs, TwoRuns}
use Rattle.step_runs.proofs.Laws.AtRun.{AtRun}

module _ {l : List ℕ} {n g e end size one k : ℕ} (r : Runs l n g e end size one) (a : AtRun e end k) where
  pub run_weight : (m : ℕ) → m ≡ pattern_by l n k → (table : List Float) (i : ℕ) → i < size
      → alternating (get_or table m nan) (get_or table (m + one) nan) i ≡ weights l n table (k + i)
  run_weight m p table i b = pick_lower a.number one r.sparse r.some a.begins p r.odd table i (rw r.length at b)

-- and of the second step's
module _ {l : List ℕ} {n : ℕ} {l' : List ℕ} {n' g h e end quarter size one low two k : ℕ}
    (r : TwoRuns l n l' n' g h e end quarter size one low two) (a : AtRun e end k) where
  pub second_is : (table : List Float) (f : Four) (j m : ℕ) → j < 2 * size → m ≡ pattern_by l' n' (2 * k) → Picked table m low two f
      → in_four f.first f.second f.third f.fourth j ≡ weights l' n' table (2 * k + j)
  second_is table f j m b p t =
      rw (t.first, t.second, t.third, t.fourth)
      (pick_two a.number low two r.second r.first.some a.begins p r.odd' r.next' table j (rw r.first.length at b))
