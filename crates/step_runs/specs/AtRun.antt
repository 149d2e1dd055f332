-- What a loop over the runs of a step knows, and one over the runs of two steps.
use Rattle.std.specs.Prelude.{◌≡◌, List, ℕ, ◌+◌, ◌^◌, ◌≤◌}
use Rattle.step_tables.specs.Step.{pattern_by}
use Rattle.step_runs.specs.Rule.{Sparse}

-- The step's bits are l. A run has `size` places, in which the pattern sees bit 0 alone; the loop goes over `end` places. `one` is a pattern.
pub record Runs (l : List ℕ) (n g e end size one : ℕ) : Type 0 where
  pub few : n ≤ 4
  pub sparse : Sparse l n 1 e
  pub some : 1 ≤ e
  pub inside : e ≤ g
  pub ends : end ≡ 2 ^ g
  pub length : size ≡ 2 ^ e
  pub odd : one ≡ pattern_by l n 1

-- The second step's bits are l', and `low` and `two` are patterns by them. The loop goes over the first places of `quarter`.
pub record TwoRuns (l : List ℕ) (n : ℕ) (l' : List ℕ) (n' g h e end quarter size one low two : ℕ) : Type 0 where
  pub first : Runs l n g e end size one
  pub few' : n' ≤ 4
  pub second : Sparse l' n' 2 (e + 1)
  pub within : g ≤ h
  pub whole : quarter ≡ 2 ^ h
  pub odd' : low ≡ pattern_by l' n' 1
  pub next' : two ≡ pattern_by l' n' 2
