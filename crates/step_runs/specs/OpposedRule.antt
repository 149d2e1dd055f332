-- Weights that are counted from the end, and those of a run and its opposite.
use Rattle.std.specs.Prelude.{◌≡◌, List, ℕ, ◌+◌, ◌-◌, ◌^◌, get_or, Float}
use Rattle.std.specs.Float.{nan}
use Rattle.step_tables.specs.Rule.{weights}
use Rattle.step_runs.specs.declared.runs.Four.{Four}

-- the weights that a table gives to the patterns of the places below 2 ^ h, counted from their end
abbrev pub end_weights : ℕ → List ℕ → ℕ → List Float → ℕ → Float
end_weights h bits n table k = weights bits n table (2 ^ h - 1 - k)

-- the weights of a table by the patterns m of a run and t of its opposite
pub record Opposed (table : List Float) (m t one : ℕ) (f : Four) : Type 0 where
  pub first : f.first ≡ get_or table m nan
  pub second : f.second ≡ get_or table (t + one) nan
  pub third : f.third ≡ get_or table (m + one) nan
  pub fourth : f.fourth ≡ get_or table t nan
