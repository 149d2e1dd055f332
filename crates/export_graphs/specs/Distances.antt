-- The distance of two vertices as a caller is told it.
use Rattle.std.specs.Prelude.{◌≡◌, Option, Result, Bool, List, ℕ}
use Rattle.graph.specs.Reached.{Distanced}
use Rattle.refusals.specs.declared.Refusal.{Refusal}
use Rattle.c_answers.specs.Distances.{Tells}

-- The number r of a call, and what it leaves in the references: the one right answer's number and values.
pub record Told (refused : ℕ) (early late : List ℕ) (u v r : ℕ) (joined joined' : Bool) (edges edges' : ℕ) : Type 0 where
  pub number : r ≡ refused
  pub answer : Result (Option ℕ) Refusal
  pub right : Distanced refused early late u v answer
  pub tells : Tells answer r joined joined' edges edges'
