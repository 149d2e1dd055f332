-- What a vertex's answer is as a number, 0 for accepted, and what it leaves in references that held `old`.
use Rattle.std.specs.Prelude.{◌≡◌, Option, Some, None, Result, Ok, Err, Bool, true, false, ℕ}
use Rattle.refusals.specs.declared.Refusal.{Refusal}
use Rattle.refusals.specs.Numbers.{refused}

abbrev pub inside_of : Result (Option ℕ) Refusal → Bool → Bool
inside_of (Ok (Some v)) old = true
inside_of (Ok None) old = false
inside_of (Err e) old = old

abbrev pub vertex_of : Result (Option ℕ) Refusal → ℕ → ℕ
vertex_of (Ok (Some v)) old = v
vertex_of (Ok None) old = old
vertex_of (Err e) old = old

pub record Tells (a : Result (Option ℕ) Refusal) (r : ℕ) (inside inside' : Bool) (vertex vertex' : ℕ) : Type 0 where
  pub number : r ≡ refused a
  pub within : inside' ≡ inside_of a inside
  pub at : vertex' ≡ vertex_of a vertex
