-- What `distance` answers: 01's number and values in each case, and which answer is right.
use Rattle.std.specs.Prelude.{◌≡◌, Option, Some, None, Result, Ok, Err, Bool, true, false, List, ℕ}
use Rattle.refusals.specs.declared.Refusal.{Refusal}
use Rattle.refusals.specs.Numbers.{refused}
use Rattle.distance.specs.Walks.{Distance}

-- the number, 0 for accepted
abbrev pub number_of : Result (Option ℕ) Refusal → ℕ
number_of r = refused r

-- whether a walk joins the vertices; a case without this value has `other`
abbrev pub joined_of : Result (Option ℕ) Refusal → Bool → Bool
joined_of (Ok (Some k)) other = true
joined_of (Ok None) other = false
joined_of (Err e) other = other

-- the length of the walk; a case without this value has `other`
abbrev pub length_of : Result (Option ℕ) Refusal → ℕ → ℕ
length_of (Ok (Some k)) other = k
length_of (Ok None) other = other
length_of (Err e) other = other

-- a length where a walk joins them, else none
abbrev pub reach : Bool → ℕ → Option ℕ
reach true k = Some k
reach false k = None

-- The number is the refusal's; accepted, the case's own values, whatever the others are, are the distance as walks have it.
pub record Distanced (refused : ℕ) (early late : List ℕ) (u v : ℕ) (r : Result (Option ℕ) Refusal) : Type 0 where
  pub number : number_of r ≡ refused
  pub values : refused ≡ 0 → (joined : Bool) (length : ℕ) → Distance early late u v (reach (joined_of r joined) (length_of r length))
