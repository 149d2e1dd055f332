-- What an answer that may have no value is as a number, 0 for accepted, and what it leaves in references that held `old`.
use Rattle.std.specs.Prelude.{◌≡◌, Option, Some, None, Result, Ok, Err, Bool, true, false, ℕ}
use Rattle.refusals.specs.declared.Refusal.{Refusal}
use Rattle.refusals.specs.Numbers.{refused}

module _ {A : Type 0} where
  abbrev pub found_in : Result (Option A) Refusal → Bool → Bool
  found_in (Ok (Some x)) old = true
  found_in (Ok None) old = false
  found_in (Err e) old = old

  abbrev pub value_in : Result (Option A) Refusal → A → A
  value_in (Ok (Some x)) old = x
  value_in (Ok None) old = old
  value_in (Err e) old = old

  pub record Tells (a : Result (Option A) Refusal) (r : ℕ) (found found' : Bool) (value value' : A) : Type 0 where
    pub number : r ≡ refused a
    pub founds : found' ≡ found_in a found
    pub values : value' ≡ value_in a value
