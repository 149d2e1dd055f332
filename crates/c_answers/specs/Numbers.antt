-- What a number's answer is as a number, 0 for accepted, and what it leaves in a reference that held `old`.
use Rattle.std.specs.Prelude.{◌≡◌, Result, Ok, Err, ℕ}
use Rattle.refusals.specs.declared.Refusal.{Refusal}
use Rattle.refusals.specs.Numbers.{refused}

abbrev pub held_of : Result ℕ Refusal → ℕ → ℕ
held_of (Ok x) old = x
held_of (Err e) old = old

pub record Tells (a : Result ℕ Refusal) (r old new : ℕ) : Type 0 where
  pub number : r ≡ refused a
  pub held : new ≡ held_of a old
