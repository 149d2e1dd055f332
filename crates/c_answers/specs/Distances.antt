-- What a distance leaves over C: its number, 0 for accepted, and its values in references, which keep what they held where it has none.
use Rattle.std.specs.Prelude.{◌≡◌, Option, Result, Bool, ℕ}
use Rattle.graph.specs.Reached.{number_of, joined_of, length_of}
use Rattle.refusals.specs.declared.Refusal.{Refusal}

pub record Tells (a : Result (Option ℕ) Refusal) (r : ℕ) (joined joined' : Bool) (edges edges' : ℕ) : Type 0 where
  pub number : r ≡ number_of a
  pub joins : joined' ≡ joined_of a joined
  pub long : edges' ≡ length_of a edges
