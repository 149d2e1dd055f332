-- Kept edges that remember their places in the raw list.
use Rattle.std.specs.Prelude.{◌≡◌, false, List, ℕ, ◌<◌, length, get_or}
use Rattle.std.specs.Float.{nan}
use Rattle.refusals.specs.Edges.{Kept, is_zero}

-- edge i of a list of edges
abbrev pub edge_of : List Kept → ℕ → Kept
edge_of es i = get_or es i (record { early = 0; late = 0; magnitude = nan; place = 0 })

-- Of n raw edges, each told by its place, those whose magnitude is not zero, in order.
pub record Remembers (raw : ℕ → Kept) (n : ℕ) (es : List Kept) : Type 0 where
  -- places rise strictly, below n
  pub rising : (i j : ℕ) → i < j → j < length es → (edge_of es i).place < (edge_of es j).place
  pub inside : (i : ℕ) → i < length es → (edge_of es i).place < n
  -- each edge is the raw edge at its place, and its magnitude is not zero
  pub edge : (i : ℕ) → i < length es → edge_of es i ≡ raw (edge_of es i).place
  pub not_zero : (i : ℕ) → i < length es → is_zero (edge_of es i).magnitude ≡ false
  -- every raw edge whose magnitude is not zero is there
  pub whole : (p : ℕ) → p < n → is_zero (raw p).magnitude ≡ false → (i : ℕ) × (i < length es) × ((edge_of es i).place ≡ p)
