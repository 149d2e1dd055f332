-- The lists one by one, what is counted in each, and a list by its rule.
use Rattle.std.specs.Prelude.{Bool, List, ℕ, zero, suc, ◌+◌, Float, get_or}
use Rattle.list_laws.specs.Count.{count}
use Rattle.list_laws.specs.Part.{part}
use Rattle.shares.specs.declared.answer.Shares.{Shares}
use Rattle.shares.specs.Shares.{is_above, is_zero, is_below, is_half, start_of, counted, fractions}

-- list k of those that are lent end to end
abbrev pub list_of : List Float → List ℕ → ℕ → List Float
list_of stored lengths k = part stored (start_of lengths k) (get_or lengths k 0)

-- how many entries of the first n lists pass a test, list by list
unfoldable pub counted_in : (Float → Bool) → List Float → List ℕ → ℕ → ℕ
counted_in test stored lengths zero = 0
counted_in test stored lengths (suc n) = counted_in test stored lengths n + counted test (list_of stored lengths n)

-- the shares of n entries that a rule gives
abbrev pub shares_by : (ℕ → Float) → ℕ → Shares
shares_by entry n =
    fractions (count (λ i. is_above (entry i)) n) (count (λ i. is_zero (entry i)) n) (count (λ i. is_below (entry i)) n) (count (λ i. is_half (entry i)) n) n
