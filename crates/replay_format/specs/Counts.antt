-- Calls counted by their refusal's number.
use Rattle.std.specs.Prelude.{ℕ, ◌+◌, ◌%◌, ◌^◌, cond, List, nat_lt, slice_index, slice_set}

-- refusals' numbers, up to 27, and 0 for accepted
abbrev pub numbers : ℕ
numbers = 28

-- one call more of this number, 0 for accepted; a number that no refusal has is passed over
abbrev pub counted : List ℕ → ℕ → List ℕ
counted counts number = cond (nat_lt number numbers) (slice_set counts number ((slice_index counts number + 1) % 2 ^ 64)) counts
