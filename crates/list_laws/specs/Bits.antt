-- The bits of a number.
use Rattle.std.specs.Prelude.{Bool, ℕ, ◌/◌, ◌%◌, ◌^◌, eqb}

-- bit p of the number k
abbrev pub bit : ℕ → ℕ → Bool
bit p k = eqb (k / 2 ^ p % 2) 1
