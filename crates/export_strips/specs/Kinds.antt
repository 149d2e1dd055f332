-- What a name gives as numbers.
use Rattle.std.specs.Prelude.{Option, Some, None, Bool, true, false, ℕ}
use Rattle.strip.specs.declared.kinds.Kind.{Kind}
use Rattle.c_values.specs.Kinds.{number_of}

abbrev pub is_known : Option Kind → Bool
is_known (Some kind) = true
is_known None = false

-- the kind's number; where there is none, what was there
abbrev pub kind_of : Option Kind → ℕ → ℕ
kind_of (Some kind) old = number_of kind
kind_of None old = old
