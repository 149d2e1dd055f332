-- A list at +0.0 throughout.
use Rattle.std.specs.Prelude.{List, ℕ, Float, replicate}
use Rattle.transfer_matrix.specs.Rounded.{ieee}

-- n times +0.0
abbrev pub zeros : ℕ → List Float
zeros n = replicate n ieee.𝟘
