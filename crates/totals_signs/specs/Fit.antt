-- Bits that a number of 64 bits has.
use Rattle.std.specs.Prelude.{◌≡◌, true, List, ℕ, ◌<◌, length, get_or}
use Rattle.edge_bits.specs.Having.{has_bit}

-- Every edge that has a bit has one below 64.
abbrev pub BitsFit : List ℕ → Type 0
BitsFit bits = (e : ℕ) → e < length bits → has_bit (get_or bits e 0) ≡ true → get_or bits e 0 < 64
