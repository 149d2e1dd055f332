-- A list of pair records as two lists of ends, and how far they are copied.
use Rattle.std.specs.Prelude.{List, ◌++◌, map, ℕ, ◌+◌, ◌-◌, min, length, take, set, replicate}
use Rattle.c_pair_records.specs.declared.Pair.{Pair}
use Rattle.c_pair_records.specs.declared.Ends.{Ends}

-- the first end of each pair
abbrev pub firsts : List Pair → List ℕ
firsts pairs = map (λ (p : Pair). p.u) pairs

-- the second end of each pair
abbrev pub seconds : List Pair → List ℕ
seconds pairs = map (λ (p : Pair). p.v) pairs

-- the most pairs that are copied: one above the most that a job may have
abbrev pub most_copied : ℕ
most_copied = 257

-- the first k of a list of ends, and 0 in each place behind them
abbrev pub padded : List ℕ → ℕ → List ℕ
padded ends k = take k ends ++ replicate (most_copied - k) 0

-- the ends of the first k pairs
abbrev pub ends_of : List Pair → ℕ → Ends
ends_of pairs k = record { count = k; us = padded (firsts pairs) k; vs = padded (seconds pairs) k }

-- The ends of the pairs, of the first 257 where there are more.
abbrev pub gathered : List Pair → Ends
gathered pairs = ends_of pairs (min (length pairs) most_copied)

-- The ends e with one pair more.
abbrev pub pushed : Ends → ℕ → ℕ → Ends
pushed e u v = record { count = e.count + 1; us = set e.us e.count u; vs = set e.vs e.count v }

-- the first and the second ends that are held
abbrev pub first_ends : Ends → List ℕ
first_ends e = take e.count e.us

abbrev pub second_ends : Ends → List ℕ
second_ends e = take e.count e.vs
