-- The house factors: entry i of the table, from -512 to 512, is the double nearest the series for e ^ (i / 128).
-- That `house i` is this double, and that the series is above zero, is shown in Theorems, by one test of all entries.
use Rattle.std.specs.Prelude.{false, List, ℕ, ℤ, pos, negsuc, Float}
use Rattle.std.proofs.Math.IntN.{sub_ℕ}
use Rattle.std.specs.Float.{binary64}
use Rattle.std.specs.Float.Ieee.{round}
use Rattle.list_laws.specs.Tabulate.{tabulate}
use Rattle.house_table.specs.Series.{through, bottom}

-- a whole number that is not below zero
abbrev pub natural : ℤ → ℕ
natural (pos n) = n
natural (negsuc n) = 0

-- the series for e ^ (i / 128), summed through its 40th power, is series_top i / series_bottom
unfoldable pub series_top : ℤ → ℕ
unfolding through
series_top i = natural (through i 40)

unfoldable pub series_bottom : ℕ
unfolding bottom
series_bottom = bottom 40

-- entry i: that fraction, rounded once to the nearest double
unfoldable pub house : ℤ → Float
unfolding round series_top series_bottom
house i = round binary64 false (series_top i) series_bottom

-- place p of the table holds entry p - 512
abbrev pub entry_at : ℕ → ℤ
entry_at p = sub_ℕ p 512

-- the table: entries -512 to 512
unfoldable pub house_table : List Float
unfolding tabulate house
house_table = tabulate (λ p. house (entry_at p)) 1025
