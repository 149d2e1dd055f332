-- IEEE 754's square root as it is computed. That of a number above zero is the nearest value to the root: Nearest, Theorems.
use Rattle.std.specs.Prelude.{ℕ, zero, suc, ◌+◌, ◌-◌, ◌*◌, ◌/◌, ◌^◌, true, false, Float}
use Rattle.std.specs.Float.{nan, inf, fin, Format}
use Rattle.std.specs.Float.Ieee.{prec, low, up, down, size, units}
use Rattle.sqrt.specs.WholeRoot.{whole_root}

-- x is n of the format's smallest values, which are 2 ^ -low each. √x is √(n * 2 ^ low) of them, and this is the square of twice that.
abbrev pub doubled_square : Format → ℕ → ℕ
doubled_square f n = n * 2 ^ suc (suc (low f))

-- how many binary digits of twice √x are dropped, so that one more is left than the format keeps
abbrev pub dropped : Format → ℕ → ℕ
dropped f n = (size (doubled_square f n) - 1) / 2 - prec f

-- what is left: √x in halves of the last place that the format keeps
abbrev pub halves : Format → ℕ → ℕ
halves f n = whole_root (doubled_square f n / (2 ^ dropped f n * 2 ^ dropped f n))

-- h halves to the nearest whole place. Where one half is over, √x is past the middle: no root is just in it.
abbrev pub places : ℕ → ℕ
places h = (h + 1) / 2

unfoldable pub root_of : Format → ℕ → Float
unfolding size whole_root units
root_of f n = units f false (places (halves f n)) (dropped f n)

-- √-0 is -0, √∞ is ∞, and below zero there is no root
unfoldable pub sqrt : Format → Float → Float
unfolding root_of
sqrt f nan = nan
sqrt f (inf true) = nan
sqrt f (inf false) = inf false
sqrt f (fin s zero e) = fin s zero e
sqrt f (fin true (suc m) e) = nan
sqrt f (fin false (suc m) e) = root_of f (suc m * up e * 2 ^ low f / down e)
