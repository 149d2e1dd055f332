-- The couplings of a graph's kept edges.
use Rattle.std.specs.Prelude.{List, ℕ, ◌*◌, ◌/◌, ◌%◌, Float, length, get_or}
use Rattle.std.specs.Float.{nan, binary64}
use Rattle.std.specs.Float.Ieee.{mul}
use Rattle.list_laws.specs.Tabulate.{tabulate}

-- A coupling is beta times magnitude, rounded once: that of beta b and edge e of so many is at b times their number + e.
abbrev pub coupling_at : List Float → List Float → ℕ → Float
coupling_at betas mag k = mul binary64 (get_or betas (k / length mag) nan) (get_or mag (k % length mag) nan)

abbrev pub all_couplings : List Float → List Float → List Float
all_couplings betas mag = tabulate (coupling_at betas mag) (length betas * length mag)
