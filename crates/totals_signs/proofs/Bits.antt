-- The sign that a bit gives.
use mathlib.Core.Path.{◌≡◌}
use mathlib.Core.Bool.{Bool, ◌&&◌}
use Prim.Native.Nat.{ℕ}
use Rattle.edge_bits.specs.Having.{has_bit}
use Rattle.list_laws.specs.Bits.{bit}
use Rattle.transfer_matrix.specs.Configuration.{enumerated_minus}

pub minus_is : (bits : ℕ → ℕ) (x e : ℕ) (r : Bool) → r ≡ (has_bit (bits e) && bit (bits e) x) → r ≡ enumerated_minus bits x e
unfolding enumerated_minus
minus_is bits x e r q = q
