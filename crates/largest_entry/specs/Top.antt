-- The largest of some numbers and +0.0: it does not depend on the order in which they are taken, nor on how often one stands among them.
use Rattle.std.specs.Prelude.{ℕ, Float}
use Rattle.list_laws.specs.Tabulate.{tabulate}
use Rattle.transfer_matrix.specs.Rounded.{ieee}
use Rattle.transfer_matrix.specs.Sweep as S

-- the largest of f 0, .., f (n - 1) and +0.0, as the definition takes it
abbrev pub top : (ℕ → Float) → ℕ → Float
top f n = S.largest ieee ieee.𝟘 (tabulate f n)
