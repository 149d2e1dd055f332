-- The entries of a step by pairs: 2 k and 2 k + 1 of the forward step, k and 2 ^ (w - 1) + k of the backward one.
use Rattle.std.specs.Prelude.{ℕ, ◌+◌, Float}
use Rattle.std.specs.Float.{binary64}
use Rattle.std.specs.Float.Ieee.{add, mul}
use Rattle.transfer_matrix.specs.Job.{Step}
use Rattle.transfer_matrix.specs.Rounded.{ieee}
use Rattle.transfer_matrix.specs.Sweep as S

-- the tables at the pattern of k
abbrev pub ups : Step Float → Float → ℕ → Float
ups s sc k = S.up ieee s.others sc (S.pattern s.others k)

abbrev pub downs : Step Float → Float → ℕ → Float
downs s sc k = S.down ieee s.others sc (S.pattern s.others k)

-- (x a + y b) p, each operation rounded once
abbrev pub blend : (x y p a b : Float) → Float
blend x y p a b = mul binary64 (add binary64 (mul binary64 x a) (mul binary64 y b)) p

-- x (a p) + y (b q), each operation rounded once
abbrev pub mix : (x y p q a b : Float) → Float
mix x y p q a b = add binary64 (mul binary64 x (mul binary64 a p)) (mul binary64 y (mul binary64 b q))
