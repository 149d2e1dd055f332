-- The bits from b on are in the word.
use mathlib.Core.Path.{◌≡◌}
use Prim.Native.Nat.{◌+◌, ◌-◌, ◌≤◌}
use Rattle.forest.specs.Lowest.{bits}
use Rattle.components.specs.Marks.{is_root}
use Rattle.components.proofs.marks.word_at.Given as goal

abbrev pub invariant-loop-b : goal.invariant-loop-b
invariant-loop-b l = (l.word ≡ bits (is_root l.p) (l.first + l.b) (64 - l.b)) × (l.b ≤ 64)
