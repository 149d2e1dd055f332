-- The bytes from i on are read.
use mathlib.Core.Path.{◌≡◌}
use Prim.Native.Nat.{◌+◌, ◌-◌, ◌≤◌}
use Rattle.little_endian.specs.Words.{word_at}
use Rattle.little_endian.proofs.words.word_at.Given as goal

abbrev pub invariant-loop-i : goal.invariant-loop-i
invariant-loop-i l = (l.i ≤ l.width) × (l.x ≡ word_at l.bytes (l.place + l.i) (l.width - l.i))
