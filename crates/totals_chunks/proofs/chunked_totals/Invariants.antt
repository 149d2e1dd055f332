-- Chunk after chunk: each is summed from zero, and its sums are added to the totals.
use Prim.Native.Nat.{◌-◌}
use Rattle.totals_chunks.specs.Totals.{Chunking}
use Rattle.totals_chunks.proofs.chunked_totals.Given as goal

abbrev pub invariant-loop-i : goal.invariant-loop-i
invariant-loop-i l = Chunking l.plan l.us l.vs l.factors l.bits l.chunks l.shape l.i l.initial.room l.room l.initial.signs l.signs l.initial.c l.c l.initial.subsquares l.subsquares l.initial.subfourths l.subfourths l.initial.squares l.squares l.initial.fourths l.fourths
