-- The first c chunks are written.
use Prim.Native.Nat.{◌-◌}
use lib.ListN.{length}
use Rattle.transfer_matrix.specs.Room.{arranged}
use Rattle.totals_call.specs.Finished.{stepping}
use Rattle.totals_record.proofs.Laws.Writing.{Writing}
use Rattle.totals_record.proofs.chunks.write_chunks.Given as goal

abbrev pub invariant-loop-c : goal.invariant-loop-c
invariant-loop-c l =
    Writing l.n l.w l.early l.late l.factors (stepping l.elementwise) l.us l.vs l.head (arranged l.less) (length l.early) l.c l.initial.squares l.squares l.initial.fourths l.fourths l.initial.bytes l.bytes l.initial.work l.work
