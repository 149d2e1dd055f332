-- The first c chunks are written.
use Prim.Native.Nat.{◌-◌}
use lib.ListN.{length}
use Rattle.transfer_matrix.specs.Room.{arranged}
use Rattle.totals_call.specs.Finished.{stepping}
use Rattle.refusals.specs.Couplings.{all_couplings}
use Rattle.house_factors.specs.Factors.{paired_factors}
use Rattle.totals_record.proofs.Laws.Writing.{Writing}
use Rattle.totals_house_record.proofs.chunks.write_house_chunks.Given as goal

abbrev pub invariant-loop-c : goal.invariant-loop-c
invariant-loop-c l =
    Writing l.n l.w l.early l.late (paired_factors (all_couplings l.betas l.mag)) (stepping l.elementwise) l.us l.vs l.head (arranged l.less) (length l.early) l.c l.initial.squares l.squares l.initial.fourths l.fourths l.initial.bytes l.bytes l.initial.work l.work
