use Rattle.transfer_matrix.specs.Job.{longest}
use Rattle.list_laws.proofs.Laws.Most.{most-more, most_zero}
use lib.ListN.{length}
use mathlib.Core.Path.{◌≡◌, sym}
use native.Mathlib.Omega.{arith}
use Rattle.kept_edges.proofs.reach.longest.Goals as goal

pub loop-e-init : goal.loop-e-init
loop-e-init c = (sym (most_zero _), omega arith)

pub overflow_sub-late : goal.overflow_sub-late
overflow_sub-late c = omega (arith, c.requires.ends c.loop-e.e (omega arith))

pub loop-e-preserved : goal.loop-e-preserved
loop-e-preserved c = (most-more _ _ _ _ c.loop-e.invariant.0 c.larger-most.ensures, omega arith)

pub returns : goal.returns
unfolding longest
returns c = let e : c.loop-e.e ≡ length c.args.early.now = omega arith in rw (← e) c.loop-e.invariant.0
