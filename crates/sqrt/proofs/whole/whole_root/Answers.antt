use native.Mathlib.Omega.{arith}
use Rattle.sqrt.proofs.Digits.{partial_start, partial_one, partial_zero, partial_end}
use Rattle.sqrt.proofs.whole.whole_root.Goals as goal
use Rattle.sqrt.proofs.whole.whole_root.Goals.{then-odd-taken, else-odd-taken}

pub loop-digit-init : goal.loop-digit-init
loop-digit-init c = partial_start _ c.requires

pub loop-digit-preserved : goal.loop-digit-preserved
loop-digit-preserved c =
    elim c.if-odd-taken.branch [
      | then-odd-taken w ↦ rw (w.rest-is, w.root-is) (partial_one _ _ _ _ _ c.loop-digit.invariant (omega arith) (omega arith))
      | else-odd-taken w ↦ rw (w.rest-is, w.root-is) (partial_zero _ _ _ _ _ c.loop-digit.invariant (omega arith) (omega arith))
    ]

pub returns : goal.returns
returns c = partial_end _ _ _ _ _ c.loop-digit.invariant (omega arith)
