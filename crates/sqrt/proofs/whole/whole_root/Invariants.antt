-- Each turn of the loop is a law of Digits.
use Rattle.sqrt.proofs.Digits.{Partial}
use Rattle.sqrt.proofs.whole.whole_root.Given as goal

abbrev pub invariant-loop-digit : goal.invariant-loop-digit
invariant-loop-digit l = Partial l.m l._digit l.root l.rest l.next
