-- By cases: what is left of the two parts of the order.
use native.Mathlib.Omega.{arith}
use Rattle.propagation.proofs.Pairings.{both-kinds, other-alone, direct-alone, both-direct}
use Rattle.propagation.proofs.together.next_pairing.Goals as goal

pub returns-then-direct-directs : goal.returns-then-direct-directs
returns-then-direct-directs c = let p = c.requires in both-kinds _ _ _ _ p.0 p.1 p.2 (omega arith) (omega arith)

pub returns-then-other-all : goal.returns-then-other-all
returns-then-other-all c = let p = c.requires in other-alone _ _ _ _ p.0 p.1 p.2 (omega arith) (λ l. omega arith)

pub returns-then-direct-directs-2 : goal.returns-then-direct-directs-2
returns-then-direct-directs-2 c = let p = c.requires in both-direct _ _ _ _ p.0 p.1 p.2 (omega arith)

pub returns : goal.returns
returns c = let p = c.requires in direct-alone _ _ _ _ p.0 p.1 p.2 (omega arith)
