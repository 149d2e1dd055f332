-- One edge or none, by the test.
use Rattle.strip_bonds.proofs.bond_if.Goals as goal

pub returns-then-joined : goal.returns-then-joined
returns-then-joined c = rw c.if-joined.true

pub returns : goal.returns
returns c = rw c.if-joined.false
