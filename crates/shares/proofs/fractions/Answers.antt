-- The definition, count by count.
use Rattle.shares.proofs.fractions.Goals as goal

pub returns : goal.returns
returns c = rw (c.reduce.ensures, c.reduce-2.ensures, c.reduce-3.ensures, c.reduce-4.ensures)
