-- An edge behind the first k, or nothing.
use Rattle.strip_edges.proofs.Writing.{placed_one, placed-none}
use native.Mathlib.Omega.{arith}
use Rattle.strip_edges.proofs.listing.place.Goals as goal

pub bounds-early-k : goal.bounds-early-k
bounds-early-k c = let h = rw c.in-Some.is at c.requires.earlies in omega arith

pub bounds-late-k : goal.bounds-late-k
bounds-late-k c = let h = rw c.in-Some.is at c.requires.lates in omega arith

pub bounds-mag-k : goal.bounds-mag-k
bounds-mag-k c = let h = rw c.in-Some.is at c.requires.mags in omega arith

pub returns-in-Some : goal.returns-in-Some
returns-in-Some c = rw c.in-Some.is (placed_one _ _ _ _ _ _ (rw c.in-Some.is at c.requires))

pub returns-in-None : goal.returns-in-None
returns-in-None c = rw c.in-None.is (placed-none _ _ _ _)
