-- A pair behind those that stand at the fronts, or nothing.
use Rattle.strip_pairs.proofs.Pairing.{placed_pair, placed_omitted, label-room}
use native.Mathlib.Omega.{arith}
use Rattle.strip_pairs.proofs.standard.place_pair.Goals as goal

pub bounds-us-k : goal.bounds-us-k
bounds-us-k c = let h = rw c.in-Some.is at c.requires.firsts in omega arith

pub bounds-vs-k : goal.bounds-vs-k
bounds-vs-k c = let h = rw c.in-Some.is at c.requires.seconds in omega arith

pub put_label-end-requires : goal.put_label-end-requires
put_label-end-requires c = label-room _ c.args.name.now c.args.at (rw c.in-Some.is at c.requires)

pub returns-in-Some : goal.returns-in-Some
returns-in-Some c = rw c.in-Some.is (placed_pair _ _ _ _ _ _ _ _ (rw c.in-Some.is at c.requires) c.put_label-end.ensures)

pub returns-in-None : goal.returns-in-None
returns-in-None c = rw c.in-None.is (placed_omitted _ _ _ _)
