-- The tests, one after the other.
use borrow.Author.Tests.{eq-eqb, ne_eqb, lt-ltb, le-ltb}
use Rattle.graph_checks.proofs.lists.bad_lists.Goals as goal

pub returns-then-a-b : goal.returns-then-a-b
returns-then-a-b c = simp (ne_eqb _ _ c.if-a-b.true)

pub returns-then-a-m : goal.returns-then-a-m
returns-then-a-m c = simp (eq-eqb _ _ c.if-a-b.false, ne_eqb _ _ c.if-a-m.true)

pub returns-then-a-gt-EDGES : goal.returns-then-a-gt-EDGES
returns-then-a-gt-EDGES c = simp (eq-eqb _ _ c.if-a-b.false, eq-eqb _ _ c.if-a-m.false, lt-ltb _ _ c.if-a-gt-EDGES.true)

pub returns-then-us-vs : goal.returns-then-us-vs
returns-then-us-vs c =
    let few = c in
    simp (eq-eqb _ _ few.if-a-b.false, eq-eqb _ _ few.if-a-m.false, le-ltb _ _ few.if-a-gt-EDGES.false, ne_eqb _ _ c.if-us-vs.true)

pub returns-then-us-gt-PAIRS : goal.returns-then-us-gt-PAIRS
returns-then-us-gt-PAIRS c =
    let few = c in
    simp (eq-eqb _ _ few.if-a-b.false, eq-eqb _ _ few.if-a-m.false, le-ltb _ _ few.if-a-gt-EDGES.false, eq-eqb _ _ c.if-us-vs.false, lt-ltb _ _ c.if-us-gt-PAIRS.true)

pub returns : goal.returns
returns c =
    let few = c in
    simp (eq-eqb _ _ few.if-a-b.false, eq-eqb _ _ few.if-a-m.false, le-ltb _ _ few.if-a-gt-EDGES.false, eq-eqb _ _ c.if-us-vs.false, le-ltb _ _ c.if-us-gt-PAIRS.false)
