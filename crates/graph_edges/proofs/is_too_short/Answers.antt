-- The tests, one after the other.
use borrow.Author.Tests.{lt-ltb, le-ltb}
use Rattle.graph_edges.proofs.is_too_short.Goals as goal

pub returns-then-early-edges : goal.returns-then-early-edges
returns-then-early-edges c = simp (lt-ltb _ _ c.if-early-edges.true)

pub returns-then-late-edges : goal.returns-then-late-edges
returns-then-late-edges c = simp (le-ltb _ _ c.if-early-edges.false, lt-ltb _ _ c.if-late-edges.true)

pub returns-then-mag-edges : goal.returns-then-mag-edges
returns-then-mag-edges c = simp (le-ltb _ _ c.if-early-edges.false, le-ltb _ _ c.if-late-edges.false, lt-ltb _ _ c.if-mag-edges.true)

pub returns : goal.returns
returns c = simp (le-ltb _ _ c.if-early-edges.false, le-ltb _ _ c.if-late-edges.false, le-ltb _ _ c.if-mag-edges.false)
