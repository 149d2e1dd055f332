-- Two calls of `find`: where the roots are one, nothing is left to do, and else one is hung below the other.
use Rattle.union_find.proofs.Laws.Hang.{one_set, two_sets}
use Rattle.union_find.proofs.union.Goals as goal

pub returns-then-ra-rb : goal.returns-then-ra-rb
returns-then-ra-rb c =
    let s = c in
    let f = c in
    one_set s.requires.1 s.requires.2 f.find-ra.ensures f.find-rb.ensures c.if-ra-rb.true

pub returns : goal.returns
returns c =
    let s = c in
    let f = c in
    two_sets s.requires.1 s.requires.2 f.find-ra.ensures f.find-rb.ensures c.if-ra-rb.false

pub shape_of-p : goal.shape_of-p
shape_of-p c = (returns c).len
