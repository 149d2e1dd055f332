-- Two calls of `find`: of two roots the higher is hung below the lower, and where the roots are one nothing is left to do.
use Rattle.union_find.proofs.Laws.Hang.{first-lower, other-lower, lower-one}
use Rattle.union_find.proofs.union_lower.Goals as goal

pub returns-then-x-y : goal.returns-then-x-y
returns-then-x-y c =
    let s = c in
    let f = c in
    first-lower s.requires.1 s.requires.2 f.find-x.ensures f.find-y.ensures c.if-x-y.true

pub shape_of-p-then-x-y : goal.shape_of-p-then-x-y
shape_of-p-then-x-y c = (returns-then-x-y c).len

pub returns-then-y-x : goal.returns-then-y-x
returns-then-y-x c =
    let s = c in
    let f = c in
    other-lower s.requires.1 s.requires.2 f.find-x.ensures f.find-y.ensures c.if-y-x.true

pub shape_of-p-then-y-x : goal.shape_of-p-then-y-x
shape_of-p-then-y-x c = (returns-then-y-x c).len

pub returns : goal.returns
returns c =
    let s = c in
    let f = c in
    lower-one s.requires.1 s.requires.2 f.find-x.ensures f.find-y.ensures c.if-x-y.false c.if-y-x.false
