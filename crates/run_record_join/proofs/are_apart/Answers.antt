-- By the tests in turn.
use Rattle.run_record_join.proofs.Laws.Cases.{other-seed, other-samples, other-betas, other-pairs, first_ends, by_second}
use Rattle.run_record_join.proofs.are_apart.Goals as goal

pub returns-then-g-h : goal.returns-then-g-h
returns-then-g-h c = let a = c.args in other-seed a.g a.h c.if-g-h.true

pub returns-then-g-h-2 : goal.returns-then-g-h-2
returns-then-g-h-2 c = let a = c.args in other-samples a.g a.h c.if-g-h.false c.if-g-h-2.true

pub returns-then-g-h-3 : goal.returns-then-g-h-3
returns-then-g-h-3 c = let a = c.args in other-betas a.g a.h c.if-g-h.false c.if-g-h-2.false c.if-g-h-3.true

pub returns-then-g-h-4 : goal.returns-then-g-h-4
returns-then-g-h-4 c = let a = c.args in other-pairs a.g a.h c.if-g-h.false c.if-g-h-2.false c.if-g-h-3.false c.if-g-h-4.true

pub returns-then-g-h-5 : goal.returns-then-g-h-5
returns-then-g-h-5 c = let a = c.args in first_ends a.g a.h c.if-g-h.false c.if-g-h-2.false c.if-g-h-3.false c.if-g-h-4.false c.if-g-h-5.true

pub returns : goal.returns
returns c = let a = c.args in by_second a.g a.h c.if-g-h.false c.if-g-h-2.false c.if-g-h-3.false c.if-g-h-4.false c.if-g-h-5.false
