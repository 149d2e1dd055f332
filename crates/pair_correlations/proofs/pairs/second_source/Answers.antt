-- Either the first pair again, or a direct one.
use mathlib.Core.Path.{refl}
use mathlib.Core.Logic.{inl, inr}
use Rattle.pair_correlations.proofs.pairs.second_source.Goals as goal

pub returns-then-q-p : goal.returns-then-q-p
returns-then-q-p c = inl (c.if-q-p.true, refl)

pub direct_source-requires : goal.direct_source-requires
direct_source-requires c =
    let s = c in
    (s.requires.0, rw (c.earlier.ensures, c.later.ensures) s.requires.3)

pub returns : goal.returns
returns c =
    inr (c.if-q-p.false, rw (c.earlier.ensures, c.later.ensures) at c.direct_source.ensures)
