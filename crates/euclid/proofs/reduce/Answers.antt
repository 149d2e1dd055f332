-- The definition in the code's own operations; 0 / 0 is 0.
use mathlib.Core.Path.{sym, ◌∙◌}
use native.Mathlib.Nat.{div-zero}
use Rattle.euclid.specs.Euclid.{reduced}
use Rattle.euclid.proofs.reduce.Goals as goal

pub returns-then-divisor-eq0 : goal.returns-then-divisor-eq0
unfolding reduced
returns-then-divisor-eq0 c =
    let s = c.args in
    let e = sym c.gcd-divisor.ensures ∙ c.if-divisor-eq0.true in
    rw (e, div-zero s.top, div-zero s.bottom)

pub returns : goal.returns
unfolding reduced
returns c = rw c.gcd-divisor.ensures
