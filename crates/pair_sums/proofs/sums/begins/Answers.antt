-- A place begins at its number times the size of one.
use mathlib.Core.Path.{refl}
use native.Mathlib.Omega.{arith}
use Rattle.pair_sums.proofs.sums.begins.Goals as goal

pub overflow_mul-result : goal.overflow_mul-result
overflow_mul-result c = rw c.pow2-size.ensures (omega (arith, c.requires.forward.inside))

pub overflow_mul-result-2 : goal.overflow_mul-result-2
overflow_mul-result-2 c = rw c.pow2-size.ensures (omega (arith, c.requires.other.inside))

pub overflow_mul-result-3 : goal.overflow_mul-result-3
overflow_mul-result-3 c = rw c.pow2-size.ensures (omega (arith, c.requires.backward.inside))

pub returns : goal.returns
returns c =
    let e = c.pow2-size.ensures in
    record { forward = rw e refl; other = rw e refl; backward = rw e refl; bit = refl }
