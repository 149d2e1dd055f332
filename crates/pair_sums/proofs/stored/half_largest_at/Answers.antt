-- The entries of the place's first half.
use mathlib.Core.Path.{ap, ◌∙◌}
use native.Mathlib.Omega.{arith}
use Rattle.list_laws.proofs.Laws.Power.{pow_double}
use Rattle.transfer_matrix.specs.Rounded.{ieee}
use Rattle.transfer_matrix.specs.Sweep as S
use Rattle.pair_sums.proofs.Entries.{part-entries}
use Rattle.pair_sums.proofs.stored.half_largest_at.Goals as goal

pub overflow_mul-p : goal.overflow_mul-p
overflow_mul-p c = rw c.pow2.ensures (omega (arith, c.requires.inside))

pub largest_from-requires : goal.largest_from-requires
largest_from-requires c =
    let p = c.requires in
    rw c.pow2.ensures (omega (arith, p.narrow), omega (arith, p.inside, pow_double _ p.wide))

pub returns : goal.returns
returns c =
    let p = c.requires in
    rw c.pow2.ensures at c.largest_from.ensures
    ∙ ap (S.largest ieee ieee.𝟘) (part-entries _ _ _ (omega (arith, p.inside, pow_double _ p.wide)))
