-- Past 4 a coupling is off the grid; up to 4 the product is exact, and the test says whether its whole part is all of it.
use Rattle.std.proofs.Common.{ap, ◌∙◌}
use lib.Ieee.{binary64, of_int}
use denote.Floats.{passes}
use Rattle.coupling_grid.proofs.Range.{above-is-off, below-is-off}
use Rattle.coupling_grid.proofs.Whole.{product, castable, read_back, answer}
use Rattle.coupling_grid.proofs.off_grid.Goals as goal

pub truncating_f64_to_i64-whole-requires : goal.truncating_f64_to_i64-whole-requires
truncating_f64_to_i64-whole-requires c =
    let s = c in
    let (_, _, _, t) = product s.args.x (passes _ s.well_formed.0.1) c.if-x.true c.if-x-2.true in
    let both = castable t in
    record { lower_bound = both.0; upper_bound = both.1 }

pub returns-then-x-2 : goal.returns-then-x-2
returns-then-x-2 c =
    let s = c in
    let (_, _, _, t) = product s.args.x (passes _ s.well_formed.0.1) c.if-x.true c.if-x-2.true in
    let w = c.truncating_f64_to_i64-whole in
    answer t w.result _ w.ensures (c.nearest_i64_to_f64.ensures ∙ ap (of_int binary64) (read_back w.result _ w.ensures))

pub returns-else-x-2 : goal.returns-else-x-2
returns-else-x-2 c = below-is-off c.args.x c.if-x-2.false

pub returns-else-x : goal.returns-else-x
returns-else-x c = above-is-off c.args.x c.if-x.false
