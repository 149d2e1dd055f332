-- The counts begin at zero.
use Rattle.plan_steps.proofs.Counting.{counts_start}
use Rattle.plan_steps.proofs.edges.is_crowded.Goals as goal

pub count_near-requires : goal.count_near-requires
count_near-requires c =
    let g = c.requires in
    (g, counts_start _ _ _ _ 1024 g.few)
