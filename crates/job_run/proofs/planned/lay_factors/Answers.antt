use mathlib.Core.Path.{refl, ap, ◌∙◌}
use Prim.Native.Nat.{◌+◌, ◌<◌}
use native.Mathlib.Omega.{arith}
use lib.Ieee.{nan}
use lib.ListN.{length, get_or}
use Rattle.list_laws.proofs.Laws.Part.{fill_none, fill_one, fill_length}
use Rattle.job_run.proofs.Lists.{entries_are}
use Rattle.job_run.proofs.planned.lay_factors.Goals as goal

pub loop-e-init : goal.loop-e-init
loop-e-init c = (omega arith, fill_none _ _ _)

pub bounds-room-at : goal.bounds-room-at
bounds-room-at c = let i = c.loop-e in let l = fill_length c.args.room.now c.args.at (λ j. get_or c.args.x.now j nan) i.e (omega arith) in omega (arith, ap length i.invariant.1)

pub loop-e-preserved : goal.loop-e-preserved
loop-e-preserved c =
    let a = c.args in
    let b : a.at + c.loop-e.e < length a.room.now = omega arith in
    (omega arith, rw c.loop-e.invariant.1 (fill_one _ _ _ _ _ b refl))

pub shape_of-room : goal.shape_of-room
shape_of-room c = let a = c.args in ap length c.loop-e.invariant.1 ∙ fill_length a.room.now a.at (λ j. get_or a.x.now j nan) c.loop-e.e (omega arith)

pub returns : goal.returns
returns c = let a = c.args in c.loop-e.invariant.1 ∙ entries_are a.room.now a.at a.x.now _ (omega arith)
