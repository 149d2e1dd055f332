use mathlib.Core.Path.{◌≡◌, refl}
use Prim.Native.Nat.{◌+◌, ◌<◌}
use native.Mathlib.Omega.{arith}
use lib.ListN.{length, length-set}
use Rattle.list_laws.proofs.Laws.Part.{fill_none, fill_one}
use Rattle.step_tables.proofs.entries.fill.Goals as goal

pub loop-i-init : goal.loop-i-init
loop-i-init c = (omega arith, refl, fill_none _ _ _)

pub loop-i-preserved : goal.loop-i-preserved
loop-i-preserved c =
    let i = c.loop-i.invariant in
    let b : c.args.at + c.loop-i.i < length c.args.room.now = omega arith in
    (omega arith, simp length-set i.1, rw i.2 (fill_one _ _ _ _ _ b refl))

pub returns : goal.returns
returns c = let e : c.loop-i.i ≡ c.args.n = omega arith in rw e at c.loop-i.invariant.2
