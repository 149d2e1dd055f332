use mathlib.Core.Path.{◌≡◌, refl}
use Prim.Native.Nat.{◌+◌, ◌<◌}
use lib.ListN.{length-set}
use Rattle.list_laws.proofs.Laws.Part.{fill_none}
use Rattle.step_runs.proofs.AlternateIteration.{alternate_iteration}
use native.Mathlib.Omega.{arith}
use Rattle.step_runs.proofs.alternate.alternate_run.Goals as goal

pub loop-j-init : goal.loop-j-init
loop-j-init c = (refl, omega arith, omega arith, fill_none _ _ _)

pub bounds-v-o-in-loop-j : goal.bounds-v-o-in-loop-j
bounds-v-o-in-loop-j c = simp length-set (omega arith)

pub loop-j-preserved : goal.loop-j-preserved
loop-j-preserved c =
    let at = c in
    let i = at.loop-j.invariant in
    let l = (let it : c.loop-j.j + 1 < c.args.n = omega arith in it) in
    (simp length-set i.0, omega arith, omega (arith, l), alternate_iteration _ _ _ _ _ _ at.requires.1 l i.1 i.3)

pub returns : goal.returns
returns c = let e : c.loop-j.j ≡ c.args.n = omega arith in rw e at c.loop-j.invariant.3

pub returns-2 : goal.returns-2
returns-2 c =
    let i = c.loop-j.invariant in
    let l : c.loop-j.j + 1 < c.args.n = omega arith in
    let e : c.loop-j.j + 2 ≡ c.args.n = omega arith in
    rw e at (alternate_iteration _ _ _ _ _ _ c.requires.1 l i.1 i.3)
