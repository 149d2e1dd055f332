use mathlib.Core.Path.{refl}
use Prim.Native.Nat.{◌≤◌, ◌^◌}
use native.Mathlib.Omega.{arith}
use lib.ListN.{length-set}
use lib.Pow.{pow_mono}
use Rattle.transfer_matrix.specs.Rounded.{ieee}
use Rattle.transfer_matrix.specs.Sweep as S
use Rattle.step_tables.specs.Step.{near_edges}
use Rattle.step_tables.proofs.TableIteration.{front_iteration, mirror_iteration, up_is, filled}
use Rattle.step_tables.proofs.tables.fill_tables.Goals as goal

pub loop-m-init : goal.loop-m-init
loop-m-init c =
    let p : 2 ^ c.args.count ≤ 2 ^ 4 = pow_mono {j = 4} (omega arith) in
    (omega arith, c.pow2-full.ensures, omega (arith, c.pow2-full.ensures), refl, refl, (λ bits j p. absurd (omega arith)), λ bits j p. absurd (omega arith))

pub loop-m-preserved : goal.loop-m-preserved
loop-m-preserved c =
    let at = c in
    let i = at.loop-m.invariant in
    let a = c.args in (
      omega arith,
      i.1,
      i.2,
      simp length-set i.3,
      simp length-set i.4,
      (λ bits. front_iteration at.loop-m.up (S.up ieee (near_edges a.factors.now bits 0 a.count) a.scale) _ _ (omega arith)
          (up_is _ _ _ _ (c.product-f.ensures bits)) (i.5 bits)),
      λ bits. mirror_iteration at.loop-m.down (S.up ieee (near_edges a.factors.now bits 0 a.count) a.scale) _ _ _ (omega arith) (omega arith)
          (up_is _ _ _ _ (c.product-f.ensures bits)) (i.6 bits),
    )

pub shape_of-up : goal.shape_of-up
shape_of-up c = c.loop-m.invariant.3

pub shape_of-down : goal.shape_of-down
shape_of-down c = c.loop-m.invariant.4

pub returns : goal.returns
returns c = λ bits.
    let i = c.loop-m.invariant in
    let n : c.pow2-full.result ≤ c.loop-m.m = omega arith in
    filled _ bits _ _ _ _ _ i.1 (λ j l. i.5 bits j (omega arith)) (λ j l. i.6 bits j (omega arith))
