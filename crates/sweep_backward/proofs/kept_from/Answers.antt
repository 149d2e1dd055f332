use mathlib.Core.Path.{◌≡◌}
use mathlib.Core.Logic.{dite}
use native.Mathlib.Decide.{dec_lt}
use native.Mathlib.Omega.{arith}
use Rattle.plan_steps.specs.Layout.{backward_place}
use Rattle.sweep_backward.proofs.kept_from.Goals as goal

pub returns-then-backward_place-gt0 : goal.returns-then-backward_place-gt0
returns-then-backward_place-gt0 c =
    let i = c.loop-t.invariant in
    record { below = omega arith; from = λ b. omega arith; placed = λ b. omega (arith, c.backward_place.ensures); first = i.2 }

pub loop-t-preserved : goal.loop-t-preserved
loop-t-preserved c =
    let i = c.loop-t.invariant in
    let t = c.loop-t.t in (
      omega arith,
      omega arith,
      λ u a b. dite (dec_lt u t) (λ l. i.2 u a l) (λ l. let e : u ≡ t = omega arith in rw e (omega (arith, c.backward_place.ensures))),
    )

pub returns : goal.returns
returns c =
    let i = c.loop-t.invariant in
    record { below = omega arith; from = λ b. absurd (omega arith); placed = λ b. absurd (omega arith); first = λ u a b. i.2 u a (omega arith) }
