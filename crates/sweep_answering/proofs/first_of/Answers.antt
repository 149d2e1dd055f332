use mathlib.Core.Path.{◌≡◌, ◌∙◌, sym}
use mathlib.Core.Logic.{dite}
use Prim.Native.Nat.{◌+◌, ◌-◌}
use native.Mathlib.Decide.{dec_lt}
use native.Mathlib.Omega.{arith}
use Rattle.sweep_answering.proofs.first_of.Goals as goal

pub loop-k-init : goal.loop-k-init
loop-k-init c = (omega arith, λ j a b. absurd (omega arith))

pub last_vertex-requires : goal.last_vertex-requires
last_vertex-requires c = let p = c.requires in (p.0, p.1, omega (arith, c.loop-k.invariant.0, p.2))

pub returns-then-last_vertex-v : goal.returns-then-last_vertex-v
returns-then-last_vertex-v c =
    let i = c.loop-k.invariant in
    record { inside = omega arith; end = λ j a b. i.1 j (omega arith) b; first = λ b e. c.if-last_vertex-v.true (c.last_vertex.ensures b ∙ e) }

pub loop-k-preserved : goal.loop-k-preserved
loop-k-preserved c =
    let i = c.loop-k.invariant in
    let k = c.loop-k.k in
    let same : k - 1 + 1 - 1 ≡ k - 1 = omega arith in
    let here = rw same at (sym (c.last_vertex.ensures (omega arith)) ∙ c.if-last_vertex-v.false) in (
      omega (arith, i.0),
      λ j a b. dite (dec_lt j k) (λ l. let e : j ≡ k - 1 = omega arith in rw e here) (λ l. i.1 j (omega arith) b),
    )

pub returns : goal.returns
returns c = let i = c.loop-k.invariant in record { inside = omega arith; end = λ j a b. i.1 j (omega arith) b; first = λ b e. omega arith }
