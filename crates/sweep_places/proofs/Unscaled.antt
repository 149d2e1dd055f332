-- Where no largest entry is due, the next scale is 1.0.
use mathlib.Core.Path.{◌≡◌, refl, ap, ◌∙◌}
use mathlib.Core.Bool.{Bool, false, cond}
use mathlib.Core.List.{List}
use Prim.Native.Nat.{ℕ, ◌%◌}
use lib.Ieee.{Float, binary64, div, round}
use borrow.Author.Tests.{ne_eqb}
use Rattle.transfer_matrix.specs.Job.{Manner, block, per_element}
use Rattle.transfer_matrix.specs.Rounded.{ieee}
use Rattle.transfer_matrix.specs.Sweep as S

one-over-one : div binary64 ieee.𝟙 ieee.𝟙 ≡ ieee.𝟙
unfolding div round
one-over-one = refl

not_due : (r t : ℕ) (v : List Float) → (t % 4 ≡ r → ⊥) → S.stored ieee block r t v ≡ ieee.𝟙
unfolding S.stored
not_due r t v d = rw (ne_eqb (t % 4) r d)

pub unscaled : (m : Manner) (elementwise : Bool) (r t : ℕ) (v : List Float) → m ≡ cond elementwise per_element block → elementwise ≡ false → (t % 4 ≡ r → ⊥)
    → div binary64 ieee.𝟙 (S.stored ieee m r t v) ≡ ieee.𝟙
unscaled m elementwise r t v h e d =
    ap (div binary64 ieee.𝟙)
    (ap (λ (k : Manner). S.stored ieee k r t v) (h ∙ ap (λ (b : Bool). cond b per_element block) e) ∙ not_due r t v d)
    ∙ one-over-one
