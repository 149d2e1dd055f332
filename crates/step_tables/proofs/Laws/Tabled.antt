-- The tables' weights are those of the definition's step.
use Rattle.std.specs.Prelude.{◌≡◌, ℕ, Float}
use Rattle.std.proofs.Common.{ap, ◌∙◌}
use Rattle.transfer_matrix.specs.Job.{Step}
use Rattle.transfer_matrix.specs.Rounded.{ieee}
use Rattle.transfer_matrix.specs.Sweep as S
use Rattle.step_tables.specs.Step.{Tables, Tabled}
use Rattle.step_tables.specs.Rule.{weights}
use Rattle.step_tables.proofs.Laws.Pattern.{pattern_lt}

module _ (s : Step Float) (sc : Float) (t : Tables) (a : Tabled s sc t) (k : ℕ) where
  pub up-weight : weights t.bits t.count t.up k ≡ S.up ieee s.others sc (S.pattern s.others k)
  up-weight = a.ups _ (pattern_lt t.bits 0 t.count k) ∙ ap (S.up ieee s.others sc) (a.picks k)

  pub down-weight : weights t.bits t.count t.down k ≡ S.down ieee s.others sc (S.pattern s.others k)
  down-weight = a.downs _ (pattern_lt t.bits 0 t.count k) ∙ ap (S.down ieee s.others sc) (a.picks k)
