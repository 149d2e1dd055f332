-- What a preview leaves in the references, from what it costs.
use Rattle.std.specs.Prelude.{refl, Ok, Err, ℕ}
use Rattle.std.proofs.Common.{◌∙◌}
use Rattle.refusals.specs.declared.Refusal.{Refusal}
use Rattle.refusals.specs.Numbers.{number}
use Rattle.refusals.proofs.Laws.Answers.{number-not_zero, left_alone}
use Rattle.preview.specs.declared.answer.Figures.{Figures}
use Rattle.preview.specs.Previewed.{Cost, Costs}
use Rattle.export_jobs.specs.Previews.{Tells}

module _ (c : Cost) (window free room : ℕ) where
  pub told-figures : (f : Figures) → Costs c (Ok f) → Tells c 0 window f.window free f.free room f.room
  told-figures f q = record {
    number = q.0;
    windowed = rw (← q.0, ← q.1) refl;
    counted = rw (← q.0, ← q.1) refl;
    roomed = rw (← q.0, ← q.1) refl;
  }

  pub told-refusal : (e : Refusal) → Costs c (Err e) → Tells c (number e) window window free free room room
  told-refusal e q = record {
    number = q.0;
    windowed = left_alone c.number c.figures.window window (λ z. number-not_zero e (q.0 ∙ z));
    counted = left_alone c.number c.figures.free free (λ z. number-not_zero e (q.0 ∙ z));
    roomed = left_alone c.number c.figures.room room (λ z. number-not_zero e (q.0 ∙ z));
  }
