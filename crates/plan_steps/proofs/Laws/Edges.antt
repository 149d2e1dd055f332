-- Laws of what specs/Edges defines.
use Rattle.std.proofs.Common.{◌∙◌}
use Rattle.std.specs.Prelude.{List, ℕ, length, get_or}
use Rattle.std.specs.Float.{nan}
use Rattle.plan_steps.specs.Layout.{SameStep}
use Rattle.plan_steps.proofs.Laws.Layout.{step-keep, vertex-keep}
use Rattle.plan_steps.specs.Edges.{Steps}

-- another plan that says the same of the edges
pub steps-keep : (p q early late : List ℕ) (n w : ℕ) → ((t : ℕ) → SameStep p q t) → Steps p early late n w → Steps q early late n w
steps-keep p q early late n w same g =
    record {
      vertex = λ t b. vertex-keep p q w (length early) t (same t) (g.vertex t b);
      step = λ x manner t b. step-keep (λ e. get_or x e nan) p q t (same t) (g.vertex t b).few ∙ g.step x manner t b;
    }
