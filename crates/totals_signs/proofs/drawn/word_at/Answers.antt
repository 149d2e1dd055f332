use mathlib.Core.Path.{refl}
use native.Mathlib.Omega.{arith}
use Rattle.totals_signs.proofs.Sampling.{word_new, word_same}
use Rattle.totals_signs.proofs.drawn.word_at.Goals as goal

pub returns-then-e-eq0 : goal.returns-then-e-eq0
returns-then-e-eq0 c = λ s g. word_new s _ _ _ g (omega arith) c.next_u64.ensures.0 c.next_u64.ensures.1

pub returns : goal.returns
returns c = λ s g. word_same s _ _ _ g (λ z. omega arith) refl refl
