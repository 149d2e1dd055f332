use mathlib.Core.Path.{◌≡◌, refl, ap, ◌∙◌}
use Prim.Native.Nat.{ℕ}
use native.Mathlib.Omega.{arith}
use lib.ListN.{length, length-set}
use Rattle.list_laws.specs.Tabulate.{tabulate}
use Rattle.transfer_matrix.specs.Configuration.{drawn, words_per_sample}
use Rattle.totals_signs.proofs.Filling.{filled_none, filled_more, filled_all}
use Rattle.totals_signs.proofs.Sampling.{word_none, word-bit}
use Rattle.totals_signs.proofs.drawn.sampled_signs.Goals as goal

pub loop-e-init : goal.loop-e-init
loop-e-init c = (omega arith, word_none _ _ refl, refl, filled_none _ _)

pub loop-e-preserved : goal.loop-e-preserved
loop-e-preserved c =
    let l = c.loop-e in
    let s = c.before in
    let g = c.word_at-at.ensures s.args.rng.s l.invariant.1 in (
      omega arith,
      g,
      simp length-set l.invariant.2,
      filled_more _ s.args.signs.now _ _ _ l.invariant.3 (omega arith) (word-bit _ _ _ g),
    )

pub shape_of-signs : goal.shape_of-signs
shape_of-signs c = c.loop-e.invariant.2

pub returns : goal.returns
returns c =
    let l = c.loop-e in
    let e : l.e ≡ length c.args.signs.now = omega arith in
    (l.invariant.3 ∙ filled_all _ c.args.signs.now l.e e ∙ ap (tabulate _) e, l.invariant.1.state ∙ ap (λ (k : ℕ). drawn c.args.rng.s (words_per_sample k)) e)
