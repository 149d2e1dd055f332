-- The answers, and then their powers.
use mathlib.Core.Path.{◌≡◌, sym, ◌∙◌}
use mathlib.Core.Bool.{true, false}
use Prim.Native.Nat.{ℕ}
use native.Mathlib.Omega.{arith}
use Rattle.transfer_matrix.specs.Rounded.{ieee}
use Rattle.transfer_matrix.specs.Totals.{square, fourth}
use Rattle.totals_configuration.proofs.Betas.{pairs-added}
use Rattle.totals_configuration.proofs.configuration.add_beta.Goals as goal

pub returns-then-not-answer_signed : goal.returns-then-not-answer_signed
returns-then-not-answer_signed c =
    let no : true ≡ false → ⊥ = λ z. (let z' : ◌≡◌ {A = ℕ} 0 1 = cc in omega arith) in
    let r = c.if-not-answer_signed.true in
    λ J of given.
    let a = c.answer_signed.ensures J of given in
    record { verdict = sym r ∙ a.0.told; powers = λ z. absurd (no (sym z)); kept = a.1 }

pub returns : goal.returns
returns c =
    let s = c in
    let signed = c.answer_signed in
    let added = c.add_powers.ensures in
    let r = c.if-not-answer_signed.false in
    let full = signed.auto.c ∙ s.requires.0.fitting in
    λ J of given.
    let a = signed.ensures J of given in
    record {
      verdict = sym r ∙ a.0.told;
      powers = λ _. record {
        squared = pairs-added J _ _ s.args.squares.now _ _ (square ieee) s.requires.2 full (a.0.values r) added.squares_after;
        fourthed = pairs-added J _ _ s.args.fourths.now _ _ (fourth ieee) s.requires.3 full (a.0.values r) added.fourths_after;
      };
      kept = a.1;
    }
