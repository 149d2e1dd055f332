-- Laws of what specs/Numbers defines.
use Rattle.std.specs.Prelude.{◌≡◌, Result, Ok, Err, ℕ, zero, suc}
use Rattle.std.proofs.Common.{sym, ◌∙◌, arith}
use Rattle.refusals.specs.Answers.{Answered, left}
use Rattle.refusals.proofs.Laws.Answers.{number-not_zero, left_alone}
use Rattle.refusals.specs.declared.Refusal.{Refusal}
use Rattle.c_answers.specs.Numbers.{held_of, Tells}

held-answered : (k x old : ℕ) (a : Result ℕ Refusal) → Answered k x a → held_of a old ≡ left k x old
held-answered zero x old (Ok y) e = e.1
held-answered (suc k) x old (Ok y) e = let z = e.0 in absurd (omega arith)
held-answered k x old (Err f) e = left_alone k x old (λ z. number-not_zero f (e.0 ∙ z))

-- ---- of a call whose refusal and number are known

module _ (k x : ℕ) {a : Result ℕ Refusal} {r old new : ℕ} (e : Answered k x a) (t : Tells a r old new) where
  pub told-number : r ≡ k
  told-number = t.number ∙ e.0

  pub told-held : new ≡ left k x old
  told-held = t.held ∙ held-answered k x old a e

  pub told : (r ≡ k) × (new ≡ left r x old)
  told = (told-number, rw told-number told-held)

  pub told-refused : (r ≡ 0 → ⊥) → new ≡ old
  told-refused n = told.1 ∙ sym (left_alone r x old n)

-- the answer again, from its number and what the reference holds
pub told-again : {a : Result ℕ Refusal} {r old new : ℕ} → Tells a r old new → Answered r new a
told-again {a = Ok y} t = (sym t.number, sym t.held)
told-again {a = Err e} t = (sym t.number, tt)
