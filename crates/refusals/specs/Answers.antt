-- What a call answers and leaves, from its refusal's number, 0 for accepted.
use Rattle.std.specs.Prelude.{◌≡◌, ℕ, zero, suc, IfOk}
use Rattle.std.specs.declared.result.Result.{Result}
use Rattle.refusals.specs.declared.Refusal.{Refusal}
use Rattle.refusals.specs.Numbers.{refused}

-- an accepted call answers x, any other the refusal of that number
abbrev pub Answered : {A : Type 0} → ℕ → A → Result A Refusal → Type 0
Answered r x answer = (refused answer ≡ r) × IfOk answer (λ y. y ≡ x)

-- what an accepted call leaves in a list; a refused one leaves what was there
abbrev pub left : {A : Type 0} → ℕ → A → A → A
left zero new old = new
left (suc k) new old = old
