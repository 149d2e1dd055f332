-- What an answer that was told says of the refusal's number and of the references.
use mathlib.Core.Path.{◌≡◌, subst}
use mathlib.Core.List.{List}
use Prim.Native.Nat.{ℕ}
use lib.Ieee.{Float}
use Rattle.std.specs.declared.result.Result.{Result}
use Rattle.refusals.specs.declared.Refusal.{Refusal}
use Rattle.totals_call.specs.Calls.{Enumerated, EnumeratedEach, Sampled, HouseEnumerated, HouseEnumeratedEach, HouseSampled}
use Rattle.c_values.specs.declared.options.Options.{Options}
use Rattle.c_answers.specs.Numbers.{Tells}
use Rattle.c_answers.proofs.Laws.Numbers.{told-refused}

-- what holds of options and an answer holds of what these equal
carried : (F : Options → Type 0) {o o' : Options} → o ≡ o' → F o → F o'
carried F e g = subst F e g

module _ {n floor : ℕ} {a b : List ℕ} {m : List Float} {us vs : List ℕ} {betas factors : List Float} {o o' : Options} {answer : Result ℕ Refusal} {r count count' : ℕ} (e : o ≡ o') where
  pub enumerated-told : {squares squares' fourths fourths' work work' : List Float}
      → Enumerated n floor a b m us vs betas factors o.manner o.arrangement o.caller answer squares squares' fourths fourths' work work' → Tells answer r count count'
      → ((x : Result ℕ Refusal) × Tells x r count count' × Enumerated n floor a b m us vs betas factors o'.manner o'.arrangement o'.caller x squares squares' fourths fourths' work work') × ((r ≡ 0 → ⊥) → count' ≡ count)
  enumerated-told {squares} {squares'} {fourths} {fourths'} {work} {work'} g t =
      ((answer, t, carried (λ (x : Options). Enumerated n floor a b m us vs betas factors x.manner x.arrangement x.caller answer squares squares' fourths fourths' work work') e g), told-refused _ _ g.call.answer t)

  pub stored-told : {stored stored' work work' : List Float} → EnumeratedEach n floor a b m us vs betas factors o.manner o.arrangement o.caller answer stored stored' work work' → Tells answer r count count'
      → ((x : Result ℕ Refusal) × Tells x r count count' × EnumeratedEach n floor a b m us vs betas factors o'.manner o'.arrangement o'.caller x stored stored' work work') × ((r ≡ 0 → ⊥) → count' ≡ count)
  stored-told {stored} {stored'} {work} {work'} g t =
      ((answer, t, carried (λ (x : Options). EnumeratedEach n floor a b m us vs betas factors x.manner x.arrangement x.caller answer stored stored' work work') e g), told-refused _ _ g.call.answer t)

  pub sampled-told : {seed from to samples : ℕ} {squares squares' fourths fourths' work work' : List Float}
      → Sampled n floor a b m us vs betas factors o.manner o.arrangement o.caller seed from to samples answer squares squares' fourths fourths' work work' → Tells answer r count count'
      → ((x : Result ℕ Refusal) × Tells x r count count' × Sampled n floor a b m us vs betas factors o'.manner o'.arrangement o'.caller seed from to samples x squares squares' fourths fourths' work work') × ((r ≡ 0 → ⊥) → count' ≡ count)
  sampled-told {seed} {from} {to} {samples} {squares} {squares'} {fourths} {fourths'} {work} {work'} g t =
      ((answer, t, carried (λ (x : Options). Sampled n floor a b m us vs betas factors x.manner x.arrangement x.caller seed from to samples answer squares squares' fourths fourths' work work') e g), told-refused _ _ g.call.answer t)

-- the same of house calls
module _ {n floor : ℕ} {a b : List ℕ} {m : List Float} {us vs : List ℕ} {betas : List Float} {o o' : Options} {answer : Result ℕ Refusal} {r count count' : ℕ} (e : o ≡ o') where
  pub house-enumerated-told : {squares squares' fourths fourths' work work' : List Float}
      → HouseEnumerated n floor a b m us vs betas o.manner o.arrangement o.caller answer squares squares' fourths fourths' work work' → Tells answer r count count'
      → ((x : Result ℕ Refusal) × Tells x r count count' × HouseEnumerated n floor a b m us vs betas o'.manner o'.arrangement o'.caller x squares squares' fourths fourths' work work') × ((r ≡ 0 → ⊥) → count' ≡ count)
  house-enumerated-told {squares} {squares'} {fourths} {fourths'} {work} {work'} g t =
      ((answer, t, carried (λ (x : Options). HouseEnumerated n floor a b m us vs betas x.manner x.arrangement x.caller answer squares squares' fourths fourths' work work') e g), told-refused _ _ g.call.answer t)

  pub house-stored-told : {stored stored' work work' : List Float} → HouseEnumeratedEach n floor a b m us vs betas o.manner o.arrangement o.caller answer stored stored' work work' → Tells answer r count count'
      → ((x : Result ℕ Refusal) × Tells x r count count' × HouseEnumeratedEach n floor a b m us vs betas o'.manner o'.arrangement o'.caller x stored stored' work work') × ((r ≡ 0 → ⊥) → count' ≡ count)
  house-stored-told {stored} {stored'} {work} {work'} g t =
      ((answer, t, carried (λ (x : Options). HouseEnumeratedEach n floor a b m us vs betas x.manner x.arrangement x.caller answer stored stored' work work') e g), told-refused _ _ g.call.answer t)

  pub house-sampled-told : {seed from to samples : ℕ} {squares squares' fourths fourths' work work' : List Float}
      → HouseSampled n floor a b m us vs betas o.manner o.arrangement o.caller seed from to samples answer squares squares' fourths fourths' work work' → Tells answer r count count'
      → ((x : Result ℕ Refusal) × Tells x r count count' × HouseSampled n floor a b m us vs betas o'.manner o'.arrangement o'.caller seed from to samples x squares squares' fourths fourths' work work') × ((r ≡ 0 → ⊥) → count' ≡ count)
  house-sampled-told {seed} {from} {to} {samples} {squares} {squares'} {fourths} {fourths'} {work} {work'} g t =
      ((answer, t, carried (λ (x : Options). HouseSampled n floor a b m us vs betas x.manner x.arrangement x.caller seed from to samples answer squares squares' fourths fourths' work work') e g), told-refused _ _ g.call.answer t)
