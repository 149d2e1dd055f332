-- A number that is none of 0, 1 and 3 means the honeycomb.
use mathlib.Core.Path.{◌≡◌, refl}
use Prim.Native.Nat.{ℕ, zero, suc}
use Rattle.strip.specs.declared.kinds.Kind.TheVariants.{Honey}
use Rattle.c_values.specs.Kinds.{kind_numbered}
use Rattle.c_values.proofs.kinds.kind_numbered.Goals as goal

other_honey : (k : ℕ) → (k ≡ 0 → ⊥) → (k ≡ 1 → ⊥) → (k ≡ 3 → ⊥) → Honey ≡ kind_numbered k
other_honey zero h j i = absurd (h refl)
other_honey (suc zero) h j i = absurd (j refl)
other_honey (suc (suc zero)) h j i = refl
other_honey (suc (suc (suc zero))) h j i = absurd (i refl)
other_honey (suc (suc (suc (suc k)))) h j i = refl

pub returns : goal.returns
returns c = other_honey _ c.if-number-eq0.false c.if-number-eq1.false c.if-number-eq3.false
