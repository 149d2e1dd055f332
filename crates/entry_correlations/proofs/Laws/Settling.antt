-- What a refusal leaves, by its number.
use Rattle.std.specs.Prelude.{◌≡◌, true, false, List, ℕ, Float}
use Rattle.std.proofs.Common.{sym, ap, ◌∙◌, arith, ne_eqb}
use Rattle.refusals.specs.Key.{Key}
use Rattle.refusals.specs.Refusal.{checks}
use Rattle.refusals.proofs.Laws.Later.{answerable}
use Rattle.entry_correlations.specs.Correlations.{settled, cleared}

-- a refusal by a check that stands before 14 leaves the lists as they were
pub settled_not : (r : ℕ) (new old : List Float) → (r ≡ 0 → ⊥) → (r ≡ 14 → ⊥) → old ≡ settled r new old
unfolding settled
settled_not r new old p q = rw (ne_eqb r 0 p, ne_eqb r 14 q)

pub cleared_not : (r end : ℕ) (old : List Float) → (r ≡ 0 → ⊥) → (r ≡ 14 → ⊥) → old ≡ cleared r end old
unfolding cleared
cleared_not r end old p q = rw (ne_eqb r 0 p, ne_eqb r 14 q)

-- an answer of checks none of which answers 14
pub not_14 : (concerned : List Key) (k : ℕ) → answerable checks concerned 14 ≡ false → ((k ≡ 0 → ⊥) → answerable checks concerned k ≡ true) → k ≡ 14 → ⊥
not_14 concerned k f t p =
    let v : true ≡ false = sym (t (λ z. omega arith)) ∙ ap (answerable checks concerned) p ∙ f in
    (let z : ◌≡◌ {A = ℕ} 0 1 = cc in omega arith)
