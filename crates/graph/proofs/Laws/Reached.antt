-- Laws of what specs/Reached defines.
use Rattle.std.specs.Prelude.{◌≡◌, refl, Option, Some, None, Result, Ok, Err, true, List, ℕ, zero, suc}
use Rattle.std.proofs.Common.{sym, ap, ◌∙◌, arith}
use Rattle.refusals.specs.declared.Refusal.{Refusal}
use Rattle.refusals.specs.Numbers.{number}
use Rattle.refusals.proofs.Laws.Answers.{number-not_zero, number-only}
use Rattle.distance.proofs.Laws.Walks.{distance-only}
use Rattle.graph.specs.Reached.{Distanced}

-- ---- one answer is right

module _ {early late : List ℕ} {u v : ℕ} where
  -- accepted, it is no refusal
  pub distanced_not : (e : Refusal) → Distanced 0 early late u v (Err e) → ⊥
  distanced_not e p = number-not_zero e p.number

  -- refused, it is that refusal
  pub distanced_refused : (k : ℕ) (r : Result (Option ℕ) Refusal) → Distanced (suc k) early late u v r → (e : Refusal) × (r ≡ Err e) × (number e ≡ suc k)
  distanced_refused k (Ok x) p = absurd (let z : 0 ≡ suc k = p.number in omega arith)
  distanced_refused k (Err e) p = (e, refl, p.number)

  pub distanced_only : (refused : ℕ) (r s : Result (Option ℕ) Refusal) → Distanced refused early late u v r → Distanced refused early late u v s → r ≡ s
  distanced_only (suc k) r s p q =
      let x = distanced_refused k r p in
      let y = distanced_refused k s q in
      x.1 ∙ ap Err (number-only x.0 y.0 (x.2 ∙ sym y.2)) ∙ sym y.1
  distanced_only zero (Err e) s p q = absurd (distanced_not e p)
  distanced_only zero (Ok x) (Err e) p q = absurd (distanced_not e q)
  distanced_only zero (Ok x) (Ok y) p q = ap Ok (accepted x y p q)
    where
      accepted : (x y : Option ℕ) → Distanced 0 early late u v (Ok x) → Distanced 0 early late u v (Ok y) → x ≡ y
      accepted (Some j) (Some k) p q = distance-only early late u v (Some j) (Some k) (p.values refl true 0) (q.values refl true 0)
      accepted (Some j) None p q = distance-only early late u v (Some j) None (p.values refl true 0) (q.values refl true 0)
      accepted None (Some k) p q = distance-only early late u v None (Some k) (p.values refl true 0) (q.values refl true 0)
      accepted None None p q = refl
