-- A search for what did not pass, step by step.
use Rattle.std.specs.Prelude.{◌≡◌, refl, Bool, true, false, not, ℕ, ◌+◌, ◌<◌}
use Rattle.std.proofs.Common.{sym, ap, ◌∙◌}
use Rattle.list_laws.proofs.Laws.Search as Search
use Rattle.list_laws.specs.Search.{some}
use Rattle.list_laws.proofs.Laws.Search.{some_at}

-- r says whether j passed
module _ (U : ℕ → Bool) (j : ℕ) (r : Bool) (verdict : r ≡ not (U j)) where
  turned : (s u : Bool) → s ≡ not u → not s ≡ u
  turned true true p = sym p
  turned true false p = refl
  turned false true p = refl
  turned false false p = sym p

  pub one-passed : some U j ≡ false → r ≡ true → some U (j + 1) ≡ false
  one-passed g e = Search.miss U j g (not r) (turned r (U j) verdict) (ap not e)

  pub one_failed : (n : ℕ) → j < n → r ≡ false → false ≡ not (some U n)
  one_failed n l e = sym (ap not (some_at U n j l (sym (turned r (U j) verdict) ∙ ap not e)))
