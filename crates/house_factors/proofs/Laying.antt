-- A list that a loop fills with the factors of couplings.
use mathlib.Core.Path.{◌≡◌, refl, sym, ap, ◌∙◌}
use mathlib.Core.Bool.{false}
use mathlib.Core.List.{List, ◌++◌, append-nil}
use Prim.Native.Nat.{ℕ, ◌+◌, ◌<◌}
use native.Mathlib.Numerals.{add-one}
use native.Mathlib.Omega.{arith}
use lib.Ieee.{Float, nan}
use lib.ListN.{length, get_or, set, drop_of_length-le}
use Rattle.list_laws.specs.Front.{over}
use Rattle.list_laws.proofs.Laws.Front.{over-more}
use Rattle.list_laws.specs.Tabulate.{tabulate}
use Rattle.list_laws.proofs.Laws.Tabulate.{tabulate_suc, tabulate-length}
use Rattle.house_factors.specs.Factors.{factor_of, single_factors}

-- the first e of them
abbrev pub laid : (couplings : List Float) (e : ℕ) → List Float
laid couplings e = tabulate (λ i. factor_of (get_or couplings i nan) false) e

module _ (couplings before : List Float) where
  pub laid_none : before ≡ over (laid couplings 0) before
  unfolding tabulate
  laid_none = refl

  pub laid_more : (l : List Float) (e : ℕ) (x : Float) → l ≡ over (laid couplings e) before → e < length before
      → x ≡ factor_of (get_or couplings e nan) false → set l e x ≡ over (laid couplings (e + 1)) before
  laid_more l e x p b q =
      let f : ℕ → Float = λ i. factor_of (get_or couplings i nan) false in
      rw (p, q, add-one e, tabulate_suc f e) (over-more (tabulate f e) before e (f e) (sym (tabulate-length f e)) b)

  pub laid-all : (e : ℕ) → e ≡ length couplings → length before ≡ length couplings → over (laid couplings e) before ≡ single_factors couplings
  unfolding single_factors
  laid-all e p q =
      let l = tabulate-length (λ i. factor_of (get_or couplings i nan) false) e in
      ap (λ (k : List Float). laid couplings e ++ k) (drop_of_length-le before {i = length (laid couplings e)} (omega arith))
      ∙ append-nil (laid couplings e)
      ∙ ap (laid couplings) p
