-- A column on its way, row after row.
use Rattle.std.specs.Prelude.{◌≡◌, ℕ, ◌+◌, ◌≤◌, ◌<◌, Float}
use Rattle.std.proofs.Math.Path.{refl, ap}
use Rattle.std.proofs.Common.{sym, ◌∙◌, add-one, arith, drop_of_length-le}
use mathlib.Core.List.{List, ◌++◌, append-nil}
use Rattle.std.specs.Float.Ieee.{nan}
use Rattle.std.proofs.Math.ListN.{length, get_or, set}
use Rattle.list_laws.specs.Front.{over}
use Rattle.list_laws.proofs.Laws.Front.{over-more, over-behind, over-length}
use Rattle.list_laws.specs.Tabulate.{tabulate}
use Rattle.list_laws.proofs.Laws.Tabulate.{tabulate_suc, tabulate-length}

-- f is what a row leaves where `old` stood, by its index
module _ (f : ℕ → Float → Float) (old : List Float) where
  abbrev pub row : ℕ → Float
  row i = f i (get_or old i nan)

  -- the first i rows, and the rest as it was
  unfoldable pub rows : ℕ → List Float
  rows i = over (tabulate row i) old

  pub no_rows : old ≡ rows 0
  unfolding rows tabulate
  no_rows = refl

  pub rows-length : (i : ℕ) → i ≤ length old → length (rows i) ≡ length old
  unfolding rows
  rows-length i h = let l = tabulate-length row i in over-length (tabulate row i) old (omega arith)

  pub one_more : (i : ℕ) (v v' : List Float) → i < length old → v ≡ rows i → v' ≡ set v i (f i (get_or v i nan)) → v' ≡ rows (i + 1)
  unfolding rows
  one_more i v v' h p q =
      let l : length (tabulate row i) ≡ i = tabulate-length row i in
      let e : get_or v i nan ≡ get_or old i nan = ap (λ (y : List Float). get_or y i nan) p ∙ over-behind (tabulate row i) old i nan (omega arith) in
      q ∙ ap (λ (x : Float). set v i (f i x)) e
      ∙ ap (λ (y : List Float). set y i (row i)) p
      ∙ over-more (tabulate row i) old i (row i) (sym l) h
      ∙ ap (λ (t : List Float). over t old) (sym (tabulate_suc row i) ∙ ap (tabulate row) (sym (add-one i)))

  pub all-rows : (i : ℕ) → i ≡ length old → rows i ≡ tabulate row (length old)
  unfolding rows
  all-rows i e =
      let l : length (tabulate row i) ≡ i = tabulate-length row i in
      ap (λ y. tabulate row i ++ y) (drop_of_length-le old {i = length (tabulate row i)} (omega arith))
      ∙ append-nil (tabulate row i) ∙ ap (tabulate row) e
