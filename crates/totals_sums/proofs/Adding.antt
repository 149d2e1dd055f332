-- Lists that a loop adds terms to, entry by entry.
use mathlib.Core.Path.{◌≡◌, refl, sym, ap, ◌∙◌}
use mathlib.Core.List.{List, [], ◌∷◌, ◌++◌, append-nil}
use mathlib.Core.Logic.{inr}
use Prim.Native.Nat.{ℕ, ◌+◌, ◌<◌}
use native.Mathlib.Numerals.{add-one}
use native.Mathlib.Omega.{arith}
use lib.Ieee.{Float, nan, binary64, add}
use lib.ListN.{length, get_or, set, drop_of_length-le}
use Rattle.list_laws.specs.Front.{over}
use Rattle.list_laws.proofs.Laws.Front.{over-more, over-behind}
use Rattle.list_laws.specs.Part.{put}
use Rattle.list_laws.proofs.Laws.Part.{put_out, fill_one}
use Rattle.list_laws.specs.Tabulate.{tabulate}
use Rattle.list_laws.proofs.Laws.Tabulate.{tabulate_suc, tabulate-length}

module _ (l : List Float) (term : ℕ → Float) where
  -- ---- from an index on

  module _ (at : ℕ) where
    abbrev pub sum_at : ℕ → Float
    sum_at i = add binary64 (get_or l (at + i) nan) (term i)

    pub added_more : (v : List Float) (p : ℕ) (x : Float) → v ≡ put l at (tabulate sum_at p) → at + p < length l → x ≡ term p
        → set v (at + p) (add binary64 (get_or v (at + p) nan) x) ≡ put l at (tabulate sum_at (p + 1))
    added_more v p x e b q =
        let t = tabulate-length sum_at p in
        let old : get_or v (at + p) nan ≡ get_or l (at + p) nan =
        ap (λ (k : List Float). get_or k (at + p) nan) e ∙ put_out l at (tabulate sum_at p) (omega arith) (at + p) nan (inr (omega arith)) in
        ap (λ (k : List Float). set k (at + p) (add binary64 (get_or v (at + p) nan) x)) e
        ∙ fill_one l at sum_at p (add binary64 (get_or v (at + p) nan) x) b (rw (old, q))

  -- ---- all of them

  abbrev pub sum_of : ℕ → Float
  sum_of k = add binary64 (get_or l k nan) (term k)

  pub summed-none : l ≡ over (tabulate sum_of 0) l
  unfolding tabulate
  summed-none = refl

  pub summed-more : (v : List Float) (k : ℕ) (x : Float) → v ≡ over (tabulate sum_of k) l → k < length l → x ≡ term k
      → set v k (add binary64 (get_or v k nan) x) ≡ over (tabulate sum_of (k + 1)) l
  summed-more v k x e b q =
      let t = tabulate-length sum_of k in
      let old : get_or v k nan ≡ get_or l k nan = ap (λ (y : List Float). get_or y k nan) e ∙ over-behind (tabulate sum_of k) l k nan (omega arith) in
      let new : add binary64 (get_or v k nan) x ≡ sum_of k = rw (old, q) in
      ap (λ (y : List Float). set y k (add binary64 (get_or v k nan) x)) e
      ∙ over-more (tabulate sum_of k) l k (add binary64 (get_or v k nan) x) (sym t) b
      ∙ ap (λ (y : Float). over (tabulate sum_of k ++ (y ∷ [])) l) new
      ∙ ap (λ (y : List Float). over y l) (sym (tabulate_suc sum_of k))
      ∙ ap (λ (j : ℕ). over (tabulate sum_of j) l) (sym (add-one k))

  pub summed-all : (k : ℕ) → k ≡ length l → over (tabulate sum_of k) l ≡ tabulate sum_of (length l)
  summed-all k e =
      let t = tabulate-length sum_of k in
      ap (λ (y : List Float). tabulate sum_of k ++ y) (drop_of_length-le l {i = length (tabulate sum_of k)} (omega arith))
      ∙ append-nil (tabulate sum_of k) ∙ ap (tabulate sum_of) e
