-- A buffer that a loop fills from its front, one mark an iteration; and which of its marks changed.
use mathlib.Core.Path.{◌≡◌, refl, sym, ap, ◌∙◌}
use mathlib.Core.Bool.{Bool, false}
use mathlib.Core.List.{List, [], ◌∷◌, ◌++◌, append-nil}
use mathlib.Core.Logic.{inl, inr, dite}
use Prim.Native.Nat.{ℕ, ◌+◌, ◌<◌}
use native.Mathlib.Decide.{dec_lt}
use native.Mathlib.Numerals.{add-one}
use native.Mathlib.Omega.{arith}
use lib.ListN.{length, get_or, set, drop_of_length-le}
use Rattle.list_laws.specs.Front.{over}
use Rattle.list_laws.proofs.Laws.Front.{over-more, over-behind}
use Rattle.list_laws.specs.Tabulate.{tabulate}
use Rattle.list_laws.proofs.Laws.Tabulate.{tabulate_suc, tabulate-length, tabulate-at}
use Rattle.totals_signs.specs.Last.{LastChanged, SamePast}

module _ {A : Type 0} (f : ℕ → A) (before : List A) where
  pub filled_none : before ≡ over (tabulate f 0) before
  unfolding tabulate
  filled_none = refl

  pub filled_more : (l : List A) (e : ℕ) (x : A) → l ≡ over (tabulate f e) before → e < length before → x ≡ f e → set l e x ≡ over (tabulate f (e + 1)) before
  filled_more l e x p b q =
      ap (λ (k : List A). set k e x) p
      ∙ over-more (tabulate f e) before e x (sym (tabulate-length f e)) b
      ∙ ap (λ (y : A). over (tabulate f e ++ (y ∷ [])) before) q
      ∙ ap (λ (k : List A). over k before) (sym (tabulate_suc f e))
      ∙ ap (λ (k : ℕ). over (tabulate f k) before) (sym (add-one e))

  pub filled_all : (e : ℕ) → e ≡ length before → over (tabulate f e) before ≡ tabulate f e
  filled_all e p =
      let l = tabulate-length f e in
      ap (λ (k : List A). tabulate f e ++ k) (drop_of_length-le before {i = length (tabulate f e)} (omega arith)) ∙ append-nil (tabulate f e)

-- ---- the signs that changed

-- one edge more, whose sign is m and was `before`
pub same_more : (minus : ℕ → Bool) (signs : List Bool) (last e r : ℕ) (before m : Bool) → SamePast minus signs last e → m ≡ minus e
    → before ≡ get_or signs e false → LastChanged before m e last r → SamePast minus signs r (e + 1)
same_more minus signs last e r before m g p q (inl h) k a b = absurd (omega arith)
same_more minus signs last e r before m g p q (inr h) k a b =
    let z = h.0 in
    dite (dec_lt k e)
    (λ l. g k (omega arith) l)
    (λ l. let same : k ≡ e = omega arith in rw same (sym p ∙ h.1 ∙ q))

-- what the buffer holds at an edge that is still ahead
pub ahead : (f : ℕ → Bool) (before l : List Bool) (e : ℕ) → l ≡ over (tabulate f e) before → get_or l e false ≡ get_or before e false
ahead f before l e p =
    ap (λ (k : List Bool). get_or k e false) p ∙ over-behind (tabulate f e) before e false (omega (arith, tabulate-length f e))

pub same-all : (minus : ℕ → Bool) (signs l : List Bool) (last n : ℕ) → l ≡ tabulate minus n → SamePast minus signs last n
    → (e : ℕ) → last < e → e < n → get_or l e false ≡ get_or signs e false
same-all minus signs l last n p g e a b = ap (λ (k : List Bool). get_or k e false) p ∙ tabulate-at minus n e false b ∙ g e a b
