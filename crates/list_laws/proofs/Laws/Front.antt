-- Laws of what specs/Front defines.
use Rattle.std.specs.Prelude.{◌≡◌, List, [], ◌∷◌, ◌++◌, ℕ, suc, ◌+◌, ◌-◌, ◌≤◌, ◌<◌, length, drop, get_or, set}
use Rattle.std.proofs.Common.{sym, ◌∙◌, ap, arith, length-append, length-drop, drop-cons, drop_at, get_or-append-add, get_or-drop}
use Rattle.std.proofs.Math.ListN.{get_or-append}
use Rattle.std.proofs.lemmas.List.{set_at}
use Rattle.std.proofs.Math.Seq.{append_snoc}
use Rattle.list_laws.specs.Front.{over}

module _ {A : Type 0} where
  pub over-length : (front buffer : List A) → length front ≤ length buffer → length (over front buffer) ≡ length buffer
  over-length front buffer h = simp (length-append, length-drop) (omega arith)

  -- a store right behind the front is a longer front
  pub over-more : (front buffer : List A) (i : ℕ) (x : A) → i ≡ length front → i < length buffer
      → set (over front buffer) i x ≡ over (front ++ (x ∷ [])) buffer
  over-more front buffer i x e h =
      let l : length (front ++ (x ∷ [])) ≡ suc (length front) = length-append front (x ∷ []) ∙ omega arith in
      let h' : length front < length buffer = omega arith in
      let rest = drop (suc (length front)) buffer in
      ap (λ (b : List A). set (front ++ b) i x) (drop-cons buffer (length front) x h')
      ∙ set_at front (get_or buffer (length front) x) rest x i (sym e)
      ∙ sym (append_snoc front x rest)
      ∙ ap (λ (k : ℕ). (front ++ (x ∷ [])) ++ drop k buffer) (sym l)

  -- behind the front the buffer is as it was
  pub over-behind : (front buffer : List A) (i : ℕ) (z : A) → length front ≤ i → get_or (over front buffer) i z ≡ get_or buffer i z
  over-behind front buffer i z h =
      let e : length front + (i - length front) ≡ i = omega arith in
      ap (λ (j : ℕ). get_or (over front buffer) j z) (sym e)
      ∙ get_or-append-add front (drop (length front) buffer) (i - length front) z
      ∙ get_or-drop (length front) buffer (i - length front) z
      ∙ ap (λ (j : ℕ). get_or buffer j z) e

  -- a front as long as the one before it takes its place
  pub over-over : (front before buffer : List A) → length front ≡ length before → over front (over before buffer) ≡ over front buffer
  over-over front before buffer e =
      ap (λ (l : List A). front ++ l) (drop_at before (drop (length before) buffer) (length front) (sym e) ∙ ap (λ (j : ℕ). drop j buffer) (sym e))

  -- at the front it is the front
  pub over-front : (front buffer : List A) (i : ℕ) (z : A) → i < length front → get_or (over front buffer) i z ≡ get_or front i z
  over-front front buffer i z h = get_or-append front (drop (length front) buffer) z i h
