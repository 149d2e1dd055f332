-- A name compared with the words that mean a kind, one after the other.
use mathlib.Core.Path.{◌≡◌, refl, sym, ap, ◌∙◌}
use mathlib.Core.Bool.{Bool, true, false, cond, ◌||◌, ◌&&◌}
use mathlib.Core.List.{List, [], ◌∷◌}
use Prim.Native.Nat.{ℕ}
use Prim.Native.String.{String}
use native.Mathlib.Omega.{arith}
use lib.Dec.{eqb}
use borrow.Author.Tests.{eq-eqb, eqb-true}
use Rattle.refusals.proofs.Laws.First.{told}
use Rattle.strip.specs.Spelling.{spelled}
use Rattle.strip.specs.Names.{same, is_word, parsed}
use Rattle.strip.specs.declared.kinds.Kind.TheVariants.{Square, Tri, Honey, Eight}
use Rattle.strip.specs.declared.kinds.Kind.{Kind}
use Rattle.std.specs.Prelude.{Option, Some, None}

same_self : (a : List ℕ) → same a a ≡ true
same_self [] = refl
same_self (x ∷ a) = rw (eq-eqb x x refl) (same_self a)

same-one : (a b : List ℕ) → same a b ≡ true → a ≡ b
same-one [] [] h = refl
same-one [] (y ∷ b) h = absurd (let z : ◌≡◌ {A = ℕ} 0 1 = cc in omega arith)
same-one (x ∷ a) [] h = absurd (let z : ◌≡◌ {A = ℕ} 0 1 = cc in omega arith)
same-one (x ∷ a) (y ∷ b) h = go (eqb x y) refl (same-one a b) h
  where
    go : (t : Bool) → eqb x y ≡ t → (same a b ≡ true → a ≡ b) → (t && same a b) ≡ true → x ∷ a ≡ y ∷ b
    go true e ih h = let p = eqb-true x y e in let q = ih h in cc
    go false e ih h = absurd (let z : ◌≡◌ {A = ℕ} 0 1 = cc in omega arith)

-- what a comparison answered
same-told : (r : Bool) (a b : List ℕ) → (r ≡ true → a ≡ b) × (a ≡ b → r ≡ true) → r ≡ same a b
same-told true a b h = sym (ap (same a) (sym (h.0 refl)) ∙ same_self a)
same-told false a b h = go (same a b) refl
  where
    go : (t : Bool) → same a b ≡ t → false ≡ t
    go true e = h.1 (same-one a b e)
    go false e = refl

pub word-told : (name : List ℕ) (word : String) (r : Bool) → (r ≡ true → name ≡ spelled word) × (name ≡ spelled word → r ≡ true) → r ≡ is_word name word
word-told name word r h = same-told r name (spelled word) h

pub either : {r s : Bool} (a b : Bool) → r ≡ a → s ≡ b → (r || s) ≡ (a || b)
either a b p q = cc

take_here : {A : Type 0} (t : Bool) (x y : A) → t ≡ true → x ≡ cond t x y
take_here t x y e = rw e

take_past : {A : Type 0} (t : Bool) (z x y : A) → t ≡ false → x ≡ y → x ≡ cond t z y
take_past t z x y e h = rw e h

module _ (name : List ℕ) {a : Bool} (p : a ≡ (is_word name "square" || is_word name "sq")) where
  pub parsed-square : a ≡ true → Some Square ≡ parsed name
  unfolding parsed
  parsed-square t = take_here _ _ _ (told p t)

  module _ (p' : a ≡ false) {b : Bool} (q : b ≡ (is_word name "tri" || is_word name "triangular")) where
    pub parsed_tri : b ≡ true → Some Tri ≡ parsed name
    unfolding parsed
    parsed_tri t = take_past _ _ _ _ (told p p') (take_here _ _ _ (told q t))

    module _ (q' : b ≡ false) {c : Bool} (r : c ≡ (is_word name "honey" || is_word name "honeycomb" || is_word name "hex")) where
      pub parsed_honey : c ≡ true → Some Honey ≡ parsed name
      unfolding parsed
      parsed_honey t = take_past _ _ _ _ (told p p') (take_past _ _ _ _ (told q q') (take_here _ _ _ (told r t)))

      module _ (r' : c ≡ false) {d : Bool} (u : d ≡ is_word name "eight") where
        -- past the words of the other three kinds
        past_three : {k : Option Kind} → k ≡ cond (is_word name "eight") (Some Eight) None → k ≡ parsed name
        unfolding parsed
        past_three e = take_past _ _ _ _ (told p p') (take_past _ _ _ _ (told q q') (take_past _ _ _ _ (told r r') e))

        pub parsed-eight : d ≡ true → Some Eight ≡ parsed name
        parsed-eight t = past_three (take_here _ _ _ (told u t))

        pub parsed-none : d ≡ false → None ≡ parsed name
        parsed-none t = past_three (take_past _ _ _ _ (told u t) refl)
