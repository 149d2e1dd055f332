-- A list whose first k entries a loop has entered.
use mathlib.Core.Path.{◌≡◌, refl, ◌∙◌}
use mathlib.Core.List.{List}
use mathlib.Core.Logic.{dite}
use Prim.Native.Nat.{ℕ, ◌+◌, ◌<◌}
use native.Mathlib.Decide.{dec_lt}
use native.Mathlib.Omega.{arith}
use lib.ListN.{length, get_or, set, length-set}
use lib.Seq.{get_or-set_same, get_or-set_other}

module _ {A : Type 0} (z : A) (f : ℕ → A) where
  pub record Entered (l : List A) (long k : ℕ) : Type 0 where
    pub same : length l ≡ long
    pub at : (j : ℕ) → j < k → get_or l j z ≡ f j

  pub entered_none : (l : List A) → Entered l (length l) 0
  entered_none l = record { same = refl; at = λ j b. absurd (omega arith) }

  pub entered_more : (l : List A) (long k : ℕ) (a : A) → Entered l long k → k < long → a ≡ f k → Entered (set l k a) long (k + 1)
  entered_more l long k a g b e =
      let s = g.same in
      record {
        same = length-set l k a ∙ s;
        at = λ j c.
            dite (dec_lt j k)
            (λ d. get_or-set_other l k j a z (λ x. omega arith) ∙ g.at j d)
            (λ d. let x : j ≡ k = omega arith in rw x (get_or-set_same l k a z (omega arith) ∙ e));
      }
