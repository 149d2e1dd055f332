-- The words of a sample, edge by edge.
use mathlib.Core.Path.{◌≡◌, ap, ◌∙◌}
use mathlib.Core.List.{List}
use Prim.Native.Nat.{ℕ, suc, ◌+◌, ◌-◌, ◌/◌, ◌%◌, ◌^◌, ◌<◌}
use native.Mathlib.Omega.{arith}
use lib.Dec.{eqb}
use Rattle.list_laws.specs.Bits.{bit}
use Rattle.rng.specs.Xoshiro.{output, next}
use Rattle.rng.specs.declared.Drawn.{Drawn}
use Rattle.transfer_matrix.specs.Configuration.{drawn, words_per_sample}
use Rattle.totals_signs.specs.Words.{Word}

pub word_none : (s : List ℕ) (at : Drawn) → at.rng.s ≡ s → Word s 0 at
unfolding drawn
word_none s at e = record { state = e; word = λ b. absurd (omega arith) }

drawn-more : (s : List ℕ) (k j : ℕ) → j ≡ k + 1 → next (drawn s k) ≡ drawn s j
unfolding drawn
drawn-more s k j e = let g : j ≡ suc k = omega arith in rw g

module _ (s : List ℕ) (e : ℕ) (at r : Drawn) (g : Word s e at) where
  pub word_new : e % 64 ≡ 0 → r.word ≡ output at.rng.s → r.rng.s ≡ next at.rng.s → Word s (e + 1) r
  word_new z p q =
      let a : words_per_sample (e + 1) ≡ words_per_sample e + 1 = omega arith in
      let b : words_per_sample e ≡ (e + 1 - 1) / 64 = omega arith in
      record {
        state = q ∙ ap next g.state ∙ drawn-more s (words_per_sample e) (words_per_sample (e + 1)) a;
        word = λ _. p ∙ ap output g.state ∙ ap (λ (k : ℕ). output (drawn s k)) b;
      }

  pub word_same : (e % 64 ≡ 0 → ⊥) → r.word ≡ at.word → r.rng.s ≡ at.rng.s → Word s (e + 1) r
  word_same z p q =
      let a : words_per_sample e ≡ words_per_sample (e + 1) = omega arith in
      let b : (e - 1) / 64 ≡ (e + 1 - 1) / 64 = omega arith in
      let o : 0 < e = omega arith in
      record {
        state = q ∙ g.state ∙ ap (drawn s) a;
        word = λ _. p ∙ g.word o ∙ ap (λ (k : ℕ). output (drawn s k)) b;
      }

-- the bit of edge e is in the current word
pub word-bit : (s : List ℕ) (e : ℕ) (at : Drawn) → Word s (e + 1) at → eqb (at.word / 2 ^ (e % 64) % 2) 1 ≡ bit (e % 64) (output (drawn s (e / 64)))
word-bit s e at g =
    let a : (e + 1 - 1) / 64 ≡ e / 64 = omega arith in
    ap (λ (w : ℕ). eqb (w / 2 ^ (e % 64) % 2) 1) (g.word (omega arith) ∙ ap (λ (k : ℕ). output (drawn s k)) a)
