-- The words of a chunk, sample by sample.
use mathlib.Core.Path.{◌≡◌, ap, ◌∙◌}
use mathlib.Core.Bool.{Bool}
use mathlib.Core.List.{List}
use Prim.Native.Nat.{ℕ, zero, suc, ◌+◌, ◌*◌, ◌/◌, ◌%◌}
use native.Mathlib.Nat.{add-zero, add-suc, zero-mul}
use native.Mathlib.Omega.{arith}
use Rattle.rng.specs.Xoshiro.{output, streamed}
use Rattle.list_laws.specs.Bits.{bit}
use Rattle.list_laws.specs.Tabulate.{tabulate}
use Rattle.list_laws.proofs.Laws.Tabulate.{tabulate_ext}
use Rattle.transfer_matrix.specs.Configuration.{drawn, words_per_sample, sampled_minus}
use Rattle.totals_sampled.specs.Samples.{sampled_signs}

drawn_add : (s : List ℕ) (a b : ℕ) → drawn (drawn s a) b ≡ drawn s (a + b)
unfolding drawn
drawn_add s a zero = rw add-zero
drawn_add s a (suc b) = rw (add-suc, drawn_add s a b)

pub words_none : (s state : List ℕ) (k : ℕ) → state ≡ s → state ≡ drawn s (0 * k)
unfolding drawn
words_none s state k e = rw zero-mul e

pub words_more : (s state state' : List ℕ) (j k : ℕ) → state ≡ drawn s (j * k) → state' ≡ drawn state k → state' ≡ drawn s ((j + 1) * k)
words_more s state state' j k p q =
    let e : j * k + k ≡ (j + 1) * k = omega arith in
    q ∙ ap (λ (x : List ℕ). drawn x k) p ∙ drawn_add s (j * k) k ∙ ap (drawn s) e

-- the signs that are drawn from there are the sample's
pub signs_are : (seed m chunk j : ℕ) (state : List ℕ) (signs : List Bool) → state ≡ drawn (streamed seed chunk) (j * words_per_sample m)
    → signs ≡ tabulate (λ e. bit (e % 64) (output (drawn state (e / 64)))) m → signs ≡ sampled_signs seed m chunk j
unfolding sampled_minus
signs_are seed m chunk j state signs p q =
    q ∙ tabulate_ext _ _ m
    (λ e b. ap (λ (x : List ℕ). bit (e % 64) (output x)) (ap (λ (x : List ℕ). drawn x (e / 64)) p ∙ drawn_add (streamed seed chunk) (j * words_per_sample m) (e / 64)))
