-- Calls that count far and sweep nothing: where there is no beta or no pair, nothing goes wrong and nothing is added.
use Rattle.std.specs.Prelude.{◌≡◌, refl, Bool, true, false, not, List, ℕ, zero, suc, ◌*◌, ◌<◌, Float, length}
use Rattle.std.proofs.Common.{sym, ap, ◌∙◌, mul-pos, arith}
use Rattle.std.specs.Float.{nan, binary64}
use Rattle.std.specs.Float.Ieee.{add, round}
use Rattle.list_laws.specs.Search.{some}
use Rattle.list_laws.proofs.Laws.Search.{none_of}
use Rattle.list_laws.specs.Tabulate.{tabulate}
use Rattle.list_laws.proofs.Laws.Tabulate.{tabulated}
use Rattle.transfer_matrix.specs.Arithmetic.{sum}
use Rattle.transfer_matrix.specs.Job.{Job}
use Rattle.transfer_matrix.specs.Rounded.{ieee}
use Rattle.pair_correlations.specs.Sound.{unsound}

pub none-unsound : (J : ℕ → Job Float) (us vs : List ℕ) (betas : ℕ) → betas * length us ≡ 0 → some (λ b. unsound (J b) us vs) betas ≡ false
unfolding unsound
none-unsound J us vs betas z =
    none_of _ betas (λ b l. none_of _ (length us) (λ i k. absurd (let p : 0 < betas * length us = mul-pos (omega arith) (omega arith) in omega arith)))

-- a product with what is above zero
pub no_product : (m n : ℕ) → 0 < n → m * n ≡ 0 → m ≡ 0
no_product zero n p z = refl
no_product (suc m) n p z = absurd (let q : 0 < suc m * n = mul-pos (omega arith) p in omega arith)

-- a search over what never fits
pub never : (U : ℕ → Bool) (n : ℕ) → ((i : ℕ) → U i ≡ false) → true ≡ not (some U n)
never U n h = sym (ap not (none_of U n (λ i l. h i)))

pub empty_list : (l : List Float) (f : ℕ → Float) (n : ℕ) → length l ≡ n → length l ≡ 0 → l ≡ tabulate f n
empty_list l f n e z = tabulated nan l f n e (λ i b. absurd (omega arith))

-- zeros add up to zero
zero_twice : add binary64 ieee.𝟘 ieee.𝟘 ≡ ieee.𝟘
unfolding add round
zero_twice = refl

sum_zeros : (n : ℕ) → sum ieee n (λ _. ieee.𝟘) ≡ ieee.𝟘
unfolding sum
sum_zeros zero = refl
sum_zeros (suc n) = ap (λ (x : Float). add binary64 x ieee.𝟘) (sum_zeros n) ∙ zero_twice

-- no chunk, and chunks of no sample
pub no_chunk : (f : ℕ → Float) → ieee.𝟘 ≡ sum ieee 0 f
unfolding sum
no_chunk f = refl

pub no_sample : (n : ℕ) (f : ℕ → ℕ → Float) → ieee.𝟘 ≡ sum ieee n (λ i. sum ieee 0 (f i))
unfolding sum
no_sample n f = sym (sum_zeros n)
