-- Searches and sums over all configurations, chunk by chunk.
use Rattle.std.specs.Prelude.{◌≡◌, refl, Bool, true, false, ◌||◌, List, ℕ, zero, suc, ◌+◌, ◌*◌, ◌^◌, ◌≤◌, Float}
use Rattle.std.proofs.Common.{sym, ap, ◌∙◌, add-zero, zero-add, add-suc, suc-mul, zero-mul, pow_mono, arith}
use Rattle.std.proofs.Math.Nat.{sub-zero}
use Rattle.list_laws.specs.Search.{some}
use Rattle.list_laws.specs.Tabulate.{tabulate}
use Rattle.transfer_matrix.specs.Job.{Job}
use Rattle.transfer_matrix.specs.Rounded.{ieee}
use Rattle.transfer_matrix.specs.Totals.{chunk_size, chunk_count, enumerated, sampled}
use Rattle.bounds.proofs.Laws.Chunks.{chunks_cover}
use Rattle.totals_configuration.specs.Powers.{unsound_betas}
use Rattle.totals_chunks.specs.Totals.{all_chunks, unsound_chunks, totals_over}

or_assoc : (a b c : Bool) → ((a || b) || c) ≡ (a || (b || c))
or_assoc true b c = refl
or_assoc false b c = refl

or_none : (a : Bool) → (a || false) ≡ a
or_none true = refl
or_none false = refl

some_add : (U : ℕ → Bool) (m n : ℕ) → some U (m + n) ≡ (some U m || some (λ j. U (m + j)) n)
unfolding some
some_add U m zero = rw add-zero (sym (or_none (some U m)))
some_add U m (suc n) = rw (add-suc, some_add U m n) (or_assoc (some U m) (some (λ j. U (m + j)) n) (U (m + n)))

-- what is found block by block
some-blocks : (U : ℕ → Bool) (size n : ℕ) → some (λ i. some (λ j. U (i * size + j)) size) n ≡ some U (n * size)
unfolding some
some-blocks U size zero = rw zero-mul
some-blocks U size (suc n) =
    let e : suc n * size ≡ n * size + size = suc-mul n size in
    rw (e, some_add U (n * size) size, some-blocks U size n)

-- the configurations of all chunks are all configurations: in a search,
pub all-unsound : (J : ℕ → ℕ → Job Float) (us vs : List ℕ) (betas free : ℕ)
    → unsound_chunks (λ i j. J (i * chunk_size free + j)) us vs betas (all_chunks free) ≡ some (λ x. unsound_betas (J x) us vs betas) (2 ^ free)
all-unsound J us vs betas free =
    simp (zero-add, sub-zero)
    (some-blocks (λ x. unsound_betas (J x) us vs betas) (chunk_size free) (chunk_count free) ∙ ap (some (λ x. unsound_betas (J x) us vs betas)) (chunks_cover free))

-- and in a sum.
pub all_totals : (c : ℕ → ℕ → Float) (free n : ℕ) (power : Float → Float)
    → totals_over (all_chunks free) (λ i j. c (i * chunk_size free + j)) n power ≡ tabulate (λ k. enumerated ieee power free (λ x. c x k)) n
unfolding enumerated sampled
all_totals c free n power = simp (zero-add, sub-zero)

-- their numbers fit
pub all_fit : (free : ℕ) → free ≤ 34 → chunk_count free * chunk_size free ≤ 18446744073709551615
all_fit free few = let m : 2 ^ free ≤ 2 ^ 34 = pow_mono few in omega (arith, chunks_cover free)
