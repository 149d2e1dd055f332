-- Chunks that have nothing to sweep.
use mathlib.Core.Path.{◌≡◌, sym, ap, ◌∙◌}
use mathlib.Core.Bool.{true, false, not}
use mathlib.Core.List.{List}
use mathlib.Core.Logic.{inl, inr}
use Prim.Native.Nat.{ℕ, ◌+◌, ◌-◌, ◌*◌, ◌<◌}
use native.Mathlib.Omega.{arith}
use lib.Ieee.{Float}
use lib.ListN.{length}
use Rattle.list_laws.proofs.Laws.Search.{none_of}
use Rattle.list_laws.specs.Tabulate.{tabulate}
use Rattle.list_laws.proofs.Laws.Tabulate.{tabulate_ext}
use Rattle.transfer_matrix.specs.Arithmetic.{sum}
use Rattle.transfer_matrix.specs.Job.{Job}
use Rattle.transfer_matrix.specs.Rounded.{ieee}
use Rattle.transfer_matrix.specs.Totals.{square, fourth, chunked, sampled}
use Rattle.totals_configuration.proofs.Laws.Nothing.{none-unsound, no_chunk, no_sample}
use Rattle.totals_configuration.specs.Powers.{unsound_betas}
use Rattle.totals_chunks.specs.declared.Chunks.{Chunks}
use Rattle.totals_chunks.specs.Totals.{unsound_chunks, Idle, Totals}

module _ (k : Chunks) (n : ℕ) (idle : Idle k.first k.end k.size n) where
  pub none-sound : (J : ℕ → ℕ → ℕ → Job Float) (us vs : List ℕ) (betas : ℕ) → n ≡ betas * length us → true ≡ not (unsound_chunks J us vs betas k)
  none-sound J us vs betas e = sym (ap not (none_of _ (k.end - k.first) (λ i l. none_of _ k.size (λ j b. go i l j b idle))))
    where
      go : (i : ℕ) → i < k.end - k.first → (j : ℕ) → j < k.size → Idle k.first k.end k.size n → unsound_betas (J (k.first + i) j) us vs betas ≡ false
      go i l j b (inl h) = absurd (omega arith)
      go i l j b (inr (inl z)) = absurd (omega arith)
      go i l j b (inr (inr z)) = none-unsound (J (k.first + i) j) us vs betas (sym e ∙ z)

  zero_total : (power : Float → Float) (c : ℕ → ℕ → Float) (x : ℕ) → x < n → Idle k.first k.end k.size n
      → ieee.𝟘 ≡ sampled ieee power k.first k.end k.size c
  unfolding sampled chunked
  zero_total power c x b (inl h) =
      let z : k.end - k.first ≡ 0 = omega arith in
      rw z (no_chunk (λ i. sum ieee k.size (λ j. power (c (k.first + i) j))))
  zero_total power c x b (inr (inl z)) = rw z (no_sample (k.end - k.first) (λ i j. power (c (k.first + i) j)))
  zero_total power c x b (inr (inr z)) = absurd (omega arith)

  pub zero_totals : (c : ℕ → ℕ → ℕ → Float) (z : Float) (squares fourths : List Float) → z ≡ ieee.𝟘
      → squares ≡ tabulate (λ _. z) n → fourths ≡ tabulate (λ _. z) n → Totals k c n squares fourths
  zero_totals c z squares fourths e p q = record {
    squared = p ∙ tabulate_ext _ _ n (λ x b. e ∙ zero_total (square ieee) (λ i j. c i j x) x b idle);
    fourthed = q ∙ tabulate_ext _ _ n (λ x b. e ∙ zero_total (fourth ieee) (λ i j. c i j x) x b idle);
  }
