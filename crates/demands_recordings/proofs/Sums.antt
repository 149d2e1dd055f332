-- The sums of a run's chunks, added from +0.0 in chunk order, are what `sample` leaves over all of them, bit for bit.
use Rattle.std.specs.Prelude.{◌≡◌, ℕ, ◌+◌, ◌-◌, ◌<◌, Float, get_or}
use Rattle.std.proofs.Math.Path.{sym, ap, fun_ext}
use Rattle.std.proofs.Common.{◌∙◌}
use Rattle.std.specs.Float.{nan}
use Rattle.list_laws.proofs.Laws.Tabulate.{tabulate-at}
use Rattle.transfer_matrix.specs.Arithmetic.{sum}
use Rattle.transfer_matrix.specs.Rounded.{ieee}
use Rattle.transfer_matrix.specs.Totals.{square, fourth, chunked, sampled}
use Rattle.totals_configuration.specs.Powers.{correlation_at}
use Rattle.entry_correlations.specs.Correlations.{manner_of}
use Rattle.totals_call.specs.Given.{Given, early, late, window, sums}
use Rattle.totals_call.specs.Jobs.{job_sampled}
use Rattle.totals_call.specs.Calls.{totals_of_drawn}
use Rattle.record_call.specs.Calls.{sums_for}
use Rattle.demands_recordings.proofs.Laws.Squares.{Even, even_square, even_fourth, one_chunk}

module _ (g : Given) (seed from to samples : ℕ) where
  -- the correlation of a chunk's sample, at beta times pairs + pair
  abbrev pub drawn : (k i j : ℕ) → Float
  drawn k i j = correlation_at (job_sampled g.n (window g) (early g) (late g) g.factors (manner_of g.manner) seed i j) g.us g.vs k

  module _ (power : Float → Float) (even : Even power) (k : ℕ) (l : k < sums g) where
    -- of one chunk
    pub chunk_is : (c : ℕ) → sums_for g seed from to samples power c k ≡ sum ieee samples (λ j. power (drawn k (from + c) j))
    chunk_is c =
        tabulate-at (λ x. sampled ieee power (from + c) (from + c + 1) samples (λ i j. drawn x i j)) (sums g) k nan l
        ∙ one_chunk power even (from + c) samples (drawn k)

    whole_is : get_or (totals_of_drawn g seed from to samples power) k nan ≡ sampled ieee power from to samples (drawn k)
    whole_is = tabulate-at (λ x. sampled ieee power from to samples (λ i j. drawn x i j)) (sums g) k nan l

    added : sum ieee (to - from) (λ c. sums_for g seed from to samples power c k) ≡ get_or (totals_of_drawn g seed from to samples power) k nan
    unfolding sampled chunked
    added = ap (sum ieee (to - from)) (fun_ext chunk_is) ∙ sym whole_is

  -- Of squares, and of fourth powers.
  pub squares_add_up : (k : ℕ) → k < sums g
      → sum ieee (to - from) (λ c. sums_for g seed from to samples (square ieee) c k) ≡ get_or (totals_of_drawn g seed from to samples (square ieee)) k nan
  squares_add_up k l = added (square ieee) even_square k l

  pub fourths_add_up : (k : ℕ) → k < sums g
      → sum ieee (to - from) (λ c. sums_for g seed from to samples (fourth ieee) c k) ≡ get_or (totals_of_drawn g seed from to samples (fourth ieee)) k nan
  fourths_add_up k l = added (fourth ieee) even_fourth k l
