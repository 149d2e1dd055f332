-- What the format describes: the numbers and sums that a run record can hold.
use Rattle.std.specs.Prelude.{◌≡◌, true, false, ℕ, ◌*◌, ◌^◌, ◌≤◌, ◌<◌, T, Float}
use Rattle.std.specs.Float.{binary64}
use Rattle.std.specs.Float.Ieee.{fits}
use Rattle.limits.specs.Limits.{most_betas, most_pairs, most_samples}
use Rattle.estimate.specs.Estimates.{number, is_in_order}
use Rattle.run_record.specs.declared.Head.{Head}
use Rattle.run_record.specs.Records.{chunks_of, per_chunk}
use Rattle.run_record.specs.Reading.{is_minus_zero}

-- Sums of one chunk: doubles, 0 ≤ fourth powers ≤ squares ≤ samples, and neither is -0.0.
pub record Sums (samples : ℕ) (squares fourths : Float) : Type 0 where
  pub double-squares : T (fits binary64 squares)
  pub double-fourths : T (fits binary64 fourths)
  pub ordered : is_in_order (number samples) squares fourths ≡ true
  pub plain_squares : is_minus_zero squares ≡ false
  pub plain_fourths : is_minus_zero fourths ≡ false

-- Numbers that fit their fields and the limits, and the sums of every chunk, beta and pair.
pub record Described (h : Head) (squares fourths : (chunk place : ℕ) → Float) : Type 0 where
  pub seed : h.seed < 2 ^ 64
  pub end : h.end < 2 ^ 64
  pub named : h.samples < 2 ^ 32
  pub betas : h.betas ≤ most_betas
  pub pairs : h.pairs ≤ most_pairs
  pub range : h.start ≤ h.end
  pub samples : chunks_of h * h.samples ≤ most_samples
  pub sums : (c k : ℕ) → c < chunks_of h → k < per_chunk h → Sums h.samples (squares c k) (fourths c k)
