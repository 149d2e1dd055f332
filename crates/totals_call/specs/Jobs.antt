-- The jobs of a call for totals, one for each configuration and beta, and what is summed or stored of their correlations.
-- The kept edges come as two lists of ends, the lent factors as document 01 lays them out.
use Rattle.std.specs.Prelude.{Bool, cond, List, ℕ, ◌+◌, ◌-◌, ◌*◌, ◌/◌, ◌%◌, ◌^◌, Float, length}
use Rattle.std.specs.Float.{nan}
use Rattle.list_laws.specs.Search.{some}
use Rattle.list_laws.specs.Tabulate.{tabulate}
use Rattle.forest.specs.FreeEdges.{free_count, bit_of}
use Rattle.transfer_matrix.specs.Job.{Job, Manner}
use Rattle.transfer_matrix.specs.Configuration.{configured, enumerated_minus, sampled_minus}
use Rattle.transfer_matrix.specs.Rounded.{ieee}
use Rattle.transfer_matrix.specs.Totals.{enumerated, sampled}
use Rattle.totals_configuration.specs.Powers.{correlation_at, unsound_betas}
use Rattle.totals_chunks.specs.declared.Chunks.{Chunks}
use Rattle.totals_chunks.specs.Totals.{unsound_chunks, totals_over}

-- How many correlations are stored.
abbrev pub stored_count : (early late us : List ℕ) → ℕ → ℕ
stored_count early late us betas = betas * length us * 2 ^ free_count early late

-- Which edges are minus in configuration j of chunk i.
abbrev pub minus_in : (early late : List ℕ) → Chunks → (i j : ℕ) → ℕ → Bool
minus_in early late k i j = cond k.drawn (sampled_minus k.seed (length early) i j) (enumerated_minus (bit_of early late) (i * k.size + j))

module _ (n w : ℕ) (early late : List ℕ) (factors : List Float) (manner : Manner) where
  -- The job at beta b, with the sign of each edge by a rule.
  abbrev pub job_signed : (ℕ → Bool) → ℕ → Job Float
  job_signed minus b = record { last = n - 1; window = w; edges = configured nan early late factors b minus; manner = manner }

  -- That of configuration x, which gives an edge minus where the forest gives it a bit and that bit of x is set; of a chunk's sample, and of configuration j of chunk i.
  abbrev pub job_enumerated : ℕ → ℕ → Job Float
  job_enumerated x = job_signed (enumerated_minus (bit_of early late) x)

  abbrev pub job_sampled : (seed chunk sample : ℕ) → ℕ → Job Float
  job_sampled seed chunk sample = job_signed (sampled_minus seed (length early) chunk sample)

  abbrev pub job_in : Chunks → (i j : ℕ) → ℕ → Job Float
  job_in k i j = job_signed (minus_in early late k i j)

  module _ (us vs : List ℕ) (betas : ℕ) where
    -- Some pair's Z is not finite and above zero, at any beta and configuration.
    abbrev pub unsound_enumeration : Bool
    unsound_enumeration = some (λ x. unsound_betas (job_enumerated x) us vs betas) (2 ^ free_count early late)

    abbrev pub unsound_sampling : (seed from to samples : ℕ) → Bool
    unsound_sampling seed from to samples = some (λ i. some (λ j. unsound_betas (job_sampled seed (from + i) j) us vs betas) samples) (to - from)

    abbrev pub unsound_in : Chunks → Bool
    unsound_in k = unsound_chunks (job_in k) us vs betas k

    -- The totals of a power, at beta times pairs + pair.
    abbrev pub enumerated_totals : (Float → Float) → List Float
    enumerated_totals power =
        tabulate (λ k. enumerated ieee power (free_count early late) (λ x. correlation_at (job_enumerated x) us vs k)) (betas * length us)

    abbrev pub sampled_totals : (seed from to samples : ℕ) → (Float → Float) → List Float
    sampled_totals seed from to samples power =
        tabulate (λ k. sampled ieee power from to samples (λ i j. correlation_at (job_sampled seed i j) us vs k)) (betas * length us)

    abbrev pub totals_in : Chunks → (Float → Float) → List Float
    totals_in k = totals_over k (λ i j. correlation_at (job_in k i j) us vs) (betas * length us)

    -- The correlation of configuration x at (beta times pairs + pair) times 2^free + x.
    abbrev pub stored_correlations : List Float
    stored_correlations =
        tabulate (λ k. correlation_at (job_enumerated (k % 2 ^ free_count early late)) us vs (k / 2 ^ free_count early late)) (stored_count early late us betas)
