-- What the demands say of a strip of any kind, width, length and boundary, with any magnitudes: its edge list is a graph, and they speak of graphs.
use Rattle.std.specs.Prelude.{◌≡◌, refl, true, false, List, [], ℕ, ◌*◌, ◌^◌, ◌≤◌, ◌<◌, Float, length, get_or}
use Rattle.std.specs.declared.result.Result.TheVariants.{Ok}
use Rattle.std.specs.declared.option.Option.TheVariants.{Some}
use Rattle.std.specs.Float.{nan, binary64}
use Rattle.plan_layout.specs.declared.Arrangement.{Arrangement}
use Rattle.limits.specs.declared.Caller.{Caller}
use Rattle.rounding.specs.Powers.{Ordered}
use Rattle.transfer_matrix.specs.Job.{Job}
use Rattle.strip.specs.declared.strip.Strip.{Strip}
use Rattle.strip_bonds.specs.Edges.{edges, early_ends, late_ends}
use Rattle.entry_correlations.specs.Correlations.{job_given, Correlated}
use Rattle.entry_correlations.specs.declared.Manner.{Manner}
use Rattle.totals_call.specs.Calls.{Enumerated, EnumeratedEach, Sampled}
use Rattle.error_bound.specs.Bound.{ErrorBound, error_bound_of}
use Rattle.demands.proofs.Configurations.{free, configuration, drawn_configuration}
use Rattle.demands.specs.OneJob.{Exact, Bounded}
use Rattle.demands.specs.Mirror.{Mirrored}
use Rattle.demands.proofs.Accurate.{Accurate}
use Rattle.demands.proofs.Correlations.{result-is, result-exact, result-within, result-mirrored, result-accurate}
use Rattle.demands.proofs.Exhaustive.{enumeration_exact, enumeration_bounded, enumeration_within, enumeration_mirrored, enumeration_accurate}
use Rattle.demands.proofs.Storing.{stored_exact, stored-at, stored-within, stored-mirrored, stored-accurate}
use Rattle.demands.proofs.Sampling.{sampling_exact, sampling_bounded, sampling_within, sampling_mirrored, sampling_accurate}

-- Demands 2 and 3 of a job and its pairs, the mirror rule, and how far its answers are from the textbook's, where a bound is told.
pub record Demanded (J : Job Float) (us vs : List ℕ) (told : ErrorBound) : Type 0 where
  pub exact : Exact J us vs
  pub bounded : Bounded J us vs
  pub mirrored : Mirrored J us vs
  pub accurate : (bound : Float) → told ≡ Ok (Some bound) → Accurate J us vs bound

-- A strip, and what else its jobs have. The magnitudes may be 1.0 throughout, drawn by dilution, or the caller's own.
module _ (s : Strip) (floor : ℕ) (m : List Float) (us vs : List ℕ) (factors : List Float) (manner : Manner) (arrangement : Arrangement) (caller : Caller) where
  abbrev n : ℕ
  n = s.w * s.l

  abbrev a : List ℕ
  a = early_ends (edges s)

  abbrev b : List ℕ
  b = late_ends (edges s)

  -- Of every accepted call of `correlations`,
  pub strip_result : {results results' work work' : List Float} → Correlated n floor a b m us vs factors manner arrangement caller 0 results results' work work'
      → Demanded (job_given n floor a b m factors manner) us vs (error_bound_of n floor a b m [] factors false)
  strip_result call =
      record {
        exact = result-exact call refl;
        bounded = result-within call refl;
        mirrored = result-mirrored call refl;
        accurate = λ bound told. record { correlation = λ i l. rw (result-is call refl i l) at (result-accurate call refl bound told i l) };
      }

  module _ (betas : List Float) where
    abbrev told : ErrorBound
    told = error_bound_of n floor a b m betas factors true

    -- of `exhaustive`, every configuration and beta,
    pub strip_enumeration : {count : ℕ} {squares squares' fourths fourths' work work' : List Float}
        → Enumerated n floor a b m us vs betas factors manner arrangement caller (Ok count) squares squares' fourths fourths' work work'
        → (x beta : ℕ) → x < 2 ^ free a b m → beta < length betas → Demanded (configuration n floor a b m factors manner x beta) us vs told
    strip_enumeration call x beta h l =
        record {
          exact = enumeration_exact call x beta h l;
          bounded = enumeration_within call x beta h l;
          mirrored = enumeration_mirrored call x beta h l;
          accurate = λ bound e. enumeration_accurate call bound e x beta h l;
        }

    -- whose totals are in order too,
    pub strip_totals : {count : ℕ} {squares squares' fourths fourths' work work' : List Float}
        → Enumerated n floor a b m us vs betas factors manner arrangement caller (Ok count) squares squares' fourths fourths' work work'
        → (k : ℕ) → k < length betas * length us → Ordered binary64 (get_or fourths' k nan) (get_or squares' k nan) count
    strip_totals call = enumeration_bounded call

    -- of `exhaustive_c`, the same,
    pub strip_stored : {count : ℕ} {stored stored' work work' : List Float}
        → EnumeratedEach n floor a b m us vs betas factors manner arrangement caller (Ok count) stored stored' work work'
        → (x beta : ℕ) → x < 2 ^ free a b m → beta < length betas → Demanded (configuration n floor a b m factors manner x beta) us vs told
    strip_stored call x beta h l =
        record {
          exact = stored_exact call x beta h l;
          bounded = stored-within call x beta h l;
          mirrored = stored-mirrored call x beta h l;
          accurate = λ bound e. record { correlation = λ p k. rw (stored-at call x beta p h l k) at (stored-accurate call bound e x beta p h l k) };
        }

    -- and of `sample`, every sample and beta, and its totals.
    pub strip_sampling : {seed from to samples count : ℕ} {squares squares' fourths fourths' work work' : List Float}
        → Sampled n floor a b m us vs betas factors manner arrangement caller seed from to samples (Ok count) squares squares' fourths fourths' work work'
        → (chunk j beta : ℕ) → from ≤ chunk → chunk < to → j < samples → beta < length betas
        → Demanded (drawn_configuration n floor a b m factors manner seed chunk j beta) us vs told
    strip_sampling call chunk j beta u v i l =
        record {
          exact = sampling_exact call chunk j beta u v i l;
          bounded = sampling_within call chunk j beta u v i l;
          mirrored = sampling_mirrored call chunk j beta u v i l;
          accurate = λ bound e. sampling_accurate call bound e chunk j beta u v i l;
        }

    pub strip_sampled_totals : {seed from to samples count : ℕ} {squares squares' fourths fourths' work work' : List Float}
        → Sampled n floor a b m us vs betas factors manner arrangement caller seed from to samples (Ok count) squares squares' fourths fourths' work work'
        → (k : ℕ) → k < length betas * length us → Ordered binary64 (get_or fourths' k nan) (get_or squares' k nan) count
    strip_sampled_totals call = sampling_bounded call
