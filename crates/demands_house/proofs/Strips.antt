-- What the demands say of house calls on a strip of any kind, width, length and boundary, with any magnitudes: its edge list is a graph.
use Rattle.std.specs.Prelude.{true, false, List, [], ℕ, ◌*◌, ◌^◌, ◌≤◌, ◌<◌, Float, length}
use Rattle.std.proofs.Common.{arith}
use Rattle.limits.specs.declared.Caller.{Caller}
use Rattle.strip.specs.declared.strip.Strip.{Strip}
use Rattle.strip_bonds.specs.Edges.{edges, early_ends, late_ends}
use Rattle.std.specs.declared.result.Result.TheVariants.{Ok}
use Rattle.house_factors.specs.Factors.{single_factors}
use Rattle.plan_layout.specs.declared.Arrangement.{Arrangement}
use Rattle.entry_correlations.specs.Correlations.{job_given, HouseCorrelated}
use Rattle.entry_correlations.specs.declared.Manner.{Manner}
use Rattle.totals_call.specs.Calls.{HouseEnumerated, HouseEnumeratedEach, HouseSampled}
use Rattle.error_bound.specs.Bound.{ErrorBound, error_bound_of}
use Rattle.demands.proofs.Configurations.{free}
use Rattle.demands.proofs.Strips.{Demanded, strip_result, strip_enumeration, strip_stored, strip_sampling}
use Rattle.demands_house.specs.Factors.{table_factors, configuration_of, drawn_of}
use Rattle.demands_house.proofs.Lent.{house_correlations_lent, house_enumeration_lent, house-storing-lent, house_sampling_lent}
use Rattle.demands_house.proofs.Laws.Lent.{number_not}

module _ (s : Strip) (floor : ℕ) (m : List Float) (us vs : List ℕ) (manner : Manner) (arrangement : Arrangement) (caller : Caller) where
  abbrev n : ℕ
  n = s.w * s.l

  abbrev a : List ℕ
  a = early_ends (edges s)

  abbrev b : List ℕ
  b = late_ends (edges s)

  -- Of every accepted call of `house_correlations`,
  pub house_strip_result : {couplings results results' work work' : List Float}
      → HouseCorrelated n floor a b m us vs couplings manner arrangement caller 0 results results' work work'
      → Demanded (job_given n floor a b m (single_factors couplings) manner) us vs (error_bound_of n floor a b m [] (single_factors couplings) false)
  house_strip_result {couplings} call =
      strip_result s floor m us vs (single_factors couplings) manner arrangement caller (house_correlations_lent call (λ e. omega arith))

  module _ (betas : List Float) where
    abbrev told : ErrorBound
    told = error_bound_of n floor a b m betas (table_factors a b m betas) true

    -- of `house_exhaustive`, every configuration and beta,
    pub house_strip_enumeration : {count : ℕ} {squares squares' fourths fourths' work work' : List Float}
        → HouseEnumerated n floor a b m us vs betas manner arrangement caller (Ok count) squares squares' fourths fourths' work work'
        → (x beta : ℕ) → x < 2 ^ free a b m → beta < length betas → Demanded (configuration_of n floor a b m betas manner x beta) us vs told
    house_strip_enumeration call =
        strip_enumeration s floor m us vs (table_factors a b m betas) manner arrangement caller betas (house_enumeration_lent call number_not)

    -- of `house_exhaustive_c`, the same,
    pub house_strip_stored : {count : ℕ} {stored stored' work work' : List Float}
        → HouseEnumeratedEach n floor a b m us vs betas manner arrangement caller (Ok count) stored stored' work work'
        → (x beta : ℕ) → x < 2 ^ free a b m → beta < length betas → Demanded (configuration_of n floor a b m betas manner x beta) us vs told
    house_strip_stored call =
        strip_stored s floor m us vs (table_factors a b m betas) manner arrangement caller betas (house-storing-lent call number_not)

    -- and of `house_sample`, every sample and beta. That the totals are in order is `house-enumeration-bounded` and `house-sampling-bounded`, of any graph.
    pub house_strip_sampling : {seed from to samples count : ℕ} {squares squares' fourths fourths' work work' : List Float}
        → HouseSampled n floor a b m us vs betas manner arrangement caller seed from to samples (Ok count) squares squares' fourths fourths' work work'
        → (chunk j beta : ℕ) → from ≤ chunk → chunk < to → j < samples → beta < length betas
        → Demanded (drawn_of n floor a b m betas manner seed chunk j beta) us vs told
    house_strip_sampling call =
        strip_sampling s floor m us vs (table_factors a b m betas) manner arrangement caller betas (house_sampling_lent call number_not)
