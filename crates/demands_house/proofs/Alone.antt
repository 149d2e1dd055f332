-- In accepted house calls, too, a pair's bits depend on its job alone: each is one of the calls that `demands` compares, with the table's factors. So its bits
-- are those of any other such call, lent or house, in which the pair has the same job.
use Rattle.std.specs.Prelude.{◌≡◌, refl, List, ℕ, ◌^◌, ◌<◌, Float, length, get_or}
use Rattle.std.proofs.Common.{sym, arith}
use Rattle.std.specs.Float.{nan}
use Rattle.limits.specs.declared.Caller.{Caller}
use Rattle.forest.specs.FreeEdges.{bit_of}
use Rattle.transfer_matrix.specs.Configuration.{enumerated_minus, sampled_minus}
use Rattle.std.specs.declared.result.Result.TheVariants.{Ok}
use Rattle.house_factors.specs.Factors.{single_factors}
use Rattle.plan_layout.specs.declared.Arrangement.{Arrangement}
use Rattle.entry_correlations.specs.Correlations.{job_given, HouseCorrelated}
use Rattle.entry_correlations.specs.declared.Manner.{Manner}
use Rattle.totals_call.specs.Given.{Given}
use Rattle.totals_call.specs.Calls.{house_given, HouseEnumerated, HouseEnumeratedEach, HouseSampled}
use Rattle.demands.proofs.Configurations.{early, late}
use Rattle.demands.proofs.Calls.{CorrelationsCall, ExhaustiveCall, StoringCall, SampleCall, Place, number, job_of, free_of, configuration_of, drawn_of}
use Rattle.demands.proofs.Alone.{SamePair, SameConfigurations, SameSamples, stored_at, results-alone, stored-alone, stored-is-result, totals_alone, samplings_alone}
use Rattle.demands_house.specs.Factors.{signed_couplings}
use Rattle.demands_house.proofs.Lent.{house_correlations_lent, house_enumeration_lent, house-storing-lent, house_sampling_lent}
use Rattle.demands_house.proofs.Lent.{house_enumeration_factors, house-stored-factors, house_sampling_factors}
use Rattle.demands_house.proofs.Laws.Lent.{number_not}
use Rattle.demands_house.proofs.Laws.Signed.{signed-job}

-- ---- `house_correlations`

module _ {n floor : ℕ} {a b : List ℕ} {m : List Float} {us vs : List ℕ} {couplings : List Float} {manner : Manner} {arrangement : Arrangement} {caller : Caller}
    {results results' work work' : List Float} (call : HouseCorrelated n floor a b m us vs couplings manner arrangement caller 0 results results' work work') where
  abbrev pub correlations_call : CorrelationsCall
  correlations_call = record {
    n = n;
    floor = floor;
    a = a;
    b = b;
    m = m;
    us = us;
    vs = vs;
    factors = single_factors couplings;
    manner = manner;
    arrangement = arrangement;
    caller = caller;
    results = results;
    results' = results';
    work = work;
    work' = work';
    call = house_correlations_lent call (λ e. omega arith);
  }

  pub house-results-alone : (d : CorrelationsCall) (i j : ℕ) → i < length us → j < length d.us
      → job_given n floor a b m (single_factors couplings) manner ≡ job_of d → SamePair us vs i d.us d.vs j → get_or results' i nan ≡ get_or d.results' j nan
  house-results-alone = results-alone correlations_call

-- ---- `house_exhaustive`

module _ {n floor : ℕ} {a b : List ℕ} {m : List Float} {us vs : List ℕ} {betas : List Float} {manner : Manner} {arrangement : Arrangement} {caller : Caller}
    {squares squares' fourths fourths' work work' : List Float} {count : ℕ}
    (call : HouseEnumerated n floor a b m us vs betas manner arrangement caller (Ok count) squares squares' fourths fourths' work work') where
  abbrev counted : Given
  counted = house_given n floor a b m us vs betas manner arrangement caller

  abbrev pub exhaustive_call : ExhaustiveCall
  exhaustive_call = record {
    given = counted;
    count = count;
    squares = squares;
    squares' = squares';
    fourths = fourths;
    fourths' = fourths';
    work = work;
    work' = work';
    call = house_enumeration_lent call number_not;
  }

  pub house_totals_alone : (d : ExhaustiveCall) (at : Place counted) (to : Place d.given) → SameConfigurations counted d.given at to
      → (get_or squares' (number at) nan ≡ get_or d.squares' (number to) nan) × (get_or fourths' (number at) nan ≡ get_or d.fourths' (number to) nan)
  house_totals_alone = totals_alone exhaustive_call

  -- The job of a configuration and beta is that of a call of `house_correlations` that is lent its couplings with their signs.
  pub house-configuration-job : (x beta : ℕ) → beta < length betas
      → job_given n floor a b m (single_factors (signed_couplings a b m betas (enumerated_minus (bit_of (early a b m) (late a b m)) x) beta)) manner
      ≡ configuration_of counted x beta
  house-configuration-job x beta l =
      let minus = enumerated_minus (bit_of (early a b m) (late a b m)) x in
      signed-job n floor a b m betas manner minus beta (λ e k. house_enumeration_factors call count refl beta e (minus e) l k)

-- ---- `house_exhaustive_c`

module _ {n floor : ℕ} {a b : List ℕ} {m : List Float} {us vs : List ℕ} {betas : List Float} {manner : Manner} {arrangement : Arrangement} {caller : Caller}
    {stored stored' work work' : List Float} {count : ℕ}
    (call : HouseEnumeratedEach n floor a b m us vs betas manner arrangement caller (Ok count) stored stored' work work') where
  abbrev kept : Given
  kept = house_given n floor a b m us vs betas manner arrangement caller

  abbrev pub storing_call : StoringCall
  storing_call =
      record { given = kept; count = count; stored = stored; stored' = stored'; work = work; work' = work'; call = house-storing-lent call number_not }

  pub house-stored-alone : (d : StoringCall) (at : Place kept) (to : Place d.given) (x y : ℕ)
      → x < 2 ^ free_of kept → y < 2 ^ free_of d.given → configuration_of kept x at.beta ≡ configuration_of d.given y to.beta
      → SamePair us vs at.pair d.given.us d.given.vs to.pair → stored_at storing_call at x ≡ stored_at d to y
  house-stored-alone = stored-alone storing_call

  -- A stored correlation is what `house_correlations` answers for the couplings of that beta with that configuration's signs.
  pub house-stored-is-result : {us₂ vs₂ : List ℕ} {arrangement₂ : Arrangement} {caller₂ : Caller} {results results' work₂ work₂' : List Float} (at : Place kept) (x j : ℕ)
      → HouseCorrelated n floor a b m us₂ vs₂ (signed_couplings a b m betas (enumerated_minus (bit_of (early a b m) (late a b m)) x) at.beta) manner arrangement₂ caller₂
      0 results results' work₂ work₂'
      → x < 2 ^ free_of kept → j < length us₂ → SamePair us vs at.pair us₂ vs₂ j → stored_at storing_call at x ≡ get_or results' j nan
  house-stored-is-result at x j d h l p =
      let minus = enumerated_minus (bit_of (early a b m) (late a b m)) x in
      stored-is-result storing_call (correlations_call d) at x j h l
      (sym (signed-job n floor a b m betas manner minus at.beta (λ e k. house-stored-factors call count refl at.beta e (minus e) at.beta-inside k))) p

-- ---- `house_sample`

module _ {n floor : ℕ} {a b : List ℕ} {m : List Float} {us vs : List ℕ} {betas : List Float} {manner : Manner} {arrangement : Arrangement} {caller : Caller} {seed from to samples : ℕ}
    {squares squares' fourths fourths' work work' : List Float} {count : ℕ}
    (call : HouseSampled n floor a b m us vs betas manner arrangement caller seed from to samples (Ok count) squares squares' fourths fourths' work work') where
  abbrev drawn : Given
  drawn = house_given n floor a b m us vs betas manner arrangement caller

  abbrev pub sample_call : SampleCall
  sample_call = record {
    given = drawn;
    seed = seed;
    from = from;
    to = to;
    samples = samples;
    count = count;
    squares = squares;
    squares' = squares';
    fourths = fourths;
    fourths' = fourths';
    work = work;
    work' = work';
    call = house_sampling_lent call number_not;
  }

  pub house_samplings_alone : (d : SampleCall) (at : Place drawn) (for : Place d.given) → SameSamples sample_call d at for
      → (get_or squares' (number at) nan ≡ get_or d.squares' (number for) nan) × (get_or fourths' (number at) nan ≡ get_or d.fourths' (number for) nan)
  house_samplings_alone = samplings_alone sample_call

  -- The job of a sample and beta is such a call's, too.
  pub house_sample_job : (chunk j beta : ℕ) → beta < length betas
      → job_given n floor a b m (single_factors (signed_couplings a b m betas (sampled_minus seed (length (early a b m)) chunk j) beta)) manner
      ≡ drawn_of drawn seed chunk j beta
  house_sample_job chunk j beta l =
      let minus = sampled_minus seed (length (early a b m)) chunk j in
      signed-job n floor a b m betas manner minus beta (λ e k. house_sampling_factors call count refl beta e (minus e) l k)
