-- What `exhaustive`, `exhaustive_c` and `sample` answer and leave in the lent lists.
use Rattle.std.specs.Prelude.{◌≡◌, Bool, not, List, ℕ, ◌*◌, eqb, Float, length}
use Rattle.limits.specs.declared.Caller.{Caller}
use Rattle.transfer_matrix.specs.Rounded.{ieee}
use Rattle.transfer_matrix.specs.Totals.{square, fourth, enumerated_count, sampled_count}
use Rattle.refusals.specs.Couplings.{all_couplings}
use Rattle.refusals.specs.Edges.{kept_magnitudes}
use Rattle.refusals.specs.Request.{Source, house, enumerated, sampled, sweep_request, enumeration_request, sampling_request, most_counted, most_stored}
use Rattle.refusals.specs.Refusal.{refusal, of_enumeration, of_sampling, sourced}
use Rattle.house_factors.specs.Factors.{paired_factors}
use Rattle.refusals.specs.AcceptedTotals.{misfits}
use Rattle.std.specs.declared.result.Result.{Result}
use Rattle.refusals.specs.declared.Refusal.{Refusal}
use Rattle.refusals.specs.Answers.{Answered}
use Rattle.plan_layout.specs.declared.Arrangement.{Arrangement}
use Rattle.plan_layout.specs.Arrangements.{arrangement_of}
use Rattle.entry_correlations.specs.Correlations.{manner_of, settled, cleared}
use Rattle.entry_correlations.specs.declared.Manner.{Manner}
use Rattle.totals_call.specs.Given.{Given, early, late, free, window, end, sums}
use Rattle.totals_call.specs.Jobs.{unsound_enumeration, unsound_sampling, enumerated_totals, sampled_totals, stored_count, stored_correlations}

-- The answer r of a call for totals, by its refusal's number (0 for accepted) and the count; both lists of totals and the work memory
-- after it.
pub record Totalled (refused count : ℕ) (squared fourthed : List Float) (end : ℕ) (r : Result ℕ Refusal)
    (squares squares' fourths fourths' work work' : List Float) : Type 0 where
  pub answer : Answered refused count r
  pub squares_are : squares' ≡ settled refused squared squares
  pub fourths_are : fourths' ≡ settled refused fourthed fourths
  pub memory : work' ≡ cleared refused end work

-- The same of a call that stores each correlation.
pub record Stored (refused count : ℕ) (correlations : List Float) (end : ℕ) (r : Result ℕ Refusal) (stored stored' work work' : List Float) : Type 0 where
  pub answer : Answered refused count r
  pub stored_are : stored' ≡ settled refused correlations stored
  pub memory : work' ≡ cleared refused end work

-- ---- over what is given: all configurations, and drawn ones

module _ (g : Given) where
  -- Some Z is not finite and above zero.
  abbrev pub unsound_all : Bool
  unsound_all = unsound_enumeration g.n (window g) (early g) (late g) g.factors (manner_of g.manner) g.us g.vs (length g.betas)

  abbrev pub unsound_drawn : (seed from to samples : ℕ) → Bool
  unsound_drawn = unsound_sampling g.n (window g) (early g) (late g) g.factors (manner_of g.manner) g.us g.vs (length g.betas)

  -- The totals of a power, and every correlation.
  abbrev pub totals_of_all : (Float → Float) → List Float
  totals_of_all = enumerated_totals g.n (window g) (early g) (late g) g.factors (manner_of g.manner) g.us g.vs (length g.betas)

  abbrev pub totals_of_drawn : (seed from to samples : ℕ) → (Float → Float) → List Float
  totals_of_drawn = sampled_totals g.n (window g) (early g) (late g) g.factors (manner_of g.manner) g.us g.vs (length g.betas)

  abbrev pub correlations_of_all : List Float
  correlations_of_all = stored_correlations g.n (window g) (early g) (late g) g.factors (manner_of g.manner) g.us g.vs (length g.betas)

  -- The refusal, where a result list may misfit, with so much work memory; of so many free edges at most,
  abbrev pub refused_all : (most : ℕ) → (misfit : Bool) → (work : ℕ) → ℕ
  refused_all most misfit work =
      refusal of_enumeration
      (enumeration_request g.caller (arrangement_of g.arrangement) g.n g.floor g.a g.b g.m g.us g.vs g.betas g.factors (free g) most misfit work unsound_all)

  -- or of the chunks from one number up to another.
  abbrev pub refused_drawn : (seed from to samples : ℕ) → (misfit : Bool) → (work : ℕ) → ℕ
  refused_drawn seed from to samples misfit work =
      refusal of_sampling
      (sampling_request g.caller (arrangement_of g.arrangement) g.n g.floor g.a g.b g.m g.us g.vs g.betas g.factors (free g) from to samples misfit work
      (unsound_drawn seed from to samples))

  -- The same by the source of the factors, of this list of factors or couplings, which should have so many.
  abbrev pub refused_all_by : Source → List Float → (count most : ℕ) → (misfit : Bool) → (work : ℕ) → ℕ
  refused_all_by source list count most misfit work =
      refusal (sourced source of_enumeration)
      (sweep_request g.caller (arrangement_of g.arrangement) g.n g.floor g.a g.b g.m g.us g.vs g.betas (enumerated (free g) most) list count misfit work unsound_all)

  abbrev pub refused_drawn_by : Source → List Float → (count seed from to samples : ℕ) → (misfit : Bool) → (work : ℕ) → ℕ
  refused_drawn_by source list count seed from to samples misfit work =
      refusal (sourced source of_sampling)
      (sweep_request g.caller (arrangement_of g.arrangement) g.n g.floor g.a g.b g.m g.us g.vs g.betas (sampled (free g) from to samples) list count misfit work
      (unsound_drawn seed from to samples))

  -- The list of stored correlations is not of its exact length.
  abbrev pub misfit_stored : (stored : ℕ) → Bool
  misfit_stored stored = not (eqb stored (stored_count (early g) (late g) g.us (length g.betas)))

-- ---- of the entries

module _ (n floor : ℕ) (a b : List ℕ) (m : List Float) (us vs : List ℕ) (betas factors : List Float) (manner : Manner) (arrangement : Arrangement) (caller : Caller) where
  abbrev pub given : Given
  given = record { n = n; floor = floor; a = a; b = b; m = m; us = us; vs = vs; betas = betas; factors = factors; manner = manner; arrangement = arrangement; caller = caller }

  -- The refusal of `exhaustive`, whose lists of totals have so many numbers,
  abbrev pub refused_enumeration : (squares fourths work : ℕ) → ℕ
  refused_enumeration squares fourths = refused_all given most_counted (misfits (sums given) squares fourths)

  -- of `exhaustive_c`,
  abbrev pub refused_storing : (stored work : ℕ) → ℕ
  refused_storing stored = refused_all given most_stored (misfit_stored given stored)

  -- and of `sample`, of the chunks from one number up to another.
  abbrev pub refused_sampling : (seed from to samples squares fourths work : ℕ) → ℕ
  refused_sampling seed from to samples squares fourths = refused_drawn given seed from to samples (misfits (sums given) squares fourths)

  -- What each answers and leaves.
  pub record Enumerated (r : Result ℕ Refusal) (squares squares' fourths fourths' work work' : List Float) : Type 0 where
    pub call : Totalled (refused_enumeration (length squares) (length fourths) (length work)) (enumerated_count (free given))
        (totals_of_all given (square ieee)) (totals_of_all given (fourth ieee)) (end given) r squares squares' fourths fourths' work work'

  pub record EnumeratedEach (r : Result ℕ Refusal) (stored stored' work work' : List Float) : Type 0 where
    pub call : Stored (refused_storing (length stored) (length work)) (enumerated_count (free given)) (correlations_of_all given) (end given) r
        stored stored' work work'

  pub record Sampled (seed from to samples : ℕ) (r : Result ℕ Refusal) (squares squares' fourths fourths' work work' : List Float) : Type 0 where
    pub call : Totalled (refused_sampling seed from to samples (length squares) (length fourths) (length work)) (sampled_count from to samples)
        (totals_of_drawn given seed from to samples (square ieee)) (totals_of_drawn given seed from to samples (fourth ieee)) (end given) r
        squares squares' fourths fourths' work work'

-- ---- of the house entries, which are lent no factors

module _ (n floor : ℕ) (a b : List ℕ) (m : List Float) (us vs : List ℕ) (betas : List Float) (manner : Manner) (arrangement : Arrangement) (caller : Caller) where
  -- The couplings of each beta and kept edge; the factors are the table's, for either sign.
  abbrev pub house_couplings : List Float
  house_couplings = all_couplings betas (kept_magnitudes a b m)

  abbrev pub house_given : Given
  house_given = record {
    n = n;
    floor = floor;
    a = a;
    b = b;
    m = m;
    us = us;
    vs = vs;
    betas = betas;
    factors = paired_factors house_couplings;
    manner = manner;
    arrangement = arrangement;
    caller = caller;
  }

  -- How many couplings there are.
  abbrev pub coupling_count : ℕ
  coupling_count = length betas * length (kept_magnitudes a b m)

  -- The refusals of `house_exhaustive`, `house_exhaustive_c` and `house_sample`.
  abbrev pub refused_house_enumeration : (squares fourths work : ℕ) → ℕ
  refused_house_enumeration squares fourths = refused_all_by house_given house house_couplings coupling_count most_counted (misfits (sums house_given) squares fourths)

  abbrev pub refused_house_storing : (stored work : ℕ) → ℕ
  refused_house_storing stored = refused_all_by house_given house house_couplings coupling_count most_stored (misfit_stored house_given stored)

  abbrev pub refused_house_sampling : (seed from to samples squares fourths work : ℕ) → ℕ
  refused_house_sampling seed from to samples squares fourths =
      refused_drawn_by house_given house house_couplings coupling_count seed from to samples (misfits (sums house_given) squares fourths)

  -- What each answers and leaves.
  pub record HouseEnumerated (r : Result ℕ Refusal) (squares squares' fourths fourths' work work' : List Float) : Type 0 where
    pub call : Totalled (refused_house_enumeration (length squares) (length fourths) (length work)) (enumerated_count (free house_given))
        (totals_of_all house_given (square ieee)) (totals_of_all house_given (fourth ieee)) (end house_given) r squares squares' fourths fourths' work work'

  pub record HouseEnumeratedEach (r : Result ℕ Refusal) (stored stored' work work' : List Float) : Type 0 where
    pub call : Stored (refused_house_storing (length stored) (length work)) (enumerated_count (free house_given)) (correlations_of_all house_given) (end house_given) r
        stored stored' work work'

  pub record HouseSampled (seed from to samples : ℕ) (r : Result ℕ Refusal) (squares squares' fourths fourths' work work' : List Float) : Type 0 where
    pub call : Totalled (refused_house_sampling seed from to samples (length squares) (length fourths) (length work)) (sampled_count from to samples)
        (totals_of_drawn house_given seed from to samples (square ieee)) (totals_of_drawn house_given seed from to samples (fourth ieee)) (end house_given) r
        squares squares' fourths fourths' work work'
