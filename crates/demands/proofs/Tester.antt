-- The tester's calls: one that 22 does not refuse answers and leaves what the desk's call on the same lists does, so an accepted one too; the desk's is
-- never refused by 22; and an accepted one is within the tester's limits.
use Rattle.std.specs.Prelude.{◌≡◌, refl, Bool, true, List, ◌∷◌, ◌++◌, ℕ, ◌*◌, ◌≤◌, Float, length}
use Rattle.std.proofs.Common.{sym, ap, ◌∙◌, ltb-false}
use Rattle.plan_layout.specs.Arrangements.{arrangement_of}
use Rattle.plan_layout.specs.declared.Arrangement.{Arrangement}
use Rattle.limits.specs.declared.Caller.{Caller}
use Rattle.limits.specs.declared.Caller.TheVariants.{Desk, Tester}
use Rattle.limits.specs.Limits.{tester_window, tester_free}
use Rattle.std.specs.declared.result.Result.{Result}
use Rattle.refusals.specs.declared.Refusal.{Refusal}
use Rattle.std.specs.declared.result.Result.TheVariants.{Ok, Err}
use Rattle.refusals.specs.declared.Refusal.TheVariants.{TesterLimit}
use Rattle.refusals.specs.Numbers.{refused}
use Rattle.refusals.proofs.Laws.Answers.{answered-only}
use Rattle.refusals.specs.Edges.{window_from}
use Rattle.refusals.specs.Key.{Key, among}
use Rattle.refusals.proofs.Laws.First.{passed-at}
use Rattle.refusals.proofs.Laws.Tester.{at_desk, as_at_desk, desk_not_22}
use Rattle.refusals.specs.Refusal.{refusal, of_room, of_lists, of_sampling_lists, of_sweeps, of_correlations, of_enumeration, of_sampling, housed, sourced}
use Rattle.refusals.specs.Request.{Request, Source, lent, house, correlation_request, enumeration_request, sampling_request, most_counted, most_stored}
use Rattle.refusals.specs.Request.{house_enumeration_request, house_sampling_request}
use Rattle.refusals.specs.AcceptedTotals.{misfits}
use Rattle.pair_correlations.specs.Sound.{unsound}
use Rattle.entry_correlations.specs.Correlations.{job_given, factors_from, CorrelatedBy}
use Rattle.entry_correlations.specs.declared.Manner.{Manner}
use Rattle.totals_call.specs.Given.{Given}
use Rattle.totals_call.specs.Calls.{Totalled, Stored, Enumerated, EnumeratedEach, Sampled, misfit_stored, unsound_all, unsound_drawn}
use Rattle.totals_call.specs.Calls.{house_given, HouseEnumerated, HouseEnumeratedEach, HouseSampled}
use Rattle.demands.proofs.Configurations.{free, accepted-number}

-- ---- at the desk each list of checks is the one without 22

pub desk_checks : (source : Source) (r : Request)
    → (refusal (sourced source of_correlations) (at_desk r) ≡ refusal (sourced source (of_room ++ (of_lists ++ of_sweeps))) (at_desk r))
    × (refusal (sourced source of_enumeration) (at_desk r) ≡ refusal (sourced source (of_room ++ (Key.free_edges ∷ (of_lists ++ of_sweeps)))) (at_desk r))
    × (refusal (sourced source of_sampling) (at_desk r) ≡ refusal (sourced source (of_room ++ (of_sampling_lists ++ of_sweeps))) (at_desk r))
desk_checks lent r = (refl, refl, refl)
desk_checks house r = (refl, refl, refl)

-- ---- `correlations`, and `house_correlations`: by the source of the factors, of this list of factors or couplings

-- either asks of the tester's window
asks_window : (source : Source) → among (sourced source of_correlations) Key.tester_window ≡ true
asks_window lent = refl
asks_window house = refl

module _ (source : Source) (n floor : ℕ) (a b : List ℕ) (m : List Float) (us vs : List ℕ) (list : List Float) (manner : Manner) (arrangement : Arrangement) (results work : List Float) where
  abbrev asked : List Key
  asked = sourced source of_correlations

  abbrev request : Caller → Request
  request caller =
      correlation_request caller (arrangement_of arrangement) n floor a b m us vs list (length results) (length work)
      (unsound (job_given n floor a b m (factors_from source list) manner) us vs)

  -- The answer and the lists are the desk's,
  pub results_at_desk : {r s : ℕ} {results' results'' work' work'' : List Float}
      → CorrelatedBy source n floor a b m us vs list manner arrangement Tester r results results' work work' → (r ≡ 22 → ⊥)
      → CorrelatedBy source n floor a b m us vs list manner arrangement Desk s results results'' work work'' → (r ≡ s) × (results' ≡ results'') × (work' ≡ work'')
  results_at_desk {r} {s} t h d =
      let e : r ≡ s = t.answer ∙ as_at_desk asked (request Tester) (λ p. h (t.answer ∙ p)) ∙ sym d.answer in
      (e, t.answers ∙ rw e (sym d.answers), t.memory ∙ rw e (sym d.memory))

  -- which is never refused by 22;
  pub results_desk_not_22 : {r : ℕ} {results' work' : List Float} → CorrelatedBy source n floor a b m us vs list manner arrangement Desk r results results' work work' → r ≡ 22 → ⊥
  results_desk_not_22 d p = desk_not_22 asked (request Desk) (sym d.answer ∙ p)

  -- and the window of an accepted call is within the limit.
  pub results_tester_window : {results' work' : List Float} → CorrelatedBy source n floor a b m us vs list manner arrangement Tester 0 results results' work work'
      → window_from floor a b m ≤ tester_window
  results_tester_window t =
      ltb-false tester_window (window_from floor a b m) (passed-at asked (request Tester) (sym t.answer) Key.tester_window (asks_window source))

-- ---- totals, by the refusals of two calls that are given the same but for the caller

module _ {k j count : ℕ} {squared fourthed : List Float} {end : ℕ} {r s : Result ℕ Refusal} {squares squares' squares'' fourths fourths' fourths'' work work' work'' : List Float} where
  same_totals : ((k ≡ 22 → ⊥) → k ≡ j) → Totalled k count squared fourthed end r squares squares' fourths fourths' work work' → (r ≡ Err TesterLimit → ⊥)
      → Totalled j count squared fourthed end s squares squares'' fourths fourths'' work work''
      → (r ≡ s) × (squares' ≡ squares'') × (fourths' ≡ fourths'') × (work' ≡ work'')
  same_totals desk t h d =
      let e : k ≡ j = desk (λ p. h (answered-only k count r (Err TesterLimit) t.answer (sym p, tt))) in (
        answered-only k count r s t.answer (rw e d.answer),
        t.squares_are ∙ rw e (sym d.squares_are),
        t.fourths_are ∙ rw e (sym d.fourths_are),
        t.memory ∙ rw e (sym d.memory),
      )

module _ {k j count : ℕ} {correlations : List Float} {end : ℕ} {r s : Result ℕ Refusal} {stored stored' stored'' work work' work'' : List Float} where
  same-stored : ((k ≡ 22 → ⊥) → k ≡ j) → Stored k count correlations end r stored stored' work work' → (r ≡ Err TesterLimit → ⊥)
      → Stored j count correlations end s stored stored'' work work'' → (r ≡ s) × (stored' ≡ stored'') × (work' ≡ work'')
  same-stored desk t h d =
      let e : k ≡ j = desk (λ p. h (answered-only k count r (Err TesterLimit) t.answer (sym p, tt))) in
      (answered-only k count r s t.answer (rw e d.answer), t.stored_are ∙ rw e (sym d.stored_are), t.memory ∙ rw e (sym d.memory))

module _ (n floor : ℕ) (a b : List ℕ) (m : List Float) (us vs : List ℕ) (betas factors : List Float) (manner : Manner) (arrangement : Arrangement) where
  abbrev given : Given
  given = record { n = n; floor = floor; a = a; b = b; m = m; us = us; vs = vs; betas = betas; factors = factors; manner = manner; arrangement = arrangement; caller = Desk }

  -- ---- `exhaustive`

  module _ (squares fourths work : List Float) where
    abbrev counting : Caller → Request
    counting caller =
        enumeration_request caller (arrangement_of arrangement) n floor a b m us vs betas factors (free a b m) most_counted
        (misfits (length betas * length us) (length squares) (length fourths)) (length work) (unsound_all given)

    pub totals_at_desk : {r s : Result ℕ Refusal} {squares' squares'' fourths' fourths'' work' work'' : List Float}
        → Enumerated n floor a b m us vs betas factors manner arrangement Tester r squares squares' fourths fourths' work work' → (r ≡ Err TesterLimit → ⊥)
        → Enumerated n floor a b m us vs betas factors manner arrangement Desk s squares squares'' fourths fourths'' work work''
        → (r ≡ s) × (squares' ≡ squares'') × (fourths' ≡ fourths'') × (work' ≡ work'')
    totals_at_desk t h d = same_totals (as_at_desk of_enumeration (counting Tester)) t.call h d.call

    pub totals_desk_not_22 : {r : Result ℕ Refusal} {squares' fourths' work' : List Float}
        → Enumerated n floor a b m us vs betas factors manner arrangement Desk r squares squares' fourths fourths' work work' → r ≡ Err TesterLimit → ⊥
    totals_desk_not_22 d p = desk_not_22 of_enumeration (counting Desk) (sym d.call.answer.0 ∙ ap (λ (x : Result ℕ Refusal). refused x) p)

    pub totals_tester_limits : {count : ℕ} {squares' fourths' work' : List Float}
        → Enumerated n floor a b m us vs betas factors manner arrangement Tester (Ok count) squares squares' fourths fourths' work work'
        → (window_from floor a b m ≤ tester_window) × (free a b m ≤ tester_free)
    totals_tester_limits t =
        let z = (accepted-number _ _ _ t.call.answer).0 in (
          ltb-false tester_window (window_from floor a b m) (passed-at of_enumeration (counting Tester) z Key.tester_window refl),
          ltb-false tester_free (free a b m) (passed-at of_enumeration (counting Tester) z Key.tester_free refl),
        )

  -- ---- `exhaustive_c`

  module _ (stored work : List Float) where
    abbrev storing : Caller → Request
    storing caller =
        enumeration_request caller (arrangement_of arrangement) n floor a b m us vs betas factors (free a b m) most_stored (misfit_stored given (length stored)) (length work)
        (unsound_all given)

    pub stored_at_desk : {r s : Result ℕ Refusal} {stored' stored'' work' work'' : List Float}
        → EnumeratedEach n floor a b m us vs betas factors manner arrangement Tester r stored stored' work work' → (r ≡ Err TesterLimit → ⊥)
        → EnumeratedEach n floor a b m us vs betas factors manner arrangement Desk s stored stored'' work work'' → (r ≡ s) × (stored' ≡ stored'') × (work' ≡ work'')
    stored_at_desk t h d = same-stored (as_at_desk of_enumeration (storing Tester)) t.call h d.call

    pub stored_desk_not_22 : {r : Result ℕ Refusal} {stored' work' : List Float}
        → EnumeratedEach n floor a b m us vs betas factors manner arrangement Desk r stored stored' work work' → r ≡ Err TesterLimit → ⊥
    stored_desk_not_22 d p = desk_not_22 of_enumeration (storing Desk) (sym d.call.answer.0 ∙ ap (λ (x : Result ℕ Refusal). refused x) p)

    pub stored_tester_limits : {count : ℕ} {stored' work' : List Float}
        → EnumeratedEach n floor a b m us vs betas factors manner arrangement Tester (Ok count) stored stored' work work'
        → (window_from floor a b m ≤ tester_window) × (free a b m ≤ tester_free)
    stored_tester_limits t =
        let z = (accepted-number _ _ _ t.call.answer).0 in (
          ltb-false tester_window (window_from floor a b m) (passed-at of_enumeration (storing Tester) z Key.tester_window refl),
          ltb-false tester_free (free a b m) (passed-at of_enumeration (storing Tester) z Key.tester_free refl),
        )

  -- ---- `sample`

  module _ (seed from to samples : ℕ) (squares fourths work : List Float) where
    abbrev drawing : Caller → Request
    drawing caller =
        sampling_request caller (arrangement_of arrangement) n floor a b m us vs betas factors (free a b m) from to samples
        (misfits (length betas * length us) (length squares) (length fourths)) (length work) (unsound_drawn given seed from to samples)

    pub samples_at_desk : {r s : Result ℕ Refusal} {squares' squares'' fourths' fourths'' work' work'' : List Float}
        → Sampled n floor a b m us vs betas factors manner arrangement Tester seed from to samples r squares squares' fourths fourths' work work' → (r ≡ Err TesterLimit → ⊥)
        → Sampled n floor a b m us vs betas factors manner arrangement Desk seed from to samples s squares squares'' fourths fourths'' work work''
        → (r ≡ s) × (squares' ≡ squares'') × (fourths' ≡ fourths'') × (work' ≡ work'')
    samples_at_desk t h d = same_totals (as_at_desk of_sampling (drawing Tester)) t.call h d.call

    pub samples_desk_not_22 : {r : Result ℕ Refusal} {squares' fourths' work' : List Float}
        → Sampled n floor a b m us vs betas factors manner arrangement Desk seed from to samples r squares squares' fourths fourths' work work' → r ≡ Err TesterLimit → ⊥
    samples_desk_not_22 d p = desk_not_22 of_sampling (drawing Desk) (sym d.call.answer.0 ∙ ap (λ (x : Result ℕ Refusal). refused x) p)

    pub samples_tester_window : {count : ℕ} {squares' fourths' work' : List Float}
        → Sampled n floor a b m us vs betas factors manner arrangement Tester seed from to samples (Ok count) squares squares' fourths fourths' work work'
        → window_from floor a b m ≤ tester_window
    samples_tester_window t =
        ltb-false tester_window (window_from floor a b m)
        (passed-at of_sampling (drawing Tester) (accepted-number _ _ _ t.call.answer).0 Key.tester_window refl)

-- ---- the house calls for totals

module _ (n floor : ℕ) (a b : List ℕ) (m : List Float) (us vs : List ℕ) (betas : List Float) (manner : Manner) (arrangement : Arrangement) where
  abbrev house_desk : Given
  house_desk = house_given n floor a b m us vs betas manner arrangement Desk

  abbrev house_enumerating : (most : ℕ) → (misfit : Bool) → (work : ℕ) → Caller → Request
  house_enumerating most misfit work caller =
      house_enumeration_request caller (arrangement_of arrangement) n floor a b m us vs betas (free a b m) most misfit work (unsound_all house_desk)

  within_limits : (most : ℕ) (misfit : Bool) (work : ℕ) → refusal (housed of_enumeration) (house_enumerating most misfit work Tester) ≡ 0
      → (window_from floor a b m ≤ tester_window) × (free a b m ≤ tester_free)
  within_limits most misfit work z = (
    ltb-false tester_window (window_from floor a b m) (passed-at (housed of_enumeration) (house_enumerating most misfit work Tester) z Key.tester_window refl),
    ltb-false tester_free (free a b m) (passed-at (housed of_enumeration) (house_enumerating most misfit work Tester) z Key.tester_free refl),
  )

  -- ---- `house_exhaustive`

  module _ (squares fourths work : List Float) where
    abbrev house_counting : Caller → Request
    house_counting = house_enumerating most_counted (misfits (length betas * length us) (length squares) (length fourths)) (length work)

    pub house_totals_at_desk : {r s : Result ℕ Refusal} {squares' squares'' fourths' fourths'' work' work'' : List Float}
        → HouseEnumerated n floor a b m us vs betas manner arrangement Tester r squares squares' fourths fourths' work work' → (r ≡ Err TesterLimit → ⊥)
        → HouseEnumerated n floor a b m us vs betas manner arrangement Desk s squares squares'' fourths fourths'' work work''
        → (r ≡ s) × (squares' ≡ squares'') × (fourths' ≡ fourths'') × (work' ≡ work'')
    house_totals_at_desk t h d = same_totals (as_at_desk (housed of_enumeration) (house_counting Tester)) t.call h d.call

    pub house_totals_desk_not_22 : {r : Result ℕ Refusal} {squares' fourths' work' : List Float}
        → HouseEnumerated n floor a b m us vs betas manner arrangement Desk r squares squares' fourths fourths' work work' → r ≡ Err TesterLimit → ⊥
    house_totals_desk_not_22 d p = desk_not_22 (housed of_enumeration) (house_counting Desk) (sym d.call.answer.0 ∙ ap (λ (x : Result ℕ Refusal). refused x) p)

    pub house_totals_tester_limits : {count : ℕ} {squares' fourths' work' : List Float}
        → HouseEnumerated n floor a b m us vs betas manner arrangement Tester (Ok count) squares squares' fourths fourths' work work'
        → (window_from floor a b m ≤ tester_window) × (free a b m ≤ tester_free)
    house_totals_tester_limits t = within_limits most_counted (misfits (length betas * length us) (length squares) (length fourths)) (length work) (accepted-number _ _ _ t.call.answer).0

  -- ---- `house_exhaustive_c`

  module _ (stored work : List Float) where
    abbrev house_storing : Caller → Request
    house_storing = house_enumerating most_stored (misfit_stored house_desk (length stored)) (length work)

    pub house_stored_at_desk : {r s : Result ℕ Refusal} {stored' stored'' work' work'' : List Float}
        → HouseEnumeratedEach n floor a b m us vs betas manner arrangement Tester r stored stored' work work' → (r ≡ Err TesterLimit → ⊥)
        → HouseEnumeratedEach n floor a b m us vs betas manner arrangement Desk s stored stored'' work work'' → (r ≡ s) × (stored' ≡ stored'') × (work' ≡ work'')
    house_stored_at_desk t h d = same-stored (as_at_desk (housed of_enumeration) (house_storing Tester)) t.call h d.call

    pub house_stored_desk_not_22 : {r : Result ℕ Refusal} {stored' work' : List Float}
        → HouseEnumeratedEach n floor a b m us vs betas manner arrangement Desk r stored stored' work work' → r ≡ Err TesterLimit → ⊥
    house_stored_desk_not_22 d p = desk_not_22 (housed of_enumeration) (house_storing Desk) (sym d.call.answer.0 ∙ ap (λ (x : Result ℕ Refusal). refused x) p)

    pub house_stored_tester_limits : {count : ℕ} {stored' work' : List Float}
        → HouseEnumeratedEach n floor a b m us vs betas manner arrangement Tester (Ok count) stored stored' work work'
        → (window_from floor a b m ≤ tester_window) × (free a b m ≤ tester_free)
    house_stored_tester_limits t = within_limits most_stored (misfit_stored house_desk (length stored)) (length work) (accepted-number _ _ _ t.call.answer).0

  -- ---- `house_sample`

  module _ (seed from to samples : ℕ) (squares fourths work : List Float) where
    abbrev house_drawing : Caller → Request
    house_drawing caller =
        house_sampling_request caller (arrangement_of arrangement) n floor a b m us vs betas (free a b m) from to samples
        (misfits (length betas * length us) (length squares) (length fourths)) (length work) (unsound_drawn house_desk seed from to samples)

    pub house_samples_at_desk : {r s : Result ℕ Refusal} {squares' squares'' fourths' fourths'' work' work'' : List Float}
        → HouseSampled n floor a b m us vs betas manner arrangement Tester seed from to samples r squares squares' fourths fourths' work work' → (r ≡ Err TesterLimit → ⊥)
        → HouseSampled n floor a b m us vs betas manner arrangement Desk seed from to samples s squares squares'' fourths fourths'' work work''
        → (r ≡ s) × (squares' ≡ squares'') × (fourths' ≡ fourths'') × (work' ≡ work'')
    house_samples_at_desk t h d = same_totals (as_at_desk (housed of_sampling) (house_drawing Tester)) t.call h d.call

    pub house_samples_desk_not_22 : {r : Result ℕ Refusal} {squares' fourths' work' : List Float}
        → HouseSampled n floor a b m us vs betas manner arrangement Desk seed from to samples r squares squares' fourths fourths' work work' → r ≡ Err TesterLimit → ⊥
    house_samples_desk_not_22 d p = desk_not_22 (housed of_sampling) (house_drawing Desk) (sym d.call.answer.0 ∙ ap (λ (x : Result ℕ Refusal). refused x) p)

    pub house_samples_tester_window : {count : ℕ} {squares' fourths' work' : List Float}
        → HouseSampled n floor a b m us vs betas manner arrangement Tester seed from to samples (Ok count) squares squares' fourths fourths' work work'
        → window_from floor a b m ≤ tester_window
    house_samples_tester_window t =
        ltb-false tester_window (window_from floor a b m)
        (passed-at (housed of_sampling) (house_drawing Tester) (accepted-number _ _ _ t.call.answer).0 Key.tester_window refl)
