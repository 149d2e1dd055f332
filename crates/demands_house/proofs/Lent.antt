-- House calls take their factors from the table. One that 23 does not refuse answers and leaves what the call that lends these factors does: all that the
-- demands say of a lent call holds of it (Accepted). And in an accepted one each factor in use is the table's entry of its coupling.
use Rattle.std.specs.Prelude.{◌≡◌, refl, Bool, false, List, ℕ, ◌*◌, ◌<◌, Float, length, get_or}
use Rattle.std.proofs.Common.{sym, ap, ◌∙◌}
use Rattle.std.specs.Float.{nan, binary64}
use Rattle.std.specs.Float.Ieee.{mul}
use Rattle.limits.specs.declared.Caller.{Caller}
use Rattle.transfer_matrix.specs.Configuration.{lent_at}
use Rattle.std.specs.declared.result.Result.{Result}
use Rattle.refusals.specs.declared.Refusal.{Refusal}
use Rattle.std.specs.declared.result.Result.TheVariants.{Ok, Err}
use Rattle.refusals.specs.declared.Refusal.TheVariants.{Couplings}
use Rattle.refusals.specs.Numbers.{refused}
use Rattle.refusals.proofs.Laws.Answers.{answered-only}
use Rattle.refusals.specs.AcceptedTotals.{misfits}
use Rattle.refusals.specs.Edges.{kept, kept_magnitudes}
use Rattle.refusals.specs.Key.{Key}
use Rattle.refusals.proofs.Laws.First.{passed-at}
use Rattle.refusals.proofs.Laws.House.{correlations_as_lent, enumeration_as_lent, sampling_as_lent}
use Rattle.refusals.specs.Refusal.{refusal, of_correlations, of_enumeration, of_sampling, housed}
use Rattle.refusals.specs.Request.{Request, correlation_request, house_enumeration_request, house_sampling_request, signed_factors, most_counted, most_stored}
use Rattle.house_factors.specs.Factors.{single_factors}
use Rattle.plan_layout.specs.Arrangements.{arrangement_of}
use Rattle.plan_layout.specs.declared.Arrangement.{Arrangement}
use Rattle.pair_correlations.specs.Sound.{unsound}
use Rattle.entry_correlations.specs.Correlations.{job_given, Correlated, HouseCorrelated}
use Rattle.entry_correlations.specs.declared.Manner.{Manner}
use Rattle.totals_call.specs.Calls.{Enumerated, EnumeratedEach, Sampled, HouseEnumerated, HouseEnumeratedEach, HouseSampled}
use Rattle.totals_call.specs.Calls.{house_given, unsound_all, unsound_drawn, misfit_stored}
use Rattle.demands.proofs.Configurations.{free}
use Rattle.demands_house.specs.Factors.{table_factors, TableEntry}
use Rattle.demands_house.proofs.Laws.Lent as L

-- ---- 23 stands in the place of 10: no lent call is answered 23, and no house call 10

pub lent_not_23 : (r : Request) → (refusal of_correlations r ≡ 23 → ⊥) × (refusal of_enumeration r ≡ 23 → ⊥) × (refusal of_sampling r ≡ 23 → ⊥)
lent_not_23 r = (L.never 22 of_correlations r refl, L.never 22 of_enumeration r refl, L.never 22 of_sampling r refl)

pub house_not_10 : (r : Request)
    → (refusal (housed of_correlations) r ≡ 10 → ⊥) × (refusal (housed of_enumeration) r ≡ 10 → ⊥) × (refusal (housed of_sampling) r ≡ 10 → ⊥)
house_not_10 r = (L.never 9 (housed of_correlations) r refl, L.never 9 (housed of_enumeration) r refl, L.never 9 (housed of_sampling) r refl)

-- ---- `house_correlations`

module _ {n floor : ℕ} {a b : List ℕ} {m : List Float} {us vs : List ℕ} {couplings : List Float} {manner : Manner} {arrangement : Arrangement} {caller : Caller} {r : ℕ}
    {results results' work work' : List Float} (call : HouseCorrelated n floor a b m us vs couplings manner arrangement caller r results results' work work') where
  abbrev request : Request
  request =
      correlation_request caller (arrangement_of arrangement) n floor a b m us vs couplings (length results) (length work)
      (unsound (job_given n floor a b m (single_factors couplings) manner) us vs)

  lent-call : (r ≡ 23 → ⊥)
      → Correlated n floor a b m us vs (single_factors couplings) manner arrangement caller r results results' work work'
  lent-call h = record {
    answer =
        call.answer
        ∙ correlations_as_lent request (single_factors couplings) (length (kept a b m)) (L.single_pass couplings (length (kept a b m))) (λ p. h (call.answer ∙ p));
    answers = call.answers;
    memory = call.memory;
  }

  -- It is the call of `correlations` with the table's factors,
  pub house_correlations_lent : (r ≡ 23 → ⊥) → Correlated n floor a b m us vs (single_factors couplings) manner arrangement caller r results results' work work'
  house_correlations_lent = lent-call

  -- which on the same lists answers and leaves the same.
  pub house-results-same : (r ≡ 23 → ⊥) → {s : ℕ} {results'' work'' : List Float}
      → Correlated n floor a b m us vs (single_factors couplings) manner arrangement caller s results results'' work work'' → (r ≡ s) × (results' ≡ results'') × (work' ≡ work'')
  house-results-same h {s} d =
      let c = lent-call h in
      let e : r ≡ s = c.answer ∙ sym d.answer in
      (e, c.answers ∙ rw e (sym d.answers), c.memory ∙ rw e (sym d.memory))

  -- Where it is accepted, the factor of each kept edge is its coupling's.
  pub house-result-factors : r ≡ 0 → (e : ℕ) → e < length (kept a b m) → TableEntry (get_or couplings e nan) false (get_or (single_factors couplings) e nan)
  house-result-factors accepted =
      L.single-entries couplings (length (kept a b m)) (passed-at (housed of_correlations) request (sym call.answer ∙ accepted) Key.couplings refl)

-- ---- `house_exhaustive`

module _ {n floor : ℕ} {a b : List ℕ} {m : List Float} {us vs : List ℕ} {betas : List Float} {manner : Manner} {arrangement : Arrangement} {caller : Caller} {r : Result ℕ Refusal}
    {squares squares' fourths fourths' work work' : List Float} (call : HouseEnumerated n floor a b m us vs betas manner arrangement caller r squares squares' fourths fourths' work work') where
  abbrev counting : Request
  counting =
      house_enumeration_request caller (arrangement_of arrangement) n floor a b m us vs betas (free a b m) most_counted
      (misfits (length betas * length us) (length squares) (length fourths)) (length work) (unsound_all (house_given n floor a b m us vs betas manner arrangement caller))

  -- It is the call of `exhaustive` with the table's factors,
  pub house_enumeration_lent : (r ≡ Err Couplings → ⊥)
      → Enumerated n floor a b m us vs betas (table_factors a b m betas) manner arrangement caller r squares squares' fourths fourths' work work'
  house_enumeration_lent h = record {
    call = L.totalled_by (enumeration_as_lent counting (table_factors a b m betas) (signed_factors (length betas) (length (kept a b m))) (L.paired_pass a b m betas)) call.call h;
  }

  -- which on the same lists answers and leaves the same.
  pub house_totals_same : (r ≡ Err Couplings → ⊥) → {s : Result ℕ Refusal} {squares'' fourths'' work'' : List Float}
      → Enumerated n floor a b m us vs betas (table_factors a b m betas) manner arrangement caller s squares squares'' fourths fourths'' work work''
      → (r ≡ s) × (squares' ≡ squares'') × (fourths' ≡ fourths'') × (work' ≡ work'')
  house_totals_same h {s} d =
      let c = (house_enumeration_lent h).call in
      (answered-only _ _ r s c.answer d.call.answer, c.squares_are ∙ sym d.call.squares_are, c.fourths_are ∙ sym d.call.fourths_are, c.memory ∙ sym d.call.memory)

  -- Where it is accepted, the factors of each beta and kept edge are its coupling's, which is their product rounded once.
  pub house_enumeration_factors : (count : ℕ) → r ≡ Ok count → (beta e : ℕ) (minus : Bool) → beta < length betas → e < length (kept a b m)
      → TableEntry (mul binary64 (get_or betas beta nan) (get_or (kept_magnitudes a b m) e nan)) minus
      (get_or (table_factors a b m betas) (lent_at (length (kept a b m)) beta e minus) nan)
  house_enumeration_factors count accepted =
      L.paired-entries a b m betas
      (passed-at (housed of_enumeration) counting (sym call.call.answer.0 ∙ ap (λ (x : Result ℕ Refusal). refused x) accepted) Key.couplings refl)

-- ---- `house_exhaustive_c`

module _ {n floor : ℕ} {a b : List ℕ} {m : List Float} {us vs : List ℕ} {betas : List Float} {manner : Manner} {arrangement : Arrangement} {caller : Caller} {r : Result ℕ Refusal}
    {stored stored' work work' : List Float} (call : HouseEnumeratedEach n floor a b m us vs betas manner arrangement caller r stored stored' work work') where
  abbrev storing : Request
  storing =
      house_enumeration_request caller (arrangement_of arrangement) n floor a b m us vs betas (free a b m) most_stored
      (misfit_stored (house_given n floor a b m us vs betas manner arrangement caller) (length stored)) (length work) (unsound_all (house_given n floor a b m us vs betas manner arrangement caller))

  -- It is the call of `exhaustive_c` with the table's factors,
  pub house-storing-lent : (r ≡ Err Couplings → ⊥)
      → EnumeratedEach n floor a b m us vs betas (table_factors a b m betas) manner arrangement caller r stored stored' work work'
  house-storing-lent h = record {
    call = L.stored_by (enumeration_as_lent storing (table_factors a b m betas) (signed_factors (length betas) (length (kept a b m))) (L.paired_pass a b m betas)) call.call h;
  }

  -- which on the same lists answers and leaves the same.
  pub house-stored-same : (r ≡ Err Couplings → ⊥) → {s : Result ℕ Refusal} {stored'' work'' : List Float}
      → EnumeratedEach n floor a b m us vs betas (table_factors a b m betas) manner arrangement caller s stored stored'' work work''
      → (r ≡ s) × (stored' ≡ stored'') × (work' ≡ work'')
  house-stored-same h {s} d =
      let c = (house-storing-lent h).call in
      (answered-only _ _ r s c.answer d.call.answer, c.stored_are ∙ sym d.call.stored_are, c.memory ∙ sym d.call.memory)

  -- Where it is accepted, the factors of each beta and kept edge are its coupling's, which is their product rounded once.
  pub house-stored-factors : (count : ℕ) → r ≡ Ok count → (beta e : ℕ) (minus : Bool) → beta < length betas → e < length (kept a b m)
      → TableEntry (mul binary64 (get_or betas beta nan) (get_or (kept_magnitudes a b m) e nan)) minus
      (get_or (table_factors a b m betas) (lent_at (length (kept a b m)) beta e minus) nan)
  house-stored-factors count accepted =
      L.paired-entries a b m betas
      (passed-at (housed of_enumeration) storing (sym call.call.answer.0 ∙ ap (λ (x : Result ℕ Refusal). refused x) accepted) Key.couplings refl)

-- ---- `house_sample`

module _ {n floor : ℕ} {a b : List ℕ} {m : List Float} {us vs : List ℕ} {betas : List Float} {manner : Manner} {arrangement : Arrangement} {caller : Caller} {seed from to samples : ℕ} {r : Result ℕ Refusal}
    {squares squares' fourths fourths' work work' : List Float} (call : HouseSampled n floor a b m us vs betas manner arrangement caller seed from to samples r squares squares' fourths fourths' work work') where
  abbrev drawing : Request
  drawing =
      house_sampling_request caller (arrangement_of arrangement) n floor a b m us vs betas (free a b m) from to samples
      (misfits (length betas * length us) (length squares) (length fourths)) (length work) (unsound_drawn (house_given n floor a b m us vs betas manner arrangement caller) seed from to samples)

  -- It is the call of `sample` with the table's factors,
  pub house_sampling_lent : (r ≡ Err Couplings → ⊥)
      → Sampled n floor a b m us vs betas (table_factors a b m betas) manner arrangement caller seed from to samples r squares squares' fourths fourths' work work'
  house_sampling_lent h = record {
    call = L.totalled_by (sampling_as_lent drawing (table_factors a b m betas) (signed_factors (length betas) (length (kept a b m))) (L.paired_pass a b m betas)) call.call h;
  }

  -- which on the same lists answers and leaves the same.
  pub house-samples-same : (r ≡ Err Couplings → ⊥) → {s : Result ℕ Refusal} {squares'' fourths'' work'' : List Float}
      → Sampled n floor a b m us vs betas (table_factors a b m betas) manner arrangement caller seed from to samples s squares squares'' fourths fourths'' work work''
      → (r ≡ s) × (squares' ≡ squares'') × (fourths' ≡ fourths'') × (work' ≡ work'')
  house-samples-same h {s} d =
      let c = (house_sampling_lent h).call in
      (answered-only _ _ r s c.answer d.call.answer, c.squares_are ∙ sym d.call.squares_are, c.fourths_are ∙ sym d.call.fourths_are, c.memory ∙ sym d.call.memory)

  -- Where it is accepted, the factors of each beta and kept edge are its coupling's, which is their product rounded once.
  pub house_sampling_factors : (count : ℕ) → r ≡ Ok count → (beta e : ℕ) (minus : Bool) → beta < length betas → e < length (kept a b m)
      → TableEntry (mul binary64 (get_or betas beta nan) (get_or (kept_magnitudes a b m) e nan)) minus
      (get_or (table_factors a b m betas) (lent_at (length (kept a b m)) beta e minus) nan)
  house_sampling_factors count accepted =
      L.paired-entries a b m betas
      (passed-at (housed of_sampling) drawing (sym call.call.answer.0 ∙ ap (λ (x : Result ℕ Refusal). refused x) accepted) Key.couplings refl)
