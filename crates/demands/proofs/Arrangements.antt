-- Both arrangements of a call, with room for both: the same answer, 14 too, and the same bits in every list of results. And the second's room is no larger.
use Rattle.std.specs.Prelude.{◌≡◌, refl, Bool, true, false, cond, ◌&&◌, ◌||◌, List, ℕ, zero, suc, ◌+◌, ◌*◌, ◌^◌, ◌≤◌, eqb, Float, length}
use Rattle.std.proofs.Common.{sym, ◌∙◌, mul-le-mul_left, arith}
use Rattle.std.proofs.Math.Bool.{or-true}
use Rattle.limits.specs.declared.Caller.{Caller}
use Rattle.list_laws.specs.Count.{count}
use Rattle.list_laws.specs.Search.{some}
use Rattle.transfer_matrix.specs.Room.{keep_all, less_room, later, waits, is_propagated, keeps_backward, room}
use Rattle.std.specs.declared.result.Result.{Result}
use Rattle.refusals.specs.declared.Refusal.{Refusal}
use Rattle.std.specs.declared.result.Result.TheVariants.{Err}
use Rattle.refusals.specs.declared.Refusal.TheVariants.{WorkMemory}
use Rattle.refusals.proofs.Laws.Answers.{answered-only}
use Rattle.refusals.specs.Refusal.{of_correlations, of_enumeration, of_sampling, housed, sourced}
use Rattle.refusals.specs.Request.{Request, Source, correlation_request, enumeration_request, sampling_request, most_counted, most_stored}
use Rattle.refusals.specs.Request.{house_enumeration_request, house_sampling_request}
use Rattle.refusals.specs.AcceptedTotals.{misfits}
use Rattle.plan_layout.specs.declared.Arrangement.{Arrangement}
use Rattle.plan_layout.specs.Arrangements.{arrangement_of}
use Rattle.pair_correlations.specs.Sound.{unsound}
use Rattle.entry_correlations.specs.Correlations.{job_given, factors_from, CorrelatedBy}
use Rattle.entry_correlations.specs.declared.Manner.{Manner}
use Rattle.totals_call.specs.Given.{Given}
use Rattle.totals_call.specs.Calls.{Totalled, Stored, Enumerated, EnumeratedEach, Sampled, misfit_stored, unsound_all, unsound_drawn}
use Rattle.totals_call.specs.Calls.{house_given, HouseEnumerated, HouseEnumeratedEach, HouseSampled}
use Rattle.demands.proofs.Configurations.{free}
use Rattle.demands.proofs.Laws.Arranged.{arrangements_alike}

-- ---- the rooms

-- where more vertices pass, no fewer are counted
count-more : (s t : ℕ → Bool) → ((i : ℕ) → s i ≡ true → t i ≡ true) → (n : ℕ) → count s n ≤ count t n
unfolding count
count-more s t h zero = omega arith
count-more s t h (suc n) = go (s n) (t n) (h n) (count-more s t h n)
  where
    go : (a b : Bool) → (a ≡ true → b ≡ true) → count s n ≤ count t n → count s n + cond a 1 0 ≤ count t n + cond b 1 0
    go true true e l = omega (arith, l)
    go true false e l = let f = e refl in absurd (let z : ◌≡◌ {A = ℕ} 0 1 = cc in omega arith)
    go false b e l = omega (arith, l)

-- a pair that passes one test passes the other
some_more : (s t : ℕ → Bool) → ((i : ℕ) → s i ≡ true → t i ≡ true) → (n : ℕ) → some s n ≡ true → some t n ≡ true
unfolding some
some_more s t h zero e = e
some_more s t h (suc n) e = go (some s n) (s n) (some t n) (t n) (some_more s t h n) (h n) e
  where
    go : (a b c d : Bool) → (a ≡ true → c ≡ true) → (b ≡ true → d ≡ true) → (a || b) ≡ true → (c || d) ≡ true
    go true b c d f g e = rw (f refl) refl
    go false true c d f g e = rw (g refl) (or-true c)
    go false false c d f g e = absurd (let z : ◌≡◌ {A = ℕ} 0 1 = cc in omega arith)

kept_more : (w : ℕ) (us vs : List ℕ) (t : ℕ) → keeps_backward less_room w us vs t ≡ true → keeps_backward keep_all w us vs t ≡ true
unfolding keeps_backward
kept_more w us vs t = some_more (λ i. eqb (later us vs i) t && waits less_room w us vs i) (λ i. eqb (later us vs i) t && waits keep_all w us vs i) (λ i. go (eqb (later us vs i) t) (is_propagated w us vs i)) (length us)
  where
    go : (a b : Bool) → (a && b) ≡ true → (a && true) ≡ true
    go true b e = refl
    go false b e = e

pub less-room : (n w m : ℕ) (us vs : List ℕ) → room less_room n w m us vs ≤ room keep_all n w m us vs
unfolding room
less-room n w m us vs =
    let few = count-more (keeps_backward less_room w us vs) (keeps_backward keep_all w us vs) (kept_more w us vs) n in
    omega (arith, mul-le-mul_left (2 ^ w) few)

-- ---- `correlations`, and `house_correlations`: by the source of the factors, of this list of factors or couplings

module _ (source : Source) (n floor : ℕ) (a b : List ℕ) (m : List Float) (us vs : List ℕ) (list : List Float) (manner : Manner) (caller : Caller)
    (results work : List Float) where
  abbrev request : Request
  request =
      correlation_request caller keep_all n floor a b m us vs list (length results) (length work) (unsound (job_given n floor a b m (factors_from source list) manner) us vs)

  pub results_alike : (one other : Arrangement) {r s : ℕ} {results' results'' work' work'' : List Float}
      → CorrelatedBy source n floor a b m us vs list manner one caller r results results' work work' → (r ≡ 13 → ⊥)
      → CorrelatedBy source n floor a b m us vs list manner other caller s results results'' work work'' → (s ≡ 13 → ⊥)
      → (r ≡ s) × (results' ≡ results'')
  results_alike one other {r} {s} c h d i =
      let e : r ≡ s = c.answer
      ∙ arrangements_alike (sourced source of_correlations) (arrangement_of one) (arrangement_of other) request (λ p. h (c.answer ∙ p)) (λ p. i (d.answer ∙ p))
      ∙ sym d.answer in
      (e, c.answers ∙ rw e (sym d.answers))

-- ---- totals, by the refusals of two calls that are given the same but for the arrangement

module _ {k j count : ℕ} {squared fourthed : List Float} {end end' : ℕ} {r s : Result ℕ Refusal} {squares squares' squares'' fourths fourths' fourths'' work work' work'' : List Float} where
  same_totals : ((k ≡ 13 → ⊥) → (j ≡ 13 → ⊥) → k ≡ j) → Totalled k count squared fourthed end r squares squares' fourths fourths' work work'
      → (r ≡ Err WorkMemory → ⊥) → Totalled j count squared fourthed end' s squares squares'' fourths fourths'' work work'' → (s ≡ Err WorkMemory → ⊥)
      → (r ≡ s) × (squares' ≡ squares'') × (fourths' ≡ fourths'')
  same_totals alike t h d i =
      let e : k ≡ j = alike (λ p. h (answered-only k count r (Err WorkMemory) t.answer (sym p, tt))) (λ p. i (answered-only j count s (Err WorkMemory) d.answer (sym p, tt))) in
      (answered-only k count r s t.answer (rw e d.answer), t.squares_are ∙ rw e (sym d.squares_are), t.fourths_are ∙ rw e (sym d.fourths_are))

module _ {k j count : ℕ} {correlations : List Float} {end end' : ℕ} {r s : Result ℕ Refusal} {stored stored' stored'' work work' work'' : List Float} where
  same-stored : ((k ≡ 13 → ⊥) → (j ≡ 13 → ⊥) → k ≡ j) → Stored k count correlations end r stored stored' work work' → (r ≡ Err WorkMemory → ⊥)
      → Stored j count correlations end' s stored stored'' work work'' → (s ≡ Err WorkMemory → ⊥) → (r ≡ s) × (stored' ≡ stored'')
  same-stored alike t h d i =
      let e : k ≡ j = alike (λ p. h (answered-only k count r (Err WorkMemory) t.answer (sym p, tt))) (λ p. i (answered-only j count s (Err WorkMemory) d.answer (sym p, tt))) in
      (answered-only k count r s t.answer (rw e d.answer), t.stored_are ∙ rw e (sym d.stored_are))

module _ (n floor : ℕ) (a b : List ℕ) (m : List Float) (us vs : List ℕ) (betas factors : List Float) (manner : Manner) (one other : Arrangement) (caller : Caller) where
  abbrev given : Given
  given = record { n = n; floor = floor; a = a; b = b; m = m; us = us; vs = vs; betas = betas; factors = factors; manner = manner; arrangement = one; caller = caller }

  -- ---- `exhaustive`

  module _ (squares fourths work : List Float) where
    abbrev counting : Request
    counting =
        enumeration_request caller keep_all n floor a b m us vs betas factors (free a b m) most_counted
        (misfits (length betas * length us) (length squares) (length fourths)) (length work) (unsound_all given)

    pub totals_alike : {r s : Result ℕ Refusal} {squares' squares'' fourths' fourths'' work' work'' : List Float}
        → Enumerated n floor a b m us vs betas factors manner one caller r squares squares' fourths fourths' work work' → (r ≡ Err WorkMemory → ⊥)
        → Enumerated n floor a b m us vs betas factors manner other caller s squares squares'' fourths fourths'' work work'' → (s ≡ Err WorkMemory → ⊥)
        → (r ≡ s) × (squares' ≡ squares'') × (fourths' ≡ fourths'')
    totals_alike t h d i = same_totals (arrangements_alike of_enumeration (arrangement_of one) (arrangement_of other) counting) t.call h d.call i

  -- ---- `exhaustive_c`

  module _ (stored work : List Float) where
    abbrev storing : Request
    storing =
        enumeration_request caller keep_all n floor a b m us vs betas factors (free a b m) most_stored (misfit_stored given (length stored)) (length work)
        (unsound_all given)

    pub stored_alike : {r s : Result ℕ Refusal} {stored' stored'' work' work'' : List Float}
        → EnumeratedEach n floor a b m us vs betas factors manner one caller r stored stored' work work' → (r ≡ Err WorkMemory → ⊥)
        → EnumeratedEach n floor a b m us vs betas factors manner other caller s stored stored'' work work'' → (s ≡ Err WorkMemory → ⊥)
        → (r ≡ s) × (stored' ≡ stored'')
    stored_alike t h d i = same-stored (arrangements_alike of_enumeration (arrangement_of one) (arrangement_of other) storing) t.call h d.call i

  -- ---- `sample`

  module _ (seed from to samples : ℕ) (squares fourths work : List Float) where
    abbrev drawing : Request
    drawing =
        sampling_request caller keep_all n floor a b m us vs betas factors (free a b m) from to samples
        (misfits (length betas * length us) (length squares) (length fourths)) (length work) (unsound_drawn given seed from to samples)

    pub samples_alike : {r s : Result ℕ Refusal} {squares' squares'' fourths' fourths'' work' work'' : List Float}
        → Sampled n floor a b m us vs betas factors manner one caller seed from to samples r squares squares' fourths fourths' work work' → (r ≡ Err WorkMemory → ⊥)
        → Sampled n floor a b m us vs betas factors manner other caller seed from to samples s squares squares'' fourths fourths'' work work'' → (s ≡ Err WorkMemory → ⊥)
        → (r ≡ s) × (squares' ≡ squares'') × (fourths' ≡ fourths'')
    samples_alike t h d i = same_totals (arrangements_alike of_sampling (arrangement_of one) (arrangement_of other) drawing) t.call h d.call i

-- ---- the house calls for totals

module _ (n floor : ℕ) (a b : List ℕ) (m : List Float) (us vs : List ℕ) (betas : List Float) (manner : Manner) (one other : Arrangement) (caller : Caller) where
  abbrev house_one : Given
  house_one = house_given n floor a b m us vs betas manner one caller

  abbrev house_enumerating : (most : ℕ) → (misfit : Bool) → (work : ℕ) → Request
  house_enumerating most misfit work = house_enumeration_request caller keep_all n floor a b m us vs betas (free a b m) most misfit work (unsound_all house_one)

  -- ---- `house_exhaustive`

  module _ (squares fourths work : List Float) where
    pub house_totals_alike : {r s : Result ℕ Refusal} {squares' squares'' fourths' fourths'' work' work'' : List Float}
        → HouseEnumerated n floor a b m us vs betas manner one caller r squares squares' fourths fourths' work work' → (r ≡ Err WorkMemory → ⊥)
        → HouseEnumerated n floor a b m us vs betas manner other caller s squares squares'' fourths fourths'' work work'' → (s ≡ Err WorkMemory → ⊥)
        → (r ≡ s) × (squares' ≡ squares'') × (fourths' ≡ fourths'')
    house_totals_alike t h d i =
        same_totals
        (arrangements_alike (housed of_enumeration) (arrangement_of one) (arrangement_of other)
        (house_enumerating most_counted (misfits (length betas * length us) (length squares) (length fourths)) (length work)))
        t.call h d.call i

  -- ---- `house_exhaustive_c`

  module _ (stored work : List Float) where
    pub house_stored_alike : {r s : Result ℕ Refusal} {stored' stored'' work' work'' : List Float}
        → HouseEnumeratedEach n floor a b m us vs betas manner one caller r stored stored' work work' → (r ≡ Err WorkMemory → ⊥)
        → HouseEnumeratedEach n floor a b m us vs betas manner other caller s stored stored'' work work'' → (s ≡ Err WorkMemory → ⊥)
        → (r ≡ s) × (stored' ≡ stored'')
    house_stored_alike t h d i =
        same-stored
        (arrangements_alike (housed of_enumeration) (arrangement_of one) (arrangement_of other)
        (house_enumerating most_stored (misfit_stored house_one (length stored)) (length work)))
        t.call h d.call i

  -- ---- `house_sample`

  module _ (seed from to samples : ℕ) (squares fourths work : List Float) where
    abbrev house_drawing : Request
    house_drawing =
        house_sampling_request caller keep_all n floor a b m us vs betas (free a b m) from to samples
        (misfits (length betas * length us) (length squares) (length fourths)) (length work) (unsound_drawn house_one seed from to samples)

    pub house_samples_alike : {r s : Result ℕ Refusal} {squares' squares'' fourths' fourths'' work' work'' : List Float}
        → HouseSampled n floor a b m us vs betas manner one caller seed from to samples r squares squares' fourths fourths' work work' → (r ≡ Err WorkMemory → ⊥)
        → HouseSampled n floor a b m us vs betas manner other caller seed from to samples s squares squares'' fourths fourths'' work work'' → (s ≡ Err WorkMemory → ⊥)
        → (r ≡ s) × (squares' ≡ squares'') × (fourths' ≡ fourths'')
    house_samples_alike t h d i =
        same_totals (arrangements_alike (housed of_sampling) (arrangement_of one) (arrangement_of other) house_drawing) t.call h d.call i
