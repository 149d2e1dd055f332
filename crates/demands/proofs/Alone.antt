-- In accepted calls a pair's bits depend on its job alone, that is on graph, window, factors and manner: not on other pairs or betas, nor on the order
-- of its ends, nor on what the lists held, nor on the entry that is called.
use Rattle.std.specs.Prelude.{◌≡◌, refl, Bool, List, ℕ, ◌+◌, ◌-◌, ◌*◌, ◌^◌, ◌≤◌, ◌<◌, Float, length}
use Rattle.std.proofs.Common.{sym, ◌∙◌}
use Rattle.std.proofs.Math.Path.{ap}
use Rattle.std.proofs.Math.Nat.{min_comm, max_comm}
use Rattle.std.specs.Float.Ieee.{nan, div}
use Rattle.std.specs.Float.{binary64}
use Rattle.std.proofs.Math.ListN.{get_or}
use Rattle.list_laws.specs.Tabulate.{tabulate}
use Rattle.list_laws.proofs.Laws.Tabulate.{tabulate-at, tabulate_ext}
use Rattle.transfer_matrix.specs.Configuration.{lent_at, edges_with, configured}
use Rattle.transfer_matrix.specs.Job.{Job}
use Rattle.transfer_matrix.specs.Room.{earlier, later}
use Rattle.transfer_matrix.specs.Rounded.{ieee}
use Rattle.transfer_matrix.specs.Sweep as S
use Rattle.transfer_matrix.specs.Totals.{square, fourth, enumerated, sampled}
use Rattle.refusals.specs.Edges.{window_from}
use Rattle.totals_configuration.specs.Powers.{correlation_at}
use Rattle.totals_configuration.proofs.Laws.Powers.{pair-numbered}
use Rattle.entry_correlations.specs.Correlations.{manner_of, job_given}
use Rattle.entry_correlations.specs.declared.Manner.{Manner}
use Rattle.demands.proofs.Configurations.{early, signed_job}
use Rattle.totals_call.specs.Given.{Given}
use Rattle.demands.proofs.Calls.{CorrelationsCall, ExhaustiveCall, StoringCall, SampleCall, Place, number, number-inside}
use Rattle.demands.proofs.Calls.{job_of, free_of, configuration_of, drawn_of}
use Rattle.demands.proofs.Correlations.{result-is}
use Rattle.demands.proofs.Exhaustive.{squares_are, fourths_are}
use Rattle.demands.proofs.Storing.{stored-at}
use Rattle.demands.proofs.Sampling.{sampled_squares_are, sampled_fourths_are}
use Rattle.demands.proofs.Laws.Summed.{enumerated-same, sampled-same}

-- ---- one pair

-- Pair i of two lists of ends and pair j of two others are one pair, whichever end comes first.
pub record SamePair (us vs : List ℕ) (i : ℕ) (us₂ vs₂ : List ℕ) (j : ℕ) : Type 0 where
  pub early-end : earlier us vs i ≡ earlier us₂ vs₂ j
  pub late-end : later us vs i ≡ later us₂ vs₂ j

-- with its ends exchanged, say
pub turned_pair : (us vs : List ℕ) (i : ℕ) → SamePair us vs i vs us i
turned_pair us vs i = record { early-end = min_comm (get_or us i 0) (get_or vs i 0); late-end = max_comm (get_or us i 0) (get_or vs i 0) }

-- The answer of a job for pair i.
abbrev pub answer_at : Job Float → List ℕ → List ℕ → ℕ → Float
answer_at J us vs i = S.answer ieee J (get_or us i 0) (get_or vs i 0)

-- N over Z of the earlier and the later end
answer-is : (J : Job Float) (us vs : List ℕ) (i : ℕ)
    → answer_at J us vs i ≡ div binary64 (S.N ieee J (earlier us vs i) (later us vs i)) (S.Z ieee J (later us vs i))
unfolding S.answer
answer-is J us vs i = refl

pub same_answer : {J K : Job Float} {us vs us₂ vs₂ : List ℕ} {i j : ℕ} → J ≡ K → SamePair us vs i us₂ vs₂ j → answer_at J us vs i ≡ answer_at K us₂ vs₂ j
same_answer {J} {K} {us} {vs} {us₂} {vs₂} {i} {j} e p =
    answer-is J us vs i ∙ rw (e, p.early-end, p.late-end) (sym (answer-is K us₂ vs₂ j))

-- ---- `correlations`

pub results-alone : (c d : CorrelationsCall) (i j : ℕ) → i < length c.us → j < length d.us
    → job_of c ≡ job_of d → SamePair c.us c.vs i d.us d.vs j → get_or c.results' i nan ≡ get_or d.results' j nan
results-alone c d i j k l e p = result-is c.call refl i k ∙ same_answer e p ∙ sym (result-is d.call refl j l)

-- ---- `exhaustive_c`

-- The double that is stored for configuration x.
abbrev pub stored_at : (c : StoringCall) → Place c.given → ℕ → Float
stored_at c at x = get_or c.stored' (number at * 2 ^ free_of c.given + x) nan

stored_is : (c : StoringCall) (at : Place c.given) (x : ℕ) → x < 2 ^ free_of c.given
    → stored_at c at x ≡ answer_at (configuration_of c.given x at.beta) c.given.us c.given.vs at.pair
stored_is c at x h = stored-at c.call x at.beta at.pair h at.beta-inside at.pair_inside

pub stored-alone : (c d : StoringCall) (at : Place c.given) (to : Place d.given) (x y : ℕ)
    → x < 2 ^ free_of c.given → y < 2 ^ free_of d.given → configuration_of c.given x at.beta ≡ configuration_of d.given y to.beta
    → SamePair c.given.us c.given.vs at.pair d.given.us d.given.vs to.pair → stored_at c at x ≡ stored_at d to y
stored-alone c d at to x y k l e p = stored_is c at x k ∙ same_answer e p ∙ sym (stored_is d to y l)

-- A stored correlation is what `correlations` answers for that configuration's job,
pub stored-is-result : (c : StoringCall) (d : CorrelationsCall) (at : Place c.given) (x j : ℕ) → x < 2 ^ free_of c.given → j < length d.us
    → configuration_of c.given x at.beta ≡ job_of d → SamePair c.given.us c.given.vs at.pair d.us d.vs j
    → stored_at c at x ≡ get_or d.results' j nan
stored-is-result c d at x j k l e p = stored_is c at x k ∙ same_answer e p ∙ sym (result-is d.call refl j l)

-- which is the job of the same graph, window and manner with that configuration's factors, one for each kept edge.
module _ (n floor : ℕ) (a b : List ℕ) (m factors : List Float) (manner : Manner) (minus : ℕ → Bool) (beta : ℕ) where
  abbrev pub factors_in_use : List Float
  factors_in_use = tabulate (λ e. get_or factors (lent_at (length (early a b m)) beta e (minus e)) nan) (length (early a b m))

  pub job_in_use : job_given n floor a b m factors_in_use manner ≡ signed_job n floor a b m factors manner minus beta
  unfolding edges_with configured
  job_in_use =
      ap (λ es. record { last = n - 1; window = window_from floor a b m; edges = es; manner = manner_of manner })
      (tabulate_ext _ _ (length (early a b m))
      (λ e l. rw (tabulate-at (λ i. get_or factors (lent_at (length (early a b m)) beta i (minus i)) nan) (length (early a b m)) e nan l)))

-- ---- `exhaustive`

-- Doubles r that are the answers of a call's configurations at a beta and pair.
abbrev pub Enumerates : (g : Given) → Place g → (ℕ → Float) → Type 0
Enumerates g at r = (x : ℕ) → x < 2 ^ free_of g → answer_at (configuration_of g x at.beta) g.us g.vs at.pair ≡ r x

enumerated-of : (power : Float → Float) (g : Given) (at : Place g) (r : ℕ → Float) → Enumerates g at r
    → enumerated ieee power (free_of g) (λ x. correlation_at (configuration_of g x) g.us g.vs (number at)) ≡ enumerated ieee power (free_of g) r
enumerated-of power g at r h =
    enumerated-same power (free_of g) _ r
    (λ x l. sym (pair-numbered (configuration_of g x) g.us g.vs at.beta at.pair at.pair_inside) ∙ h x l)

-- A total is that of any such doubles, of those that calls of `correlations` answer, say:
pub squares-of : (c : ExhaustiveCall) (at : Place c.given) (r : ℕ → Float) → Enumerates c.given at r
    → get_or c.squares' (number at) nan ≡ enumerated ieee (square ieee) (free_of c.given) r
squares-of c at r h = squares_are c.call (number at) (number-inside at) ∙ enumerated-of (square ieee) c.given at r h

pub fourths-of : (c : ExhaustiveCall) (at : Place c.given) (r : ℕ → Float) → Enumerates c.given at r
    → get_or c.fourths' (number at) nan ≡ enumerated ieee (fourth ieee) (free_of c.given) r
fourths-of c at r h = fourths_are c.call (number at) (number-inside at) ∙ enumerated-of (fourth ieee) c.given at r h

-- One pair of two calls for totals, at a beta of each: their configurations are one job each.
pub record SameConfigurations (g h : Given) (at : Place g) (to : Place h) : Type 0 where
  pub free-edges : free_of g ≡ free_of h
  pub jobs : (x : ℕ) → x < 2 ^ free_of g → configuration_of g x at.beta ≡ configuration_of h x to.beta
  pub pairs : SamePair g.us g.vs at.pair h.us h.vs to.pair

-- of two calls of `exhaustive`,
pub totals_alone : (c d : ExhaustiveCall) (at : Place c.given) (to : Place d.given) → SameConfigurations c.given d.given at to
    → (get_or c.squares' (number at) nan ≡ get_or d.squares' (number to) nan) × (get_or c.fourths' (number at) nan ≡ get_or d.fourths' (number to) nan)
totals_alone c d at to one =
    let g = d.given in
    let r : ℕ → Float = λ x. answer_at (configuration_of g x to.beta) g.us g.vs to.pair in
    let same : Enumerates c.given at r = λ x l. same_answer (one.jobs x l) one.pairs in (
      squares-of c at r same ∙ rw one.free-edges (sym (squares-of d to r (λ x l. refl))),
      fourths-of c at r same ∙ rw one.free-edges (sym (fourths-of d to r (λ x l. refl))),
    )

-- and of `exhaustive_c`: the totals are those of the stored doubles.
pub totals_of_stored : (c : ExhaustiveCall) (d : StoringCall) (at : Place c.given) (to : Place d.given) → SameConfigurations c.given d.given at to
    → (get_or c.squares' (number at) nan ≡ enumerated ieee (square ieee) (free_of c.given) (stored_at d to))
    × (get_or c.fourths' (number at) nan ≡ enumerated ieee (fourth ieee) (free_of c.given) (stored_at d to))
totals_of_stored c d at to one =
    let same : Enumerates c.given at (stored_at d to) = λ x l.
    same_answer (one.jobs x l) one.pairs ∙ sym (stored_is d to x (rw one.free-edges at l)) in
    (squares-of c at (stored_at d to) same, fourths-of c at (stored_at d to) same)

-- ---- `sample`

-- Doubles r that are the answers of a call's samples at a beta and pair.
abbrev pub Samples : (c : SampleCall) → Place c.given → (ℕ → ℕ → Float) → Type 0
Samples c at r =
    let g = c.given in
    (chunk j : ℕ) → c.from ≤ chunk → chunk < c.to → j < c.samples
    → answer_at (drawn_of g c.seed chunk j at.beta) g.us g.vs at.pair ≡ r chunk j

sampled-of : (power : Float → Float) (c : SampleCall) (at : Place c.given) (r : ℕ → ℕ → Float) → Samples c at r
    → sampled ieee power c.from c.to c.samples (λ i j. correlation_at (drawn_of c.given c.seed i j) c.given.us c.given.vs (number at))
    ≡ sampled ieee power c.from c.to c.samples r
sampled-of power c at r h =
    let g = c.given in
    sampled-same power c.from c.to c.samples _ r
    (λ i j u v s. sym (pair-numbered (drawn_of g c.seed i j) g.us g.vs at.beta at.pair at.pair_inside) ∙ h i j u v s)

-- A total is that of any such doubles, of those that calls of `correlations` answer, say.
pub sampled-squares-of : (c : SampleCall) (at : Place c.given) (r : ℕ → ℕ → Float) → Samples c at r
    → get_or c.squares' (number at) nan ≡ sampled ieee (square ieee) c.from c.to c.samples r
sampled-squares-of c at r h = sampled_squares_are c.call (number at) (number-inside at) ∙ sampled-of (square ieee) c at r h

pub sampled-fourths-of : (c : SampleCall) (at : Place c.given) (r : ℕ → ℕ → Float) → Samples c at r
    → get_or c.fourths' (number at) nan ≡ sampled ieee (fourth ieee) c.from c.to c.samples r
sampled-fourths-of c at r h = sampled_fourths_are c.call (number at) (number-inside at) ∙ sampled-of (fourth ieee) c at r h

-- One pair of two calls, at a beta of each: the same chunks and samples, one job each.
pub record SameSamples (c d : SampleCall) (at : Place c.given) (to : Place d.given) : Type 0 where
  pub starts : c.from ≡ d.from
  pub ends : c.to ≡ d.to
  pub sizes : c.samples ≡ d.samples
  pub jobs : (chunk j : ℕ) → c.from ≤ chunk → chunk < c.to → j < c.samples
      → drawn_of c.given c.seed chunk j at.beta ≡ drawn_of d.given d.seed chunk j to.beta
  pub pairs : SamePair c.given.us c.given.vs at.pair d.given.us d.given.vs to.pair

pub samplings_alone : (c d : SampleCall) (at : Place c.given) (to : Place d.given) → SameSamples c d at to
    → (get_or c.squares' (number at) nan ≡ get_or d.squares' (number to) nan) × (get_or c.fourths' (number at) nan ≡ get_or d.fourths' (number to) nan)
samplings_alone c d at to one =
    let g = d.given in
    let r : ℕ → ℕ → Float = λ i j. answer_at (drawn_of g d.seed i j to.beta) g.us g.vs to.pair in
    let same : Samples c at r = λ i j u v s. same_answer (one.jobs i j u v s) one.pairs in (
      sampled-squares-of c at r same ∙ rw (one.starts, one.ends, one.sizes) (sym (sampled-squares-of d to r (λ i j u v s. refl))),
      sampled-fourths-of c at r same ∙ rw (one.starts, one.ends, one.sizes) (sym (sampled-fourths-of d to r (λ i j u v s. refl))),
    )
