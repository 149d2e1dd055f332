-- What a call for totals has ready once it is planned, and what is known when it is finished.
use Rattle.std.specs.Prelude.{◌≡◌, refl, Bool, true, false, cond, not, List, ◌++◌, ℕ, ◌*◌, ◌/◌, ◌%◌, ◌^◌, ◌≤◌, Float, length, take, drop}
use Rattle.std.proofs.Common.{sym, ap, ◌∙◌, subst, mul-le-mul_right, arith, pow_mono, length-take-le}
use Rattle.std.proofs.lemmas.List.{length-replicate}
use Rattle.list_laws.specs.Search.{some}
use Rattle.list_laws.specs.Tabulate.{tabulate}
use Rattle.forest.specs.FreeEdges.{free_count, bits_of}
use Rattle.transfer_matrix.specs.Room.{Arrangement, arranged, room}
use Rattle.transfer_matrix.specs.Job.{Job}
use Rattle.plan_steps.specs.Layout.{Holds}
use Rattle.pair_order.specs.Order.{InOrder}
use Rattle.plan_layout.specs.Work.{Planned}
use Rattle.pair_correlations.proofs.Laws.Planning.{ready, serves, end_fits}
use Rattle.totals_configuration.specs.Powers.{correlation_at, unsound_betas}
use Rattle.totals_configuration.specs.Stage.{Stage, EnoughFactors}
use Rattle.totals_chunks.specs.declared.Chunks.{Chunks}
use Rattle.totals_chunks.specs.Totals.{Summable}
use Rattle.totals_enumerated.specs.Configurations.{Enumerates}
use Rattle.job_run.specs.Zeros.{zeros}
use Rattle.totals_call.specs.Finished.{Passed, Numbered, Finished, Answered}
use Rattle.totals_call.proofs.Laws.Entering.{few-products}
use Rattle.totals_call.proofs.Laws.Signing.{as_long, few_bits}

module _ {A : Arrangement} {n w : ℕ} {early late us vs : List ℕ} {factors betas work : ℕ} (p : Passed A n w early late us vs factors betas work) where
  pub enough-factors : (m : ℕ) → m ≡ length early → EnoughFactors factors m betas
  enough-factors m e =
      let l = p.job.few-edges in
      let h : betas * m ≤ 64 * m = mul-le-mul_right m p.few-betas in
      let f : factors ≡ 2 * (betas * m) = p.factored ∙ ap (λ (k : ℕ). 2 * (betas * k)) (sym e) in
      record { enough = omega arith; few = omega arith }

  -- a sum for each beta and pair
  pub few-sums : betas * length us ≤ 16384
  few-sums = few-products betas (length us) p.few-betas p.job.few-pairs

  module _ {plan : List ℕ} {places scales at end : ℕ} (g : Planned A plan early late us vs n w places scales at end) where
    pub staged : (order : List ℕ) (m end' results : ℕ) (elementwise less : Bool) → A ≡ arranged less → Holds plan n → InOrder order us vs w → m ≡ length early → end' ≡ end → results ≡ length us
        → Stage plan us vs order m (record { n = n; w = w; scales = scales; elementwise = elementwise; less = less; betas = betas }) end' results
    staged order m end' results elementwise less arrangement holds ordered e f r = rw (e, f) (record {
      some = p.job.some;
      ready = ready A plan early late us vs n w places scales at end work p.job g holds;
      ends = omega (arith, g.laid.factors-at, g.laid.ends);
      served = serves A plan early late us vs n w places scales at end work p.job g less arrangement;
      ordered = ordered;
      fitting = r;
    })

    -- the room lies in the work memory
    pub room_fits : end ≤ work
    room_fits = end_fits A plan early late us vs n w places scales at end work p.job g

    -- the room is +0.0, and what lies past it stayed
    pub finished : (bad : Bool) (squared fourthed : List Float) (sums : ℕ) (sound : Bool) (squares fourths memory room' : List Float) → length memory ≡ work
        → room' ≡ zeros (length (take end memory)) → Answered bad squared sums sound squares → Answered bad fourthed sums sound fourths
        → Finished bad squared fourthed sums (room A n w (length early) us vs) sound squares fourths memory (room' ++ drop end memory)
    finished bad squared fourthed sums sound squares fourths memory room' long cleared s f =
        let t = length-take-le end memory (omega (arith, end_fits A plan early late us vs n w places scales at end work p.job g)) in
        let z : room' ≡ zeros (room A n w (length early) us vs) = cleared ∙ ap zeros (t ∙ g.ends) in
        let k : length (zeros (room A n w (length early) us vs)) ≡ end = length-replicate _ _ ∙ sym g.ends in
        record {
          squares_are = s;
          fourths_are = f;
          memory = ap (λ (r : List Float). r ++ drop end memory) z
              ∙ ap (λ (j : ℕ). zeros (room A n w (length early) us vs) ++ drop j memory) (sym k);
        }

pub enumerates : (early late bits : List ℕ) (signs free : ℕ) → bits ≡ bits_of early late → signs ≡ length early → free ≡ free_count early late → free ≤ 34
    → Enumerates bits signs 0 (2 ^ free)
enumerates early late bits signs free given e f few =
    let m : 2 ^ free ≤ 2 ^ 34 = pow_mono few in
    record {
      matched = e ∙ sym (as_long early late bits given);
      bits_fit = few_bits early late bits given (omega arith);
      fits = omega arith;
    }

-- what the chunks of so many free edges ask for
pub summable : (early late : List ℕ) (k : Chunks) (bits : List ℕ) (signs : ℕ) → Numbered k early late bits → signs ≡ length early → Summable k bits signs
summable early late k bits signs g e = record {
  matched = e ∙ sym g.long;
  bits_fit = λ d. few_bits early late bits (g.given d) (omega (arith, g.few d));
  fits = g.fits;
}

-- ---- what a list holds in the end

pub cleared-answers : (bad r : Bool) (answers list list' : List Float) (n : ℕ) → r ≡ not bad → (r ≡ true → list ≡ answers) → length list ≡ n
    → list' ≡ cond r list (zeros (length list)) → Answered bad answers n r list'
cleared-answers bad true answers list list' n t q l e = record { verdict = t; values = e ∙ q refl }
cleared-answers bad false answers list list' n t q l e = record { verdict = t; values = e ∙ ap zeros l }

-- of every correlation of so many free edges, said of those that the graph has
module _ (J : ℕ → ℕ → Job Float) (us vs : List ℕ) (betas : ℕ) (r : Bool) (list list' : List Float) where
  abbrev unsound_of : ℕ → Bool
  unsound_of k = some (λ x. unsound_betas (J x) us vs betas) (2 ^ k)

  abbrev correlations_of : ℕ → List Float
  correlations_of k = tabulate (λ i. correlation_at (J (i % 2 ^ k)) us vs (i / 2 ^ k)) (betas * length us * 2 ^ k)

  pub cleared-stored : (free free' : ℕ) → free ≡ free' → r ≡ not (unsound_of free) → list' ≡ cond r list (zeros (length list))
      → (r ≡ true → list ≡ correlations_of free) → length list ≡ betas * length us * 2 ^ free
      → Answered (unsound_of free') (correlations_of free') (betas * length us * 2 ^ free) r list'
  cleared-stored free free' f t e q l =
      subst (λ (k : ℕ). Answered (unsound_of k) (correlations_of k) (betas * length us * 2 ^ free) r list') f
      (cleared-answers (unsound_of free) r (correlations_of free) list list' (betas * length us * 2 ^ free) t q l e)
