-- What the plan of a job ensures is what the sweeps and the answers ask for.
use Rattle.std.specs.Prelude.{◌≡◌, refl, Bool, false, cond, List, ℕ, ◌+◌, ◌*◌, ◌-◌, ◌^◌, ◌≤◌, ◌<◌, length, get_or, Float}
use Rattle.std.proofs.Common.{sym, ap, ◌∙◌, mul-le-mul_right, arith}
use Rattle.std.specs.Float.{nan}
use Rattle.transfer_matrix.specs.Job.{block, per_element}
use Rattle.transfer_matrix.specs.Configuration.{job_of}
use Rattle.transfer_matrix.specs.Room.{Arrangement, arranged}
use Rattle.plan_steps.specs.Layout.{Holds, forward_place, backward_place}
use Rattle.pair_places.specs.Places.{moving, places_of, backward_from}
use Rattle.pair_places.proofs.Laws.Places.{forward-inside, backward-inside, forward-apart, backward-apart, kinds-apart}
use Rattle.plan_layout.specs.Work.{Laid, Planned}
use Rattle.plan_layout.proofs.Laws.Work.{place-fits}
use Rattle.plan_layout.specs.Plannable.{Plannable}
use Rattle.vertex_step.specs.Ready.{Own, Ready, PlanOf}
use Rattle.pair_correlations.specs.Served.{Served}
use Rattle.pair_correlations.proofs.Laws.Served.{served}

module _ (A : Arrangement) (plan early late us vs : List ℕ) (n w places scales factors end : ℕ) (g : Planned A plan early late us vs n w places scales factors end) where
  -- a place below their number lies before the scales
  below : (p : ℕ) → p < places_of A n w us vs → p * 2 ^ w + 2 ^ w ≤ scales
  below p b = place-fits n w (length early) places scales factors end p g.laid (omega (arith, g.count-is))

  first_two : 2 * 2 ^ w ≤ scales
  first_two = omega (arith, below 1 (omega arith))

  pub ready_of : 1 ≤ w → w ≤ 24 → Holds plan n → Ready plan end n w scales
  ready_of wide narrow holds =
      let l = g.laid in
      let m : end - (scales + n) ≡ length early = omega (arith, l.factors-at, l.ends) in
      record {
        wide = wide;
        narrow = narrow;
        holds = holds;
        moving = first_two;
        ends = omega (arith, l.factors-at, l.ends);
        vertex = λ t b. rw m (g.steps.vertex t b);
        forward = record {
          high = λ t b p. (forward-inside A plan us vs n w g.kept t b p).0;
          fits = λ t b p. below (forward_place plan t) (omega (arith, (forward-inside A plan us vs n w g.kept t b p).1));
          apart = λ t u b c p e. forward-apart A plan us vs n w g.kept t u b c p e;
        };
        backward = record {
          high = λ t b p. omega (arith, (backward-inside A plan us vs n w g.kept t b p).0);
          fits = λ t b p. below (backward_place plan t) (backward-inside A plan us vs n w g.kept t b p).1;
          apart = λ t u b c p e. backward-apart A plan us vs n w g.kept t u b c p e;
        };
        kinds = λ t u b c p e. kinds-apart A plan us vs n w g.kept t u b c p e;
      }

  -- the plan is that of the job, whatever the factors and the manner
  pub plan_of : 1 ≤ n → (x : List Float) (elementwise : Bool) → PlanOf (job_of nan n w early late x (cond elementwise per_element block)) plan x n w elementwise
  plan_of some x elementwise =
      record { vertices = omega arith; window = refl; manner = refl; step = λ t b. g.steps.step x (cond elementwise per_element block) t b }

-- ---- of a job that a plan can be made of

module _ (A : Arrangement) (plan early late us vs : List ℕ) (n w places scales at end work : ℕ) (p : Plannable A n w early late us vs work)
    (g : Planned A plan early late us vs n w places scales at end) where
  -- the room is what 01 says, and there is so much
  pub end_fits : end ≤ work
  end_fits = omega (arith, g.ends, p.roomy)

  pub ready : Holds plan n → Ready plan end n w scales
  ready holds = ready_of A plan early late us vs n w places scales at end g p.edges.wide p.edges.narrow holds

  pub serves : (less : Bool) → A ≡ arranged less → Served plan us vs n w less
  serves less e = served less plan us vs n w (rw e at g.kept) p.pairs p.distinct
