-- A finished job, from its plan, the factors in the room and what the run said.
use mathlib.Core.Path.{◌≡◌, sym, ap, ◌∙◌}
use mathlib.Core.Bool.{Bool, cond, not}
use mathlib.Core.List.{List, ◌++◌}
use Prim.Native.Nat.{ℕ, ◌+◌, ◌≤◌, ◌<◌}
use native.Mathlib.Omega.{arith}
use lib.Ieee.{Float, nan}
use lib.ListN.{length, get_or, take, drop, length-drop, length-replicate}
use lib.Seq.{ext_get_or, get_or-drop, length-take-le}
use Rattle.list_laws.specs.Part.{put}
use Rattle.list_laws.proofs.Laws.Part.{part_at, part-put, put-length}
use Rattle.transfer_matrix.specs.Job.{Job, block, per_element}
use Rattle.transfer_matrix.specs.Configuration.{job_of}
use Rattle.transfer_matrix.specs.Room.{Arrangement, room}
use Rattle.transfer_matrix.specs.Rounded.{ieee}
use Rattle.transfer_matrix.specs.Sweep as S
use Rattle.plan_layout.specs.Work.{Planned}
use Rattle.vertex_step.specs.Ready.{PlanOf}
use Rattle.pair_correlations.specs.Sound.{unsound}
use Rattle.pair_correlations.proofs.Laws.Planning.{plan_of, end_fits}
use Rattle.job_run.specs.Zeros.{zeros}
use Rattle.job_run.specs.Passed.{JobPassed, JobFinished}

-- a list laid at another's end is what lies there
laid-last : (d x : List Float) (at : ℕ) → at + length x ≡ length d → drop at (put d at x) ≡ x
laid-last d x at e =
    let fits : at + length x ≤ length d = omega arith in
    let l = put-length d at x fits in
    ext_get_or nan (drop at (put d at x)) x (length-drop at (put d at x) ∙ omega arith)
    (λ i b.
    let b' : i < length x = omega (arith, length-drop at (put d at x)) in
    get_or-drop at (put d at x) i nan ∙ sym (part_at (put d at x) at (length x) i nan b') ∙ ap (λ (y : List Float). get_or y i nan) (part-put d at x fits))

module _ (A : Arrangement) (plan early late us vs : List ℕ) (factors : List Float) (n w places scales at end results work : ℕ)
    (p : JobPassed A n w early late us vs factors results work) (g : Planned A plan early late us vs n w places scales at end) where
  -- the factors end where the room ends
  pub factors_fit : at + length factors ≡ end
  factors_fit = omega (arith, g.laid.ends, p.factored)

  -- what the run says of any job that the plan is of, it says of this one
  module _ (memory room₁ room₂ results' : List Float) (elementwise sound : Bool) (long : length memory ≡ work)
      (laid : room₁ ≡ put (take end memory) at factors) (cleared : room₂ ≡ zeros (length room₁))
      (said : (J : Job Float) → PlanOf J plan (drop (scales + n) room₁) n w elementwise
      → (sound ≡ not (unsound J us vs)) × (results' ≡ cond sound (S.answers ieee J us vs) (zeros (length us)))) where
    taken : length (take end memory) ≡ end
    taken = length-take-le end memory (omega (arith, end_fits A plan early late us vs n w places scales at end work p.job g))

    in_room : drop (scales + n) room₁ ≡ factors
    in_room =
        let e : scales + n ≡ at = sym g.laid.factors-at in
        let f = factors_fit in
        let t = taken in
        ap (drop (scales + n)) laid ∙ ap (λ (k : ℕ). drop k (put (take end memory) at factors)) e ∙ laid-last (take end memory) factors at (omega arith)

    same : length room₁ ≡ end
    same =
        let t = taken in
        let f = factors_fit in
        ap length laid ∙ put-length (take end memory) at factors (omega arith) ∙ t

    pub finished : JobFinished (job_of nan n w early late factors (cond elementwise per_element block)) A n (length early) us vs sound results' memory (room₂ ++ drop end memory)
    finished =
        let J = job_of nan n w early late factors (cond elementwise per_element block) in
        let of : PlanOf J plan (drop (scales + n) room₁) n w elementwise =
        rw in_room (plan_of A plan early late us vs n w places scales at end g p.job.some factors elementwise) in
        let s = said J of in
        let z : room₂ ≡ zeros (room A n w (length early) us vs) = cleared ∙ ap zeros (same ∙ g.ends) in
        let k : length (zeros (room A n w (length early) us vs)) ≡ end = length-replicate _ _ ∙ sym g.ends in
        record {
          told = s.0;
          answers = s.1;
          memory = ap (λ (r : List Float). r ++ drop end memory) z
              ∙ ap (λ (j : ℕ). zeros (room A n w (length early) us vs) ++ drop j memory) (sym k);
        }
