-- One configuration at one beta: what the pairs were told, of the job whose factors were laid.
use mathlib.Core.Path.{◌≡◌, sym, ap, ◌∙◌}
use mathlib.Core.Bool.{Bool}
use mathlib.Core.List.{List}
use mathlib.Core.Logic.{inl}
use Prim.Native.Nat.{ℕ, ◌+◌, ◌*◌, ◌^◌, ◌≤◌, ◌<◌}
use native.Mathlib.Nat.{mul-le-mul_right}
use native.Mathlib.Omega.{arith}
use lib.Ieee.{Float, nan}
use lib.ListN.{length, get_or, drop, length-drop}
use lib.Seq.{ext_get_or, get_or-drop}
use Rattle.list_laws.specs.Part.{put}
use Rattle.list_laws.proofs.Laws.Part.{part_at, part-put, part_put_out, put-length}
use Rattle.transfer_matrix.specs.Job.{Job}
use Rattle.plan_steps.specs.Layout.{backward_place}
use Rattle.step_tables.specs.Place.{held}
use Rattle.vertex_step.proofs.Laws.Same.{symmetric_ext}
use Rattle.vertex_step.specs.Frame.{Fits}
use Rattle.vertex_step.proofs.Laws.Frame.{half-held}
use Rattle.vertex_step.specs.Ready.{Ready, PlanOf, Backward}
use Rattle.sweep_places.specs.Begun.{Stands}
use Rattle.pair_correlations.specs.Sound.{Outcome}
use Rattle.totals_configuration.specs.declared.JobShape.{JobShape}
use Rattle.totals_configuration.specs.Stage.{Stage}
use Rattle.totals_configuration.proofs.Laws.Lists.{part_of}

-- a list laid at another's end is what lies there
pub laid-last : (d x : List Float) (at : ℕ) → at + length x ≡ length d → drop at (put d at x) ≡ x
laid-last d x at e =
    let fits : at + length x ≤ length d = omega arith in
    let l = put-length d at x fits in
    ext_get_or nan (drop at (put d at x)) x (length-drop at (put d at x) ∙ omega arith)
    (λ i b.
    let b' : i < length x = omega (arith, length-drop at (put d at x)) in
    get_or-drop at (put d at x) i nan ∙ sym (part_at (put d at x) at (length x) i nan b') ∙ ap (λ (y : List Float). get_or y i nan) (part-put d at x fits))

module _ (plan us vs : List ℕ) (x r r₁ r₂ results : List Float) (n w scales c : ℕ) (elementwise sound : Bool) (g : Ready plan (length r) n w scales)
    (laid : r₁ ≡ put r (scales + n) x) (ends : scales + n + length x ≡ length r)
    (answered : (J : Job Float) → PlanOf J plan (drop (scales + n) r₁) n w elementwise → Stands J plan r₁ n w c
    → Outcome J us vs results sound × Backward J plan r₂ n w 0) where
  fits : scales + n + length x ≤ length r
  fits = omega arith

  -- the factors lie behind the places
  laid-held : (p : ℕ) → Fits w scales p → held r₁ w p ≡ held r w p
  laid-held p f =
      ap (λ (y : List Float). held y w p) laid
      ∙ part_put_out r (scales + n) x fits nan (p * 2 ^ w) (2 ^ w) (record { from = omega (arith, g.ends); to = fits; off = inl (omega arith) })

  laid-stands : (J : Job Float) → Stands J plan r n w c → Stands J plan r₁ n w c
  laid-stands J given early =
      record {
        vectors = λ u a b p.
            symmetric_ext ((given early).vectors u a b p) (half-held r r₁ w (backward_place plan u) (laid-held _ (g.backward.fits u b p)));
      }

  pub outcome_of : (J : Job Float) → PlanOf J plan x n w elementwise → Stands J plan r n w c → Outcome J us vs results sound × Backward J plan r₂ n w 0
  outcome_of J of given =
      let e : drop (scales + n) r₁ ≡ x = ap (drop (scales + n)) laid ∙ laid-last r x (scales + n) ends in
      answered J (rw e of) (laid-stands J given)

-- lists that kept their lengths
pub stage_keep : {plan us vs order : List ℕ} {m end results end' results' : ℕ} {s : JobShape} → Stage plan us vs order m s end results
    → end' ≡ end → results' ≡ results → Stage plan us vs order m s end' results'
stage_keep g p q = rw (p, q) g

-- beta b has its own part of what is stored
pub part-stored : (b betas np all : ℕ) → b < betas → (b * np + np) * all ≤ betas * np * all
part-stored b betas np all l = mul-le-mul_right all (part_of b betas np l)
