-- How a propagated vector starts and goes on by one step, at a moving place.
use mathlib.Core.Path.{◌≡◌, refl, sym, ap, ◌∙◌, subst}
use mathlib.Core.Bool.{Bool, true}
use mathlib.Core.List.{List}
use mathlib.Core.Logic.{inl, inr, ⊎_elim}
use Prim.Native.Nat.{ℕ, suc, ◌+◌, ◌-◌, ◌^◌, ◌≤◌, ◌<◌}
use native.Mathlib.Omega.{arith}
use lib.ListN.{length, get_or, drop}
use lib.Ieee.{Float, nan}
use Rattle.list_laws.specs.Tabulate.{tabulate}
use Rattle.list_laws.proofs.Laws.Tabulate.{tabulate-length}
use Rattle.transfer_matrix.specs.Job.{Job, Step, step_of}
use Rattle.transfer_matrix.specs.Rounded.{ieee}
use Rattle.transfer_matrix.specs.Sweep as S
use Rattle.plan_steps.specs.Layout.{step_in, forward_place}
use Rattle.step_tables.specs.Place.{Places, hold}
use Rattle.half_vectors.specs.Antisymmetric.{AntisymmetricHalf, alternate_half}
use Rattle.half_vectors.proofs.Laws.Antisymmetric.{alternate_antisymmetric, forward_antisymmetric}
use Rattle.pair_sums.specs.Terms.{half_at}
use Rattle.vertex_step.proofs.Laws.Same.{antisymmetric_ext}
use Rattle.vertex_step.proofs.Laws.Frame.{Wrote, wrote_half}
use Rattle.vertex_step.specs.Ready.{Ready, Readable, Stepping, Still}
use Rattle.vertex_step.proofs.Laws.Ready.{still-none, still-then, still_wrote, still-ready, moving-place, tail-factors, tail-scale}
use Rattle.vertex_step.specs.Through.{Through, forward_by, through}
use Rattle.vertex_step.proofs.Laws.Through.{through-one, through-two}
use Rattle.vertex_step.proofs.Laws.Steady.{step-below}
use Rattle.propagation.specs.declared.current.CurrentVector.{CurrentVector}
use Rattle.propagation.specs.Current.{PlanSwept, Reached, AdvanceSteps, Advanced, Propagated}
use Rattle.propagation.proofs.Laws.Current.{still-passed}

-- ---- the definition's propagated vectors

propagated-start : (J : Job Float) (u t : ℕ) → t ≡ 0 → S.propagated ieee J u t ≡ S.alternate ieee J.window (S.forward ieee J u)
unfolding S.propagated
propagated-start J u t e = rw e

propagated-more : (J : Job Float) (u i : ℕ)
    → S.propagated ieee J u (suc i)
    ≡ S.forward_step ieee J.window (step_of J (u + suc i)) (S.scale ieee J (u + suc i)) (S.propagated ieee J u i)
unfolding S.propagated
propagated-more J u i = refl

propagated-step : (J : Job Float) (u t : ℕ) → u ≤ t
    → S.propagated ieee J u (t + 1 - u)
    ≡ S.forward_step ieee J.window (step_of J (t + 1)) (S.scale ieee J (t + 1)) (S.propagated ieee J u (t - u))
propagated-step J u t l =
    let e : t + 1 - u ≡ suc (t - u) = omega arith in
    let g : u + suc (t - u) ≡ t + 1 = omega arith in
    rw e
    (propagated-more J u (t - u)
    ∙ ap (λ (k : ℕ). S.forward_step ieee J.window (step_of J k) (S.scale ieee J k) (S.propagated ieee J u (t - u))) g)

step_same : (w w' : ℕ) (s s' : Step Float) (x x' : Float) (v : List Float) → w ≡ w' → s ≡ s' → x ≡ x'
    → S.forward_step ieee w s x v ≡ S.forward_step ieee w' s' x' v
step_same w w' s s' x x' v a b c = cc

-- ---- on by no step, and by an iteration of one or two: from place src to the other moving place

pub advance-none : (plan : List ℕ) (r : List Float) (n w scales from at : ℕ) → at < 2 → Advanced plan r r n w scales from at from at
advance-none plan r n w scales from at l = record { moving = l; still = still-none r w scales; reached = λ J elementwise u passed before. before }

pub steps-inside : {w t to last : ℕ} → AdvanceSteps w t to last → t ≤ to → (t ≤ last) × (last ≤ to)
steps-inside (inl e) b = omega arith
steps-inside (inr p) b = omega (arith, p.next, p.inside)

module _ (plan : List ℕ) (r₀ r : List Float) (n w scales from at t src : ℕ) (ready : Ready plan (length r₀) n w scales)
    (g : Advanced plan r₀ r n w scales from at t src) {to last : ℕ} (steps : AdvanceSteps w (t + 1) to last) (order : t + 1 ≤ to) (end : to < n) where
  ready_now : Ready plan (length r) n w scales
  ready_now = still-ready plan r₀ r n w scales g.still ready

  other : 1 - src < 2
  other = omega arith

  next-inside : t + 1 < n
  next-inside = omega arith

  last-inside : last < n
  last-inside = omega (arith, steps-inside steps order)

  readable : (u : ℕ) → u < n → Readable plan (length r) w (scales + n) u
  readable u l = let p = ready_now in record { holds = omega (arith, p.holds); ends = p.ends; vertex = p.vertex u l }

  pub advance-stepping : Stepping plan (length r) w (scales + n) (t + 1) src (1 - src)
  advance-stepping =
      let p = ready_now in
      record {
        reads = readable (t + 1) next-inside;
        places = record {
          from = moving-place plan (length r) n w scales src p g.moving;
          to = moving-place plan (length r) n w scales (1 - src) p other;
          other = λ e. omega (arith, g.moving);
        };
      }

  pub advance-through : Through plan (length r) w (scales + n) (t + 1) last
  advance-through = ⊎_elim inl (λ p. inr (record { wide = p.wide; reads = readable last last-inside })) steps

  -- a step from an antisymmetric half
  abbrev onward : ℕ → Float → (ℕ → Float) → ℕ → Float
  onward = forward_by plan (drop (scales + n) r) w true

  -- the half at src, on by the steps of the iteration
  abbrev gone : (scale then : Float) → ℕ → Float
  gone scale then = through onward (t + 1) last scale then (half_at r w src)

  module _ (r' : List Float) (scale then : Float) (es : scale ≡ get_or r (scales + (t + 1)) nan) (et : then ≡ get_or r (scales + last) nan)
      (made : r' ≡ hold r w (1 - src) (tabulate (gone scale then) (2 ^ (w - 1)))) where
    abbrev stepped : Wrote r r' w (1 - src)
    stepped = record { vector = tabulate (gone scale then) (2 ^ (w - 1)); full = tabulate-length (gone scale then) (2 ^ (w - 1)); done = made }

    module _ (J : Job Float) (elementwise : Bool) (u : ℕ) (passed : PlanSwept J plan r₀ n w scales elementwise) (before : Reached J r₀ w u from at) where
      now : Reached J r w u t src
      now = g.reached J elementwise u passed before

      -- a step from what is propagated to v on to v + 1
      step-on : (v : ℕ) (x : Float) (h : ℕ → Float) → u ≤ v → v + 1 < n → x ≡ get_or r (scales + (v + 1)) nan
          → AntisymmetricHalf w h (S.propagated ieee J u (v - u)) → AntisymmetricHalf w (onward (v + 1) x h) (S.propagated ieee J u (v + 1 - u))
      step-on v x h order b e o =
          let s = step_in plan (drop (scales + n) r) (v + 1) in
          let same =
          step_same w J.window s (step_of J (v + 1)) x (S.scale ieee J (v + 1)) (S.propagated ieee J u (v - u)) (sym passed.of.window)
          (ap (λ (y : List Float). step_in plan y (v + 1)) (tail-factors r₀ r scales n g.still.tail) ∙ passed.of.step (v + 1) b)
          (e ∙ tail-scale r₀ r scales (v + 1) g.still.tail ∙ passed.swept.forward.scaled (v + 1) b) in
          subst (AntisymmetricHalf w (onward (v + 1) x h)) (same ∙ sym (propagated-step J u v order))
          (forward_antisymmetric w s x h (S.propagated ieee J u (v - u)) ready.wide (step-below (drop (scales + n) r) (ready.vertex (v + 1) b)) o)

      first : AntisymmetricHalf w (onward (t + 1) scale (half_at r w src)) (S.propagated ieee J u (t + 1 - u))
      first = step-on t scale (half_at r w src) now.order next-inside es now.vector

      gone_antisymmetric : AntisymmetricHalf w (gone scale then) (S.propagated ieee J u (last - u))
      gone_antisymmetric =
          ⊎_elim (λ e. rw (through-one onward (t + 1) last scale then (half_at r w src) e, e) first)
          (λ p. rw (through-two onward (t + 1) last scale then (half_at r w src) (λ e. omega (arith, p.next))) (second p.next)) steps
        where
          second : last ≡ t + 1 + 1 → AntisymmetricHalf w (onward last then (onward (t + 1) scale (half_at r w src))) (S.propagated ieee J u (last - u))
          second e =
              let b : t + 1 + 1 < n = omega (arith, last-inside) in
              rw e (step-on (t + 1) then _ (omega (arith, now.order)) b (rw e at et) first)

    pub advance-steps : Advanced plan r₀ r' n w scales from at last (1 - src)
    advance-steps =
        let p = ready_now in
        let fits = (moving-place plan (length r) n w scales (1 - src) p other).inside in
        record {
          moving = other;
          still = still-then r₀ r r' w scales g.still (still_wrote plan r r' n w scales (1 - src) p other stepped);
          reached = λ J elementwise u passed before.
              record {
                order = omega (arith, (now J elementwise u passed before).order, steps-inside steps order);
                vector = antisymmetric_ext (gone_antisymmetric J elementwise u passed before) (wrote_half r r' w (1 - src) stepped fits (gone scale then) refl);
              };
        }

-- ---- on from the current one

pub propagated-on : (plan : List ℕ) (r₀ r : List Float) (n w scales u v on : ℕ) (current : CurrentVector) → u < n → current.vertex ≡ u
    → Advanced plan r₀ r n w scales current.reached current.place v on → Propagated plan r₀ r n w scales u v current on
propagated-on plan r₀ r n w scales u v on current b e g =
    record {
      moving = g.moving;
      still = g.still;
      reached = λ J elementwise passed known. g.reached J elementwise u passed (rw e at (known.reached (omega arith)));
    }

-- ---- anew

module _ (plan : List ℕ) (r₀ : List Float) (n w scales u : ℕ) (ready : Ready plan (length r₀) n w scales) (inside : u < n)
    (kept : 0 < forward_place plan u) where
  pub start-places : Places (length r₀) w (forward_place plan u) 0
  start-places =
      let fits = ready.forward.fits u inside kept in
      let high = ready.forward.high u inside kept in
      record {
        from = record { wide = ready.wide; narrow = ready.narrow; inside = omega (arith, ready.ends) };
        to = moving-place plan (length r₀) n w scales 0 ready (omega arith);
        other = λ e. omega arith;
      }

  -- u's half with its odd entries negated
  abbrev negated : ℕ → Float
  negated = alternate_half (half_at r₀ w (forward_place plan u))

  module _ (r₁ : List Float) (e : r₁ ≡ hold r₀ w 0 (tabulate negated (2 ^ (w - 1)))) where
    abbrev wrote : Wrote r₀ r₁ w 0
    wrote = record { vector = tabulate negated (2 ^ (w - 1)); full = tabulate-length negated (2 ^ (w - 1)); done = e }

    still-start : Still r₀ r₁ w scales
    still-start = still_wrote plan r₀ r₁ n w scales 0 ready (omega arith) wrote

    started : (J : Job Float) (elementwise : Bool) → PlanSwept J plan r₀ n w scales elementwise → Reached J r₁ w u u 0
    started J elementwise passed =
        let is : S.alternate ieee w (S.forward ieee J u) ≡ S.propagated ieee J u (u - u) =
        ap (λ (k : ℕ). S.alternate ieee k (S.forward ieee J u)) (sym passed.of.window) ∙ sym (propagated-start J u (u - u) (omega arith)) in
        let start = alternate_antisymmetric w (half_at r₀ w (forward_place plan u)) (S.forward ieee J u) ready.wide (passed.swept.forward.vectors u inside kept) in
        record {
          order = omega arith;
          vector = subst (AntisymmetricHalf w (half_at r₁ w 0)) is (antisymmetric_ext start (wrote_half r₀ r₁ w 0 wrote start-places.to.inside negated refl));
        }

    pub propagated_anew : (r : List Float) (v on : ℕ) (current : CurrentVector) → Advanced plan r₁ r n w scales u 0 v on
        → Propagated plan r₀ r n w scales u v current on
    propagated_anew r v on current g =
        record {
          moving = g.moving;
          still = still-then r₀ r₁ r w scales still-start g.still;
          reached = λ J elementwise passed known.
              g.reached J elementwise u (still-passed J plan r₀ r₁ n w scales elementwise ready still-start passed) (started J elementwise passed);
        }
