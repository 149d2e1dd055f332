-- The forward sweep: its start, and an iteration.
use mathlib.Core.Path.{◌≡◌, refl, sym, ap, ◌∙◌, subst}
use mathlib.Core.Bool.{Bool, false, cond}
use mathlib.Core.List.{List}
use mathlib.Core.Logic.{inl, inr, ⊎_elim, dite}
use Prim.Native.Nat.{ℕ, suc, ◌+◌, ◌-◌, ◌^◌, ◌≤◌, ◌<◌}
use native.Mathlib.Numerals.{add-one}
use native.Mathlib.Decide.{dec_lt}
use native.Mathlib.Omega.{arith}
use lib.ListN.{length, get_or, drop, set, length-set}
use lib.Seq.{get_or-set_same, get_or-set_other, drop-set-lt}
use lib.Ieee.{Float, nan, binary64, div}
use Rattle.list_laws.specs.Tabulate.{tabulate}
use Rattle.list_laws.proofs.Laws.Tabulate.{tabulate-length}
use Rattle.transfer_matrix.specs.Job.{Job, Manner, Step, block, per_element, step_of}
use Rattle.transfer_matrix.specs.Rounded.{ieee}
use Rattle.transfer_matrix.specs.Sweep as S
use Rattle.plan_steps.specs.Layout.{step_in, forward_place, backward_place}
use Rattle.step_tables.specs.Place.{held, hold}
use Rattle.half_vectors.specs.Symmetric.{SymmetricHalf}
use Rattle.half_vectors.proofs.Laws.Symmetric.{start-half, forward-half}
use Rattle.half_vectors.proofs.Laws.Largest.{stored_symmetric}
use Rattle.pair_sums.specs.Terms.{half_at}
use Rattle.vertex_step.proofs.Laws.Same.{symmetric_ext, symmetric_as}
use Rattle.vertex_step.specs.Frame.{Fits}
use Rattle.vertex_step.proofs.Laws.Frame.{moving-fits, half-held, Wrote, wrote_length, wrote_half, wrote_other, wrote_at, wrote_drop, set-held}
use Rattle.vertex_step.specs.Ready.{Ready, PlanOf, Stepping}
use Rattle.vertex_step.proofs.Laws.Steady.{step-below}
use Rattle.vertex_step.specs.Through.{Through, forward_by, through}
use Rattle.vertex_step.proofs.Laws.Through.{through-one, through-two}
use Rattle.sweep_places.specs.Target.{Target}
use Rattle.sweep_places.specs.Kept.{Since}
use Rattle.sweep_places.specs.Steps.{ForwardTwo, ForwardSteps}
use Rattle.sweep_places.specs.ForwardInvariant.{NewestForward, ForwardInvariant}
use Rattle.sweep_places.proofs.Targets.{Aimed, target_fits, target_own, target_kind, target_other, target_free}
use Rattle.sweep_places.proofs.Frames.{place_of, stepping, since_none, since_wrote}
use Rattle.sweep_places.proofs.Unscaled.{unscaled}

-- ---- the definition, opened

-- the step that follows s
abbrev step_after : Job Float → ℕ → List Float × Float → List Float
step_after J t s = S.forward_step ieee J.window (step_of J t) (div binary64 ieee.𝟙 s.1) s.0

vector-next : (J : Job Float) (t : ℕ) → (S.before_step ieee J (suc t)).0 ≡ step_after J t (S.before_step ieee J t)
unfolding S.before_step S.sweep_forward
vector-next J t = refl

entry_next : (J : Job Float) (t : ℕ) → (S.before_step ieee J (suc t)).1 ≡ S.stored ieee J.manner 3 t (S.before_step ieee J (suc t)).0
unfolding S.before_step S.sweep_forward
entry_next J t = refl

forward-is : (J : Job Float) (t : ℕ) → S.forward ieee J t ≡ (S.before_step ieee J (suc t)).0
unfolding S.forward
forward-is J t = refl

scale-is : (J : Job Float) (t : ℕ) → S.scale ieee J t ≡ div binary64 ieee.𝟙 (S.before_step ieee J t).1
unfolding S.scale
scale-is J t = refl

step-full : (J : Job Float) (t : ℕ) → length (S.before_step ieee J (suc t)).0 ≡ 2 ^ J.window
unfolding S.before_step S.sweep_forward S.forward_step
step-full J t = tabulate-length _ (2 ^ J.window)

first-vector : (J : Job Float) → (S.before_step ieee J 0).0 ≡ S.start ieee J.window
unfolding S.before_step
first-vector J = refl

first_entry : (J : Job Float) → (S.before_step ieee J 0).1 ≡ ieee.𝟙
unfolding S.before_step
first_entry J = refl

-- ---- the start: e is the room at entry

module _ {plan : List ℕ} (e : List Float) {r : List Float} {n w scales : ℕ} (g : Ready plan (length e) n w scales)
    (made : r ≡ hold e w 0 (tabulate (λ _. ieee.𝟙) (2 ^ (w - 1)))) where
  first_fits : Fits w scales 0
  first_fits = moving-fits w scales 0 (omega arith) g.moving

  first-inside : Fits w (length e) 0
  first-inside = (place_of g 0 first_fits).inside

  abbrev first_wrote : Wrote e r w 0
  first_wrote = record { vector = tabulate (λ _. ieee.𝟙) (2 ^ (w - 1)); full = tabulate-length _ (2 ^ (w - 1)); done = made }

  pub start-same : Since (backward_place plan) e r n w (scales + n)
  start-same =
      since_wrote (backward_place plan) e r (scales + n) 0 g g.backward (omega arith) first_fits (λ u b p x. omega (arith, g.backward.high u b p)) first_wrote

  first_symmetric : SymmetricHalf w (half_at r w 0) (S.start ieee w)
  first_symmetric = symmetric_ext (start-half w g.wide) (wrote_half e r w 0 first_wrote first-inside (λ _. ieee.𝟙) refl)

  pub forward-start : (elementwise : Bool) {one : Float} → one ≡ ieee.𝟙 → ForwardInvariant plan r r n w scales elementwise 0 0 one
  forward-start elementwise o =
      record {
        below = omega arith;
        ready = rw start-same.same g;
        since = since_none (backward_place plan) r n w (scales + n);
        free = record { fits = first_fits; off = λ u c d p x. omega (arith, g.forward.high u c p) };
        newest = λ J of. record {
          vector = symmetric_as first_symmetric (ap (S.start ieee) (sym of.window) ∙ sym (first-vector J));
          entry = o ∙ sym (first_entry J);
          kept = record { vectors = λ u c. absurd (omega arith); scaled = λ u c. absurd (omega arith) };
        };
      }

-- ---- an iteration: the scales are stored, then the steps are taken

pub steps-inside : {plan : List ℕ} {n w : ℕ} {elementwise : Bool} {t last : ℕ} → ForwardSteps plan n w elementwise t last → t < n → (t ≤ last) × (last < n)
steps-inside (inl e) b = omega arith
steps-inside (inr p) b = omega (arith, p.next, p.inside)

module _ {plan : List ℕ} {r₀ r : List Float} {n w scales : ℕ} {elementwise : Bool} {t last src dst : ℕ} {most : Float}
    (g : ForwardInvariant plan r₀ r n w scales elementwise t src most) (b : t < n) (steps : ForwardSteps plan n w elementwise t last)
    (target : Target (forward_place plan last) src dst) where
  last-order : t ≤ last
  last-order = (steps-inside steps b).0

  last-inside : last < n
  last-inside = (steps-inside steps b).1

  aimed : Aimed (forward_place plan) n w scales last src dst
  aimed = record { own = g.ready.forward; moving = g.ready.moving; below = last-inside; target = target }

  pub forward-fits : Fits w scales dst
  forward-fits = target_fits aimed

  module _ (one scale : Float) where
    -- the room with the scales
    abbrev r₁ : List Float
    r₁ = set (set r (scales + last) one) (scales + t) scale

    length-same : length r₁ ≡ length r
    length-same = length-set (set r (scales + last) one) (scales + t) scale ∙ length-set r (scales + last) one

    pub forward-stepping : Stepping plan (length r₁) w (scales + n) t src dst
    forward-stepping =
        rw length-same
        (stepping g.ready t src dst b g.free.fits forward-fits (target_other aimed (λ u. t ≤ u) g.free last-order))

    pub forward-steps : Through plan (length r₁) w (scales + n) t last
    forward-steps =
        rw length-same
        (⊎_elim inl
        (λ p. inr (record { wide = p.wide; reads = (stepping g.ready last src dst last-inside g.free.fits forward-fits (target_other aimed (λ u. t ≤ u) g.free last-order)).reads }))
        steps)

    room : (u : ℕ) → u < n → scales + u < length r
    room u l = let e = g.ready.ends in omega arith

    -- the scales lie behind the places
    places : (p : ℕ) → Fits w scales p → held r₁ w p ≡ held r w p
    places p f =
        let l = length-set r (scales + last) one in
        set-held (set r (scales + last) one) w (scales + t) p scale (omega (arith, room t b)) (omega arith)
        ∙ set-held r w (scales + last) p one (room last last-inside) (omega arith)

    module _ {r₂ : List Float} {most' : Float} (unit : one ≡ ieee.𝟙) (one-over : scale ≡ div binary64 ieee.𝟙 most)
        (step : r₂ ≡ hold r₁ w dst (tabulate (through (forward_by plan (drop (scales + n) r₁) w false) t last scale one (half_at r₁ w src)) (2 ^ (w - 1))))
        (taken : most' ≡ S.stored ieee (cond elementwise per_element block) 3 last (tabulate (half_at r₂ w dst) (2 ^ (w - 1)))) where
      -- the steps
      abbrev by : ℕ → Float → (ℕ → Float) → ℕ → Float
      by = forward_by plan (drop (scales + n) r₁) w false

      abbrev half : ℕ → Float
      half = through by t last scale one (half_at r₁ w src)

      abbrev wrote : Wrote r₁ r₂ w dst
      wrote = record { vector = tabulate half (2 ^ (w - 1)); full = tabulate-length half (2 ^ (w - 1)); done = step }

      inside : (p : ℕ) → Fits w scales p → Fits w (length r₁) p
      inside p f = rw length-same (place_of g.ready p f).inside

      tail₁ : drop (scales + n) r₁ ≡ drop (scales + n) r₀
      tail₁ =
          drop-set-lt (scales + n) (set r (scales + last) one) (scales + t) scale (omega arith)
          ∙ drop-set-lt (scales + n) r (scales + last) one (omega (arith, last-inside)) ∙ g.since.tail

      -- in job J
      module _ (J : Job Float) (of : PlanOf J plan (drop (scales + n) r₀) n w elementwise) where
        abbrev before : ℕ → List Float × Float
        before u = S.before_step ieee J u

        newest : NewestForward J plan r w scales t src most
        newest = g.newest J of

        scale_now : scale ≡ div binary64 ieee.𝟙 (before t).1
        scale_now = one-over ∙ ap (div binary64 ieee.𝟙) newest.entry

        said : (u : ℕ) → u < n → step_in plan (drop (scales + n) r₁) u ≡ step_of J u
        said u l = ap (λ (x : List Float). step_in plan x u) tail₁ ∙ of.step u l

        -- a step from a half of the vector v
        stepped : (u : ℕ) → u < n → (c : Float) (h : ℕ → Float) (v : List Float) → SymmetricHalf w h v → SymmetricHalf w (by u c h) (S.forward_step ieee w (step_of J u) c v)
        stepped u l c h v e =
            symmetric_as (forward-half w (step_in plan (drop (scales + n) r₁) u) c h v g.ready.wide (step-below (drop (scales + n) r₁) (g.ready.vertex u l)) e)
            (ap (λ (s : Step Float). S.forward_step ieee w s c v) (said u l))

        first : SymmetricHalf w (by t scale (half_at r₁ w src)) (before (suc t)).0
        first =
            symmetric_as (stepped t b scale (half_at r₁ w src) (before t).0 (symmetric_ext newest.vector (half-held r r₁ w src (places src g.free.fits))))
            (ap (λ (c : Float). S.forward_step ieee w (step_of J t) c (before t).0) scale_now
            ∙ ap (λ (k : ℕ). S.forward_step ieee k (step_of J t) (div binary64 ieee.𝟙 (before t).1) (before t).0) (sym of.window)
            ∙ sym (vector-next J t))

        next_one : ForwardTwo plan n w elementwise t last → one ≡ div binary64 ieee.𝟙 (before last).1
        next_one p =
            let e : last ≡ suc t = omega (arith, p.next) in
            unit
            ∙ rw e (sym (ap (div binary64 ieee.𝟙) (entry_next J t) ∙ unscaled J.manner elementwise 3 t (before (suc t)).0 of.manner p.blocks p.due))

        second : ForwardTwo plan n w elementwise t last → SymmetricHalf w (by last one (by t scale (half_at r₁ w src))) (before (suc last)).0
        second p =
            let e : suc t ≡ last = omega (arith, p.next) in
            symmetric_as (stepped last last-inside one (by t scale (half_at r₁ w src)) (before (suc t)).0 first)
            (ap (λ (u : ℕ). S.forward_step ieee w (step_of J last) one (before u).0) e
            ∙ ap (λ (c : Float). S.forward_step ieee w (step_of J last) c (before last).0) (next_one p)
            ∙ ap (λ (k : ℕ). S.forward_step ieee k (step_of J last) (div binary64 ieee.𝟙 (before last).1) (before last).0) (sym of.window)
            ∙ sym (vector-next J last))

        made : SymmetricHalf w half (before (suc last)).0
        made =
            ⊎_elim
            (λ e.
            subst (λ (h : ℕ → Float). SymmetricHalf w h (before (suc last)).0) (sym (through-one by t last scale one (half_at r₁ w src) e))
            (symmetric_as first (ap (λ (u : ℕ). (before (suc u)).0) (sym e))))
            (λ p.
            subst (λ (h : ℕ → Float). SymmetricHalf w h (before (suc last)).0)
            (sym (through-two by t last scale one (half_at r₁ w src) (λ e. omega (arith, p.next)))) (second p))
            steps

        vector : SymmetricHalf w (half_at r₂ w dst) (before (suc last)).0
        vector = symmetric_ext made (wrote_half r₁ r₂ w dst wrote (inside dst forward-fits) half refl)

        kept-vector : (u : ℕ) → u < last + 1 → 0 < forward_place plan u → SymmetricHalf w (half_at r₂ w (forward_place plan u)) (S.forward ieee J u)
        kept-vector u c p =
            dite (dec_lt u last)
            (λ d.
            let q = forward_place plan u in
            let l : u < n = omega (arith, last-inside) in
            let fu = g.ready.forward.fits u l p in
            let own = target_own aimed u l (λ x. omega arith) p in
            let early : u < t = ⊎_elim (λ e. omega arith) (λ pair. passed d pair) steps in
            symmetric_ext (newest.kept.vectors u early p)
            (half-held r r₂ w q (wrote_other r₁ r₂ w dst wrote (inside dst forward-fits) q (λ e. own (sym e)) (inside q fu) ∙ places q fu)))
            (λ d.
            let e : u ≡ last = omega arith in
            let p' : 0 < forward_place plan last = rw e at p in
            rw e
            (symmetric_as (subst (λ (q : ℕ). SymmetricHalf w (half_at r₂ w q) (before (suc last)).0) (target.keeps p') vector) (sym (forward-is J last))))
          where
            -- the vector between is not kept
            passed : u < last → ForwardTwo plan n w elementwise t last → u < t
            passed d pair = dite (dec_lt u t) (λ l. l) (λ l. let e : u ≡ t = omega (arith, pair.next) in absurd (omega (arith, pair.passing, rw e at p)))

        kept_scale : (u : ℕ) → u < last + 1 → get_or r₂ (scales + u) nan ≡ S.scale ieee J u
        kept_scale u c =
            wrote_at r₁ r₂ w dst wrote (inside dst forward-fits) (scales + u) (omega (arith, forward-fits))
            ∙ dite (dec_lt u t)
            (λ d.
            get_or-set_other (set r (scales + last) one) (scales + t) (scales + u) scale nan (λ x. omega arith)
            ∙ get_or-set_other r (scales + last) (scales + u) one nan (λ x. omega (arith, last-order)) ∙ newest.kept.scaled u d)
            (λ d. later d)
          where
            l : length (set r (scales + last) one) ≡ length r
            l = length-set r (scales + last) one

            at_t : get_or r₁ (scales + t) nan ≡ S.scale ieee J t
            at_t =
                get_or-set_same (set r (scales + last) one) (scales + t) scale nan (omega (arith, room t b, l)) ∙ scale_now ∙ sym (scale-is J t)

            at_last : ForwardTwo plan n w elementwise t last → get_or r₁ (scales + last) nan ≡ S.scale ieee J last
            at_last p =
                get_or-set_other (set r (scales + last) one) (scales + t) (scales + last) scale nan (λ x. omega (arith, p.next))
                ∙ get_or-set_same r (scales + last) one nan (room last last-inside) ∙ next_one p ∙ sym (scale-is J last)

            later : (u < t → ⊥) → get_or r₁ (scales + u) nan ≡ S.scale ieee J u
            later d =
                dite (dec_lt t u)
                (λ x. ⊎_elim (λ e. absurd (omega arith)) (λ p. let e : u ≡ last = omega (arith, p.next) in rw e (at_last p)) steps)
                (λ x. let e : u ≡ t = omega arith in rw e at_t)

        newest_iteration : NewestForward J plan r₂ w scales (last + 1) dst most'
        newest_iteration =
            let one' : last + 1 ≡ suc last = add-one last in
            let manner = ap (λ (m : Manner). S.stored ieee m 3 last (tabulate (half_at r₂ w dst) (2 ^ (w - 1)))) (sym of.manner) in
            let full : length (before (suc last)).0 ≡ 2 ^ w = step-full J last ∙ ap (λ (k : ℕ). 2 ^ k) of.window in
            record {
              vector = rw one' vector;
              entry = rw one' (taken ∙ manner ∙ sym (stored_symmetric g.ready.wide full vector J.manner 3 last) ∙ sym (entry_next J last));
              kept = record { vectors = kept-vector; scaled = kept_scale };
            }

      -- a forward vector is written where no backward vector is kept
      kept-backward : (v : ℕ) → v < n → 0 < backward_place plan v → held r₂ w (backward_place plan v) ≡ held r₀ w (backward_place plan v)
      kept-backward v c p =
          let q = backward_place plan v in
          let f = g.ready.backward.fits v c p in
          wrote_other r₁ r₂ w dst wrote (inside dst forward-fits) q
          (target_kind aimed q (g.ready.backward.high v c p) (λ e. g.ready.kinds last v last-inside c (omega arith) (sym e)))
          (inside q f)
          ∙ places q f ∙ g.since.vectors v c p

      pub forward_iteration : ForwardInvariant plan r₀ r₂ n w scales elementwise (last + 1) dst most'
      forward_iteration =
          let fits = inside dst forward-fits in
          let same : length r₂ ≡ length r = wrote_length r₁ r₂ w dst wrote fits ∙ length-same in
          record {
            below = omega (arith, last-inside);
            ready = rw same g.ready;
            since = record {
              same = same ∙ g.since.same;
              tail = wrote_drop r₁ r₂ w dst wrote fits (scales + n) (omega (arith, forward-fits)) ∙ tail₁;
              vectors = kept-backward;
            };
            free = target_free aimed (λ u. last + 1 ≤ u) (λ u q e. omega arith);
            newest = newest_iteration;
          }
