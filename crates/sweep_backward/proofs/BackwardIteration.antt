-- The backward sweep: its start, where it goes on from, and an iteration.
use mathlib.Core.Path.{◌≡◌, refl, sym, ap, ◌∙◌, subst}
use mathlib.Core.Bool.{Bool, cond}
use mathlib.Core.List.{List}
use mathlib.Core.Logic.{inl, inr, ⊎_elim, dite}
use Prim.Native.Nat.{ℕ, suc, ◌+◌, ◌-◌, ◌^◌, ◌≤◌, ◌<◌}
use native.Mathlib.Decide.{dec_lt}
use native.Mathlib.Omega.{arith}
use lib.ListN.{length, drop}
use lib.Ieee.{Float, binary64, div}
use Rattle.list_laws.specs.Tabulate.{tabulate}
use Rattle.list_laws.proofs.Laws.Tabulate.{tabulate-length}
use Rattle.transfer_matrix.specs.Job.{Job, Manner, Step, block, per_element, step_of}
use Rattle.transfer_matrix.specs.Rounded.{ieee}
use Rattle.transfer_matrix.specs.Sweep as S
use Rattle.plan_steps.specs.Layout.{step_in, forward_place, backward_place}
use Rattle.step_tables.specs.Place.{hold}
use Rattle.half_vectors.specs.Symmetric.{SymmetricHalf}
use Rattle.half_vectors.proofs.Laws.Symmetric.{start-half}
use Rattle.half_vectors.proofs.Laws.Largest.{stored_symmetric}
use Rattle.pair_sums.specs.Terms.{half_at}
use Rattle.step_backward.proofs.Laws.Fold.{fold_symmetric}
use Rattle.vertex_step.proofs.Laws.Same.{symmetric_ext, symmetric_as}
use Rattle.vertex_step.specs.Frame.{Fits}
use Rattle.vertex_step.proofs.Laws.Frame.{half-held, Wrote, wrote_half, wrote_other}
use Rattle.vertex_step.specs.Ready.{Ready, PlanOf, Stepping, Backward}
use Rattle.vertex_step.proofs.Laws.Ready.{tail-factors}
use Rattle.vertex_step.proofs.Laws.Steady.{step-below}
use Rattle.vertex_step.specs.Through.{Through, backward_by, through}
use Rattle.vertex_step.proofs.Laws.Through.{through-one, through-two}
use Rattle.sweep_places.specs.Target.{Target, Free}
use Rattle.sweep_places.specs.Kept.{Since}
use Rattle.sweep_places.specs.Steps.{BackwardTwo, BackwardSteps}
use Rattle.sweep_places.specs.Begun.{Stands, KeptFrom, Begun, GoneOn}
use Rattle.sweep_places.specs.BackwardInvariant.{NewestBackward, BackwardInvariant}
use Rattle.sweep_places.proofs.Targets.{Aimed, target_fits, target_own, target_kind, target_other, target_free}
use Rattle.sweep_places.proofs.Frames.{place_of, stepping, since_none, since-then, since_wrote}
use Rattle.sweep_places.proofs.Unscaled.{unscaled}

-- ---- the definition, opened

-- the step that follows s
abbrev step_after : Job Float → ℕ → List Float × Float → List Float
step_after J t s = S.backward_step ieee J.window (step_of J t) (div binary64 ieee.𝟙 s.1) s.0

vector-next : (J : Job Float) (i : ℕ) → (S.after_steps ieee J (suc i)).0 ≡ step_after J (J.last - i) (S.after_steps ieee J i)
unfolding S.after_steps S.sweep_backward
vector-next J i = refl

entry_next : (J : Job Float) (i : ℕ)
    → (S.after_steps ieee J (suc i)).1 ≡ S.stored ieee J.manner 0 (J.last - i) (S.after_steps ieee J (suc i)).0
unfolding S.after_steps S.sweep_backward
entry_next J i = refl

step-full : (J : Job Float) (i : ℕ) → length (S.after_steps ieee J (suc i)).0 ≡ 2 ^ J.window
unfolding S.after_steps S.sweep_backward S.backward_step
step-full J i = tabulate-length _ (2 ^ J.window)

pub backward-is : (J : Job Float) (t : ℕ) → S.backward ieee J t ≡ (S.after_steps ieee J (J.last - t)).0
unfolding S.backward
backward-is J t = refl

first-vector : (J : Job Float) → (S.after_steps ieee J 0).0 ≡ S.start ieee J.window
unfolding S.after_steps
first-vector J = refl

first_entry : (J : Job Float) → (S.after_steps ieee J 0).1 ≡ ieee.𝟙
unfolding S.after_steps
first_entry J = refl

-- the step at t makes the vector of u, t being u + 1
module _ (J : Job Float) {n t : ℕ} (u : ℕ) (vertices : J.last + 1 ≡ n) (b : t < n) (next : t ≡ u + 1) where
  count : J.last - u ≡ suc (J.last - t)
  count = omega arith

  back : J.last - (J.last - t) ≡ t
  back = omega arith

  vector-at : (S.after_steps ieee J (J.last - u)).0 ≡ step_after J t (S.after_steps ieee J (J.last - t))
  vector-at = rw count (vector-next J (J.last - t) ∙ ap (λ (k : ℕ). step_after J k (S.after_steps ieee J (J.last - t))) back)

  entry_at : (S.after_steps ieee J (J.last - u)).1 ≡ S.stored ieee J.manner 0 t (S.after_steps ieee J (J.last - u)).0
  entry_at =
      let new = S.after_steps ieee J (suc (J.last - t)) in
      rw count (entry_next J (J.last - t) ∙ ap (λ (k : ℕ). S.stored ieee J.manner 0 k new.0) back)

  full_at : length (S.after_steps ieee J (J.last - u)).0 ≡ 2 ^ J.window
  full_at = rw count (step-full J (J.last - t))

-- ---- a vector of u, written to its target

module _ {plan : List ℕ} (r : List Float) {n w scales u src dst : ℕ} (g : Ready plan (length r) n w scales) (b : u < n)
    (target : Target (backward_place plan u) src dst) where
  aimed : Aimed (backward_place plan) n w scales u src dst
  aimed = record { own = g.backward; moving = g.moving; below = b; target = target }

  pub written-fits : Fits w scales dst
  written-fits = target_fits aimed

  written-inside : Fits w (length r) dst
  written-inside = (place_of g dst written-fits).inside

  written-since : {r' : List Float} → Wrote r r' w dst → Since (forward_place plan) r r' n w scales
  written-since {r'} d =
      since_wrote (forward_place plan) r r' scales dst g g.forward (omega arith) written-fits
      (λ v c p. target_kind aimed (forward_place plan v) (g.forward.high v c p) (λ e. g.kinds v u c b p e)) d

-- what was written at its place p is the vector of u
kept_as : (J : Job Float) (u : ℕ) (r : List Float) (w : ℕ) {p q : ℕ} → p ≡ q → SymmetricHalf w (half_at r w p) (S.after_steps ieee J (J.last - u)).0
    → SymmetricHalf w (half_at r w q) (S.backward ieee J u)
kept_as J u r w same e =
    symmetric_as (subst (λ (q : ℕ). SymmetricHalf w (half_at r w q) (S.after_steps ieee J (J.last - u)).0) same e) (sym (backward-is J u))

-- ---- the start: e is the room at entry, u the last vertex

module _ {plan : List ℕ} (e : List Float) {r : List Float} {n w scales : ℕ} (u : ℕ) {src dst : ℕ} (g : Ready plan (length e) n w scales)
    (last : u + 1 ≡ n) (target : Target (backward_place plan u) src dst) (made : r ≡ hold e w dst (tabulate (λ _. ieee.𝟙) (2 ^ (w - 1)))) where
  first_below : u < n
  first_below = omega arith

  abbrev first_wrote : Wrote e r w dst
  first_wrote = record { vector = tabulate (λ _. ieee.𝟙) (2 ^ (w - 1)); full = tabulate-length _ (2 ^ (w - 1)); done = made }

  pub start-since : Since (forward_place plan) e r n w scales
  start-since = written-since e g first_below target first_wrote

  first_symmetric : SymmetricHalf w (half_at r w dst) (S.start ieee w)
  first_symmetric = symmetric_ext (start-half w g.wide) (wrote_half e r w dst first_wrote (written-inside e g first_below target) (λ _. ieee.𝟙) refl)

  first-newest : {one : Float} → one ≡ ieee.𝟙 → (J : Job Float) → J.last + 1 ≡ n → J.window ≡ w → NewestBackward J plan r n w u dst one
  first-newest o J vertices window =
      let none : J.last - u ≡ 0 = omega arith in
      let vector : SymmetricHalf w (half_at r w dst) (S.after_steps ieee J (J.last - u)).0 =
      symmetric_as first_symmetric (ap (S.start ieee) (sym window) ∙ sym (first-vector J) ∙ ap (λ (i : ℕ). (S.after_steps ieee J i).0) (sym none)) in
      record {
        vector = vector;
        entry = o ∙ sym (first_entry J) ∙ ap (λ (i : ℕ). (S.after_steps ieee J i).1) (sym none);
        kept = record {
          vectors = λ v c d p. let x : v ≡ u = omega arith in
              let p' : 0 < backward_place plan u = rw x at p in
              rw x (kept_as J u r w (target.keeps p') vector);
        };
      }

  pub coming_start : (elementwise : Bool) {one : Float} → one ≡ ieee.𝟙 → BackwardInvariant plan r r n w scales elementwise (λ J. Stands J plan r n w u) u dst one
  coming_start elementwise o =
      record {
        below = first_below;
        ready = rw start-since.same g;
        since = since_none (forward_place plan) r n w scales;
        free = target_free (aimed e g first_below target) (λ v. v < u) (λ v q x. omega arith);
        ahead = λ v b p. refl;
        newest = λ J of given. first-newest o J of.vertices of.window;
      }

  -- what was kept from vertex c on stands still
  start_standing : (J : Job Float) → J.last + 1 ≡ n → J.window ≡ w → (c : ℕ) → Backward J plan e n w c → Backward J plan r n w c
  start_standing J vertices window c given =
      record {
        vectors = λ v a b p.
            dite (dec_lt v u)
            (λ l.
            let q = backward_place plan v in
            let own = target_own (aimed e g first_below target) v b (λ y. omega arith) p in
            symmetric_ext (given.vectors v a b p)
            (half-held e r w q
            (wrote_other e r w dst first_wrote (written-inside e g first_below target) q (λ x. own (sym x)) (place_of g q (g.backward.fits v b p)).inside)))
            (λ l. (first-newest refl J vertices window).kept.vectors v (omega arith) b p);
      }

-- ---- the start at a vertex t whose vector is kept

module _ {plan : List ℕ} (r : List Float) {n w scales : ℕ} (t : ℕ) {src : ℕ} (g : Ready plan (length r) n w scales) (early : t + 1 < n)
    (placed : 0 < backward_place plan t) (src-is : src ≡ backward_place plan t) (elementwise : Bool) {most : Float}
    (taken : most ≡ S.stored ieee (cond elementwise per_element block) 0 (t + 1) (tabulate (half_at r w src) (2 ^ (w - 1)))) where
  resumed_newest : (J : Job Float) → PlanOf J plan (drop (scales + n) r) n w elementwise → Backward J plan r n w t → NewestBackward J plan r n w t src most
  resumed_newest J of given =
      let vector : SymmetricHalf w (half_at r w src) (S.after_steps ieee J (J.last - t)).0 =
      subst (λ (q : ℕ). SymmetricHalf w (half_at r w q) (S.after_steps ieee J (J.last - t)).0) (sym src-is)
      (symmetric_as (given.vectors t (omega arith) (omega arith) placed) (backward-is J t)) in
      let manner = ap (λ (m : Manner). S.stored ieee m 0 (t + 1) (tabulate (half_at r w src) (2 ^ (w - 1)))) (sym of.manner) in
      let full : length (S.after_steps ieee J (J.last - t)).0 ≡ 2 ^ w = full_at J t of.vertices early refl ∙ ap (λ (k : ℕ). 2 ^ k) of.window in
      record {
        vector = vector;
        entry = taken ∙ manner ∙ sym (stored_symmetric g.wide full vector J.manner 0 (t + 1)) ∙ sym (entry_at J t of.vertices early refl);
        kept = given;
      }

  pub coming_resumed : BackwardInvariant plan r r n w scales elementwise (λ J. Stands J plan r n w t) t src most
  coming_resumed =
      record {
        below = omega arith;
        ready = g;
        since = since_none (forward_place plan) r n w scales;
        free = record {
          fits = rw src-is (g.backward.fits t (omega arith) placed);
          off = λ u c q p x. let e : t ≡ u = g.backward.apart t u (omega arith) c placed (sym src-is ∙ x) in omega arith;
        };
        ahead = λ u b p. refl;
        newest = λ J of given. resumed_newest J of (given early);
      }

-- ---- the start in either case, at a vertex that is the last, or one from c on; the kept vectors are trusted from b on

module _ {plan : List ℕ} (e : List Float) {r : List Float} {n w scales : ℕ} {elementwise : Bool} {c t src : ℕ} {most : Float}
    (g : Ready plan (length e) n w scales) (from : KeptFrom plan n c t) (target : Target (backward_place plan t) 1 src)
    (begun : Begun e r n w elementwise t src most) where
  pub begun-since : Since (forward_place plan) e r n w scales
  begun-since =
      ⊎_elim (λ s. start-since e t g s.last target s.made) (λ s. rw s.same (since_none (forward_place plan) e n w scales)) begun

  begun-there : BackwardInvariant plan r r n w scales elementwise (λ J. Stands J plan r n w t) t src most
  begun-there =
      ⊎_elim
      (λ s. coming_start e t g s.last target s.made elementwise s.one)
      (λ s. rw s.same (coming_resumed e t g s.early (from.placed s.early) (target.keeps (from.placed s.early)) elementwise s.taken))
      begun

  pub begun_invariant : (b : ℕ) → b ≤ c → BackwardInvariant plan r r n w scales elementwise (λ J. Stands J plan r n w b) t src most
  begun_invariant b l =
      let i = begun-there in
      record {
        below = i.below;
        ready = i.ready;
        since = i.since;
        free = i.free;
        ahead = i.ahead;
        newest = λ J of given.
            i.newest J of
            (λ early. let h = from.from early in record { vectors = λ u a. (given (omega arith)).vectors u (omega arith) });
      }

  pub begun-stands : (J : Job Float) → J.last + 1 ≡ n → J.window ≡ w → (b : ℕ) → Stands J plan e n w b → Stands J plan r n w b
  begun-stands J vertices window b given early =
      ⊎_elim
      (λ s. start_standing e t g s.last target s.made J vertices window b (given early))
      (λ s. rw s.same (given early))
      begun

-- ---- a sweep that began with the room r₀ and goes on from a kept vector below

module _ {plan : List ℕ} {r₀ r : List Float} {n w scales : ℕ} {elementwise : Bool} {b t src : ℕ} {most : Float}
    (g : BackwardInvariant plan r₀ r n w scales elementwise (λ J. Stands J plan r₀ n w b) t src most) where
  -- what it has passed, and what stood below
  standing_now : (J : Job Float) → PlanOf J plan (drop (scales + n) r₀) n w elementwise → Stands J plan r₀ n w b → (k : ℕ) → b ≤ k → k < t
      → Backward J plan r n w k
  standing_now J of given k l under =
      record {
        vectors = λ u a d p.
            dite (dec_lt u t)
            (λ x.
            symmetric_ext ((given (omega (arith, g.below))).vectors u (omega arith) d p) (half-held r₀ r w (backward_place plan u) (g.ahead u x p)))
            (λ x. (g.newest J of given).kept.vectors u (omega arith) d p);
      }

  pub gone_on : {c k dst : ℕ} {most' : Float} → b ≤ c → GoneOn plan r w elementwise c t src most k dst most'
      → BackwardInvariant plan r₀ r n w scales elementwise (λ J. Stands J plan r₀ n w b) k dst most'
  gone_on l (inl s) = rw (s.vertex, s.place, s.entry) g
  gone_on {k = k} l (inr s) =
      let early : k + 1 < n = omega (arith, s.below, g.below) in
      record {
        below = omega arith;
        ready = g.ready;
        since = g.since;
        free = (coming_resumed r k g.ready early s.placed s.place elementwise s.taken).free;
        ahead = λ u d. g.ahead u (omega (arith, s.below));
        newest = λ J of given.
            resumed_newest r k g.ready early s.placed s.place elementwise s.taken J (rw (tail-factors r₀ r scales n g.since.tail) of)
            (standing_now J of given k (omega (arith, s.from)) s.below);
      }

-- below the first vertex that has a place nothing is kept
pub kept-from-first : {J : Job Float} {plan : List ℕ} {r : List Float} {n w t k : ℕ} → KeptFrom plan n 0 t → k ≤ t → Backward J plan r n w k
    → Backward J plan r n w 0
kept-from-first {k = k} from below g =
    record {
      vectors = λ u a b p.
          dite (dec_lt u k)
          (λ l. absurd (omega (arith, from.first u (omega arith) (omega arith), p)))
          (λ l. g.vectors u (omega arith) b p);
    }

-- one sweep after another
pub invariant_then : {plan : List ℕ} {r₀ r r₂ : List Float} {n w scales : ℕ} {elementwise : Bool} {Given : Job Float → Type 0} {t src : ℕ} {most : Float}
    {u dst : ℕ} {most' : Float} → u ≤ t → BackwardInvariant plan r₀ r n w scales elementwise Given t src most
    → BackwardInvariant plan r r₂ n w scales elementwise (λ J. NewestBackward J plan r n w t src most) u dst most'
    → BackwardInvariant plan r₀ r₂ n w scales elementwise Given u dst most'
invariant_then {plan} {r₀} {r} {r₂} {n} {w} {scales} d g h =
    record {
      below = h.below;
      ready = h.ready;
      since = since-then g.since h.since;
      free = h.free;
      ahead = λ v b p. h.ahead v b p ∙ g.ahead v (omega arith) p;
      newest = λ J of given. h.newest J (rw (tail-factors r₀ r scales n g.since.tail) of) (g.newest J of given);
    }

-- ---- an iteration

pub steps-inside : {plan : List ℕ} {w : ℕ} {elementwise : Bool} {stop t last : ℕ} → BackwardSteps plan w elementwise stop t last → stop < t
    → (last ≤ t) × (stop < last)
steps-inside (inl e) b = omega arith
steps-inside (inr p) b = omega (arith, p.next, p.inside)

-- where a sweep goes on from: nothing more than the newest vector is asked
pub going_on : {plan : List ℕ} {r : List Float} {n w scales : ℕ} (elementwise : Bool) {t src : ℕ} {most : Float} → Ready plan (length r) n w scales → t < n
    → Free (backward_place plan) n w scales src (λ u. u < t)
    → BackwardInvariant plan r r n w scales elementwise (λ J. NewestBackward J plan r n w t src most) t src most
going_on {plan} {r} {n} {w} {scales} elementwise g b free =
    record { below = b; ready = g; since = since_none (forward_place plan) r n w scales; free = free; ahead = λ u d p. refl; newest = λ J of given. given }

module _ {plan : List ℕ} {r₀ r : List Float} {n w scales : ℕ} {elementwise : Bool} {Given : Job Float → Type 0} {stop t last : ℕ} (u : ℕ) {src dst : ℕ} {most : Float}
    (g : BackwardInvariant plan r₀ r n w scales elementwise Given t src most) (steps : BackwardSteps plan w elementwise stop t last) (next : last ≡ u + 1)
    (target : Target (backward_place plan u) src dst) where
  order : last ≤ t
  order = ⊎_elim (λ e. omega arith) (λ p. omega (arith, p.next)) steps

  last-below : last < n
  last-below = omega (arith, order, g.below)

  before : u < n
  before = omega (arith, last-below)

  aim : Aimed (backward_place plan) n w scales u src dst
  aim = aimed r g.ready before target

  pub backward-fits : Fits w scales dst
  backward-fits = target_fits aim

  stepping-at : (v : ℕ) → v < n → Stepping plan (length r) w (scales + n) v src dst
  stepping-at v b =
      stepping g.ready v src dst b g.free.fits backward-fits (target_other aim (λ v. v < t) g.free (omega (arith, order)))

  pub backward-stepping : Stepping plan (length r) w (scales + n) t src dst
  backward-stepping = stepping-at t g.below

  pub backward-steps : Through plan (length r) w (scales + n) t last
  backward-steps = ⊎_elim inl (λ p. inr (record { wide = p.wide; reads = (stepping-at last last-below).reads })) steps

  module _ {r₂ : List Float} {one scale most' : Float} (unit : one ≡ ieee.𝟙) (one-over : scale ≡ div binary64 ieee.𝟙 most)
      (step : r₂ ≡ hold r w dst (tabulate (through (backward_by plan (drop (scales + n) r) w) t last scale one (half_at r w src)) (2 ^ (w - 1))))
      (taken : most' ≡ S.stored ieee (cond elementwise per_element block) 0 last (tabulate (half_at r₂ w dst) (2 ^ (w - 1)))) where
    -- the steps
    abbrev by : ℕ → Float → (ℕ → Float) → ℕ → Float
    by = backward_by plan (drop (scales + n) r) w

    abbrev half : ℕ → Float
    half = through by t last scale one (half_at r w src)

    abbrev wrote : Wrote r r₂ w dst
    wrote = record { vector = tabulate half (2 ^ (w - 1)); full = tabulate-length half (2 ^ (w - 1)); done = step }

    -- in job J
    module _ (J : Job Float) (of : PlanOf J plan (drop (scales + n) r₀) n w elementwise) (given : Given J) where
      abbrev after : ℕ → List Float × Float
      after v = S.after_steps ieee J (J.last - v)

      newest : NewestBackward J plan r n w t src most
      newest = g.newest J of given

      fits : Fits w (length r) dst
      fits = (place_of g.ready dst backward-fits).inside

      said : (v : ℕ) → v < n → step_in plan (drop (scales + n) r) v ≡ step_of J v
      said v b = ap (λ (x : List Float). step_in plan x v) (tail-factors r₀ r scales n g.since.tail) ∙ of.step v b

      -- a step from a half of the vector x
      stepped : (v : ℕ) → v < n → (c : Float) (h : ℕ → Float) (x : List Float) → SymmetricHalf w h x → SymmetricHalf w (by v c h) (S.backward_step ieee w (step_of J v) c x)
      stepped v b c h x e =
          symmetric_as (fold_symmetric w (step_in plan (drop (scales + n) r) v) c h x g.ready.wide (step-below (drop (scales + n) r) (g.ready.vertex v b)) e)
          (ap (λ (s : Step Float). S.backward_step ieee w s c x) (said v b))

      first : (v : ℕ) → t ≡ v + 1 → SymmetricHalf w (by t scale (half_at r w src)) (after v).0
      first v e =
          symmetric_as (stepped t g.below scale (half_at r w src) (after t).0 newest.vector)
          (ap (λ (c : Float). S.backward_step ieee w (step_of J t) c (after t).0) (one-over ∙ ap (div binary64 ieee.𝟙) newest.entry)
          ∙ ap (λ (k : ℕ). S.backward_step ieee k (step_of J t) (div binary64 ieee.𝟙 (after t).1) (after t).0) (sym of.window)
          ∙ sym (vector-at J v of.vertices g.below e))

      second : BackwardTwo plan w elementwise stop t last → SymmetricHalf w (by last one (by t scale (half_at r w src))) (after u).0
      second p =
          let one-now : one ≡ div binary64 ieee.𝟙 (after last).1 =
          unit
          ∙ sym
          (ap (div binary64 ieee.𝟙) (entry_at J last of.vertices g.below p.next)
          ∙ unscaled J.manner elementwise 0 t (after last).0 of.manner p.blocks p.due) in
          symmetric_as (stepped last last-below one (by t scale (half_at r w src)) (after last).0 (first last p.next))
          (ap (λ (c : Float). S.backward_step ieee w (step_of J last) c (after last).0) one-now
          ∙ ap (λ (k : ℕ). S.backward_step ieee k (step_of J last) (div binary64 ieee.𝟙 (after last).1) (after last).0) (sym of.window)
          ∙ sym (vector-at J u of.vertices last-below next))

      made : SymmetricHalf w half (after u).0
      made =
          ⊎_elim
          (λ e.
          subst (λ (h : ℕ → Float). SymmetricHalf w h (after u).0) (sym (through-one by t last scale one (half_at r w src) e)) (first u (omega arith)))
          (λ p.
          subst (λ (h : ℕ → Float). SymmetricHalf w h (after u).0) (sym (through-two by t last scale one (half_at r w src) (λ e. omega (arith, p.next))))
          (second p))
          steps

      vector : SymmetricHalf w (half_at r₂ w dst) (after u).0
      vector = symmetric_ext made (wrote_half r r₂ w dst wrote fits half refl)

      kept-vector : (v : ℕ) → u ≤ v → v < n → 0 < backward_place plan v → SymmetricHalf w (half_at r₂ w (backward_place plan v)) (S.backward ieee J v)
      kept-vector v c d p =
          dite (dec_lt v t)
          (λ x.
          let e : v ≡ u = ⊎_elim (λ e. omega arith) (λ pair. new x pair) steps in
          let p' : 0 < backward_place plan u = rw e at p in
          rw e (kept_as J u r₂ w (target.keeps p') vector))
          (λ x.
          let q = backward_place plan v in
          let own = target_own aim v d (λ z. omega (arith, order)) p in
          symmetric_ext (newest.kept.vectors v (omega arith) d p)
          (half-held r r₂ w q (wrote_other r r₂ w dst wrote fits q (λ e. own (sym e)) (place_of g.ready q (g.ready.backward.fits v d p)).inside)))
        where
          -- the vector between is not kept
          new : v < t → BackwardTwo plan w elementwise stop t last → v ≡ u
          new x pair =
              dite (dec_lt u v)
              (λ l. let e : v ≡ last = omega (arith, pair.next) in absurd (omega (arith, pair.passing, rw e at p)))
              (λ l. omega arith)

      newest_iteration : NewestBackward J plan r₂ n w u dst most'
      newest_iteration =
          let manner = ap (λ (m : Manner). S.stored ieee m 0 last (tabulate (half_at r₂ w dst) (2 ^ (w - 1)))) (sym of.manner) in
          let full : length (after u).0 ≡ 2 ^ w = full_at J u of.vertices last-below next ∙ ap (λ (k : ℕ). 2 ^ k) of.window in
          record {
            vector = vector;
            entry = taken ∙ manner ∙ sym (stored_symmetric g.ready.wide full vector J.manner 0 last) ∙ sym (entry_at J u of.vertices last-below next);
            kept = record { vectors = kept-vector };
          }

    pub backward_iteration : BackwardInvariant plan r₀ r₂ n w scales elementwise Given u dst most'
    backward_iteration =
        let now = written-since r g.ready before target wrote in
        record {
          below = before;
          ready = rw now.same g.ready;
          since = since-then g.since now;
          free = target_free aim (λ v. v < u) (λ v q e. omega arith);
          ahead = λ v b p.
              let q = backward_place plan v in
              let own = target_own aim v (omega (arith, before)) (λ e. omega arith) p in
              wrote_other r r₂ w dst wrote (place_of g.ready dst backward-fits).inside q (λ e. own (sym e))
              (place_of g.ready q (g.ready.backward.fits v (omega (arith, before)) p)).inside
              ∙ g.ahead v (omega (arith, order)) p;
          newest = newest_iteration;
        }
