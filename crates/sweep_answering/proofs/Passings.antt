-- What is known while the sweep goes from vertex to vertex that pairs ask for.
use mathlib.Core.Path.{◌≡◌, refl, sym, ◌∙◌}
use mathlib.Core.Bool.{Bool, true, false, ◌&&◌, true≢false}
use mathlib.Core.List.{List}
use mathlib.Core.Logic.{inl, inr, dite}
use Prim.Native.Nat.{ℕ, ◌+◌, ◌-◌, ◌≤◌, ◌<◌}
use native.Mathlib.Decide.{dec_lt}
use native.Mathlib.Omega.{arith}
use lib.ListN.{length, get_or, drop}
use lib.Ieee.{Float}
use Rattle.transfer_matrix.specs.Job.{Job}
use Rattle.transfer_matrix.specs.Room.{later}
use Rattle.plan_steps.specs.Layout.{forward_place}
use Rattle.vertex_step.proofs.Laws.Same.{symmetric_as}
use Rattle.vertex_step.specs.Ready.{PlanOf, Forward}
use Rattle.sweep_places.specs.Begun.{Stands, GoneOn}
use Rattle.sweep_places.specs.BackwardInvariant.{NewestBackward, BackwardInvariant}
use Rattle.sweep_places.proofs.Frames.{place_of, since-forward}
use Rattle.sweep_backward.proofs.BackwardIteration.{backward-is, gone_on, invariant_then}
use Rattle.pair_correlations.specs.declared.direct.VertexPlaces.{VertexPlaces}
use Rattle.pair_correlations.specs.Aim.{VertexHalves}
use Rattle.pair_correlations.specs.Direct.{DirectAsked, AnsweredAt}
use Rattle.sweep_answering.specs.Passing.{Passing, VertexPairs, AnsweredFrom}

-- the sweep stands at vertex t, and the pairs from `left` on are answered; it began with the room r₀, in which the kept vectors from vertex c on stood
pub record PassedTo (plan us vs order : List ℕ) (r₀ r results : List Float) (n w scales : ℕ) (elementwise : Bool) (passing c left t src : ℕ) (most : Float)
    (sound : Bool) : Type 0 where
  pub sweep : BackwardInvariant plan r₀ r n w scales elementwise (λ J. Stands J plan r₀ n w c) t src most
  pub down : left ≤ passing
  pub ahead : (k : ℕ) → k < left → later us vs (get_or order k 0) ≤ t
  pub long : length results ≡ length us
  pub told : (J : Job Float) → PlanOf J plan (drop (scales + n) r₀) n w elementwise → Stands J plan r₀ n w c → Forward J plan r₀ w scales n
      → AnsweredFrom J us vs order left passing results sound

pub passed_none : (plan us vs order : List ℕ) (r results : List Float) (n w scales : ℕ) (elementwise : Bool) (passing c t src : ℕ) (most : Float)
    → Passing plan us vs order n w passing → BackwardInvariant plan r r n w scales elementwise (λ J. Stands J plan r n w c) t src most
    → (0 < passing → later us vs (get_or order (passing - 1) 0) ≤ t) → length results ≡ length us
    → PassedTo plan us vs order r r results n w scales elementwise passing c passing t src most true
passed_none plan us vs order r results n w scales elementwise passing c t src most p sweep above long =
    record {
      sweep = sweep;
      down = omega arith;
      ahead = λ k b. omega (arith, p.rising k (passing - 1) (omega arith) (omega arith), above (omega arith));
      long = long;
      told = λ J of given swept. record { answered = λ _ k a b. absurd (omega arith); unanswered = λ e. absurd (true≢false e) };
    }

-- it goes on from vertex k, which is not below the next pair's
pub passed_further : (plan us vs order : List ℕ) (r₀ r results : List Float) (n w scales : ℕ) (elementwise : Bool) (passing c left t src : ℕ) (most : Float)
    (sound : Bool) → Passing plan us vs order n w passing
    → PassedTo plan us vs order r₀ r results n w scales elementwise passing c left t src most sound → (c' k dst : ℕ) (most' : Float) → c ≤ c'
    → (0 < left → later us vs (get_or order (left - 1) 0) ≤ c') → GoneOn plan r w elementwise c' t src most k dst most'
    → PassedTo plan us vs order r₀ r results n w scales elementwise passing c left k dst most' sound
passed_further plan us vs order r₀ r results n w scales elementwise passing c left t src most sound p g c' k dst most' l above on =
    record { sweep = gone_on g.sweep l on; down = g.down; ahead = ahead on; long = g.long; told = g.told }
  where
    ahead : GoneOn plan r w elementwise c' t src most k dst most' → (j : ℕ) → j < left → later us vs (get_or order j 0) ≤ k
    ahead (inl s) j b = omega (arith, g.ahead j b, s.vertex)
    ahead (inr s) j b = omega (arith, p.rising j (left - 1) (omega arith) (omega (arith, g.down)), above (omega arith), s.from)

-- it goes on to the later vertex v of the pairs from..left
module _ (plan us vs order : List ℕ) (r₀ r results : List Float) (n w scales : ℕ) (elementwise : Bool) (passing c left t src : ℕ) (most : Float)
    (sound : Bool) (p : Passing plan us vs order n w passing)
    (g : PassedTo plan us vs order r₀ r results n w scales elementwise passing c left t src most sound) (some : 0 < left) (v : ℕ)
    (last : v ≡ later us vs (get_or order (left - 1) 0)) where
  pub vertex-ahead : v ≤ t
  vertex-ahead = omega (arith, g.ahead (left - 1) (omega arith))

  module _ (r₂ : List Float) (from dst : ℕ) (most' : Float)
      (swept : BackwardInvariant plan r r₂ n w scales elementwise (λ J. NewestBackward J plan r n w t src most) v dst most')
      (pairs : VertexPairs us vs order left v from) where
    sweep_now : BackwardInvariant plan r₀ r₂ n w scales elementwise (λ J. Stands J plan r₀ n w c) v dst most'
    sweep_now = invariant_then vertex-ahead g.sweep swept

    pub fewer : from < left
    fewer = dite (dec_lt from left) (λ l. l) (λ l. let e : from ≡ left = omega (arith, pairs.inside) in
        absurd (pairs.first (omega arith) (rw e (sym last))))

    inside : (k : ℕ) → k < left → k < passing
    inside k b = omega (arith, g.down)

    abbrev at : VertexPlaces
    at = record { vertex = v; forward = forward_place plan v; backward = dst }

    placed : 0 < forward_place plan v
    placed = rw last (p.placed (left - 1) (omega (arith, g.down)))

    pub vertex-asked : DirectAsked us vs order (length r₂) w at from left (length results)
    vertex-asked =
        record {
          matched = p.matched;
          ordered = p.ordered;
          forward = place_of swept.ready _ (swept.ready.forward.fits v swept.below placed);
          backward = place_of swept.ready _ swept.free.fits;
          direct = record {
            up = pairs.inside;
            inside = omega (arith, g.down, p.inside);
            end = pairs.end;
            apart = λ k a b. omega (arith, p.apart k (inside k b), pairs.end k a b);
            near = λ k a b. omega (arith, p.near k (inside k b), pairs.end k a b);
          };
          fitting = g.long;
        }

    vertex-halves : (J : Job Float) → PlanOf J plan (drop (scales + n) r₀) n w elementwise → Stands J plan r₀ n w c → Forward J plan r₀ w scales n
        → VertexHalves J r₂ w (forward_place plan v) dst v
    vertex-halves J of given forward =
        record {
          window = of.window;
          forward = (since-forward sweep_now.since J forward).vectors v swept.below placed;
          backward = symmetric_as (sweep_now.newest J of given).vector (sym (backward-is J v));
        }

    pub passed_on : (results₂ : List Float) (ok : Bool) → AnsweredAt r₂ us vs order w at from left results results₂ ok
        → PassedTo plan us vs order r₀ r₂ results₂ n w scales elementwise passing c from v dst most' (ok && sound)
    passed_on results₂ ok a =
        record {
          sweep = sweep_now;
          down = omega (arith, fewer, g.down);
          ahead = λ k b. omega (arith, p.rising k (left - 1) (omega (arith, fewer)) (omega (arith, g.down)));
          long = a.long ∙ g.long;
          told = λ J of given forward. told J of given forward ok refl sound refl;
        }
      where
        told : (J : Job Float) → PlanOf J plan (drop (scales + n) r₀) n w elementwise → Stands J plan r₀ n w c → Forward J plan r₀ w scales n
            → (x : Bool) → ok ≡ x → (y : Bool) → sound ≡ y → AnsweredFrom J us vs order from passing results₂ (x && y)
        told J of given forward true ex true ey =
            let h = vertex-halves J of given forward in
            let before = g.told J of given forward in
            record {
              answered = λ _ k l b. (a.answered ex).done J h (get_or order k 0)
                  (dite (dec_lt k left) (λ m. inr (k, l, m, refl)) (λ m. inl (before.answered ey k (omega arith) b)));
              unanswered = λ e. absurd (true≢false e);
            }
        told J of given forward true ex false ey =
            record { answered = λ e. absurd (true≢false (sym e)); unanswered = λ _. (g.told J of given forward).unanswered ey }
        told J of given forward false ex y ey =
            record { answered = λ e. absurd (true≢false (sym e)); unanswered = λ _. a.unanswered ex J (vertex-halves J of given forward) }
