-- What either arrangement has for its pairs: those that are answered in passing, and the places of the others.
use mathlib.Core.Path.{◌≡◌, sym, ap, ◌∙◌}
use mathlib.Core.Bool.{Bool, true, false, cond, not, true≢false}
use mathlib.Core.List.{List}
use Prim.Native.Nat.{ℕ, ◌+◌, ◌≤◌, ◌<◌}
use native.Mathlib.Omega.{arith}
use lib.ListN.{length, get_or, drop}
use lib.Ieee.{Float}
use borrow.Author.Tests.{lt-ltb, le-ltb}
use Rattle.transfer_matrix.specs.Job.{Job}
use Rattle.transfer_matrix.specs.Room.{earlier, later}
use Rattle.pair_order.specs.Order.{InOrder}
use Rattle.pair_places.proofs.Laws.Places.{later-inside}
use Rattle.vertex_step.specs.Ready.{Ready, PlanOf, Forward, Backward, BothSwept, Still}
use Rattle.vertex_step.proofs.Laws.Ready.{still-swept, tail-factors}
use Rattle.plan_steps.specs.Layout.{forward_place, backward_place}
use Rattle.sweep_places.specs.Begun.{Stands}
use Rattle.sweep_places.specs.Kept.{Since, SameFrom}
use Rattle.sweep_places.proofs.Frames.{since-forward, since-backward}
use Rattle.propagation.specs.Pairing.{Directs}
use Rattle.pair_correlations.specs.Served.{Served}
use Rattle.pair_correlations.specs.Sound.{Outcome}
use Rattle.pair_correlations.specs.Aim.{PlacedFrom}
use Rattle.pair_correlations.specs.Two.{Answered}
use Rattle.sweep_answering.specs.Passing.{Passing, AnsweredFrom}

passing-most : (less : Bool) (directs : ℕ) → cond less directs 0 ≤ directs
passing-most true directs = omega arith
passing-most false directs = omega arith

passing-all : (less : Bool) (directs : ℕ) → less ≡ true → cond less directs 0 ≡ directs
passing-all less directs e = rw e

module _ (plan us vs order : List ℕ) (n w : ℕ) (less : Bool) (directs passing : ℕ) (served : Served plan us vs n w less) (ordered : InOrder order us vs w)
    (d : Directs us vs order w directs) (e : passing ≡ cond less directs 0) where
  pub few : passing ≤ directs
  few = omega (arith, passing-most less directs)

  number : (k : ℕ) → k < length order → get_or order k 0 < length us
  number k b = ordered.all.inside k (omega (arith, ordered.all.long))

  -- number k is one of the direct pairs
  direct : (k : ℕ) → k < passing → k < directs
  direct k b = omega (arith, few)

  inside : (k : ℕ) → k < passing → get_or order k 0 < length us
  inside k b = number k (omega (arith, direct k b, d.inside))

  apart : (i : ℕ) → i < length us → earlier us vs i < later us vs i
  apart i b = let z = served.distinct i b in omega arith

  pub passing-pairs : Passing plan us vs order n w passing
  passing-pairs =
      record {
        matched = served.pairs.matched;
        ordered = ordered.all;
        inside = omega (arith, few, d.inside);
        below = λ k b. later-inside us vs n _ served.pairs (inside k b);
        apart = λ k b. apart _ (inside k b);
        near = λ k b. d.near k (direct k b);
        rising = λ j k l b. ordered.rising j k l (omega (arith, direct k b, d.inside, ordered.all.long)) (ap not (lt-ltb _ w (d.near k (direct k b))));
        placed = λ k b. served.forward _ (inside k b);
      }

  -- the others have a backward place in either arrangement: with less room they are propagated
  pub places_behind : PlacedFrom plan us vs order n w passing
  places_behind =
      record {
        places = λ k l b.
            let i = number k b in
            record {
              order = apart _ i;
              inside = later-inside us vs n _ served.pairs i;
              forward = served.forward _ i;
              backward = served.backward _ i (λ r. d.far k (omega (arith, passing-all less directs r)) b);
              propagated = λ far. served.propagated _ i (ap not (le-ltb _ w far));
            };
      }

-- ---- from the room r₀, over the forward sweep's r₁ and the backward sweep's r₂

module _ (plan us vs order : List ℕ) (r₀ r₁ r₂ results₁ : List Float) (n w scales : ℕ) (elementwise : Bool) (c passing : ℕ) (sound : Bool)
    (ahead : Since (backward_place plan) r₀ r₁ n w (scales + n)) (back : Since (forward_place plan) r₁ r₂ n w scales)
    (swept : (J : Job Float) → PlanOf J plan (drop (scales + n) r₀) n w elementwise → Forward J plan r₁ w scales n)
    (passed : (J : Job Float) → PlanOf J plan (drop (scales + n) r₁) n w elementwise → Forward J plan r₁ w scales n → Stands J plan r₁ n w c
    → Backward J plan r₂ n w 0 × AnsweredFrom J us vs order 0 passing results₁ sound) where
  pub both-same : SameFrom r₀ r₂ (scales + n)
  both-same = record { same = back.same ∙ ahead.same; tail = tail-factors r₁ r₂ scales n back.tail ∙ ahead.tail }

  module _ (J : Job Float) (of : PlanOf J plan (drop (scales + n) r₀) n w elementwise) (given : Stands J plan r₀ n w c) where
    after : Backward J plan r₂ n w 0 × AnsweredFrom J us vs order 0 passing results₁ sound
    after = passed J (rw ahead.tail of) (swept J of) (λ b. since-backward ahead J c (given b))

    both-swept : BothSwept J plan r₂ n w scales
    both-swept = record { forward = since-forward back J (swept J of); backward = after.0 }

    pub passed-unsound : sound ≡ false → Outcome J us vs results₁ false × Backward J plan r₂ n w 0
    passed-unsound e = (record { told = sym (ap not (after.1.unanswered e)); values = λ z. absurd (true≢false (sym z)) }, after.0)

    -- the other pairs, answered from r₂
    pub then-answered : {r₃ results : List Float} {told : Bool} → Ready plan (length r₂) n w scales → Still r₂ r₃ w scales → sound ≡ true
        → ((J : Job Float) (elementwise : Bool) → PlanOf J plan (drop (scales + n) r₂) n w elementwise → BothSwept J plan r₂ n w scales
        → ((k : ℕ) → k < passing → Answered J us vs results₁ (get_or order k 0)) → Outcome J us vs results told)
        → Outcome J us vs results told × Backward J plan r₃ n w 0
    then-answered {r₃} ready still e answered = (
      answered J elementwise (rw both-same.tail of) both-swept (λ k b. after.1.answered e k (omega arith) b),
      (still-swept J plan r₂ r₃ n w scales ready still both-swept).backward,
    )
