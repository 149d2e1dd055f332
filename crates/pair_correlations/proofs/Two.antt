-- Two pairs that are answered in one pass: the first, and that pair again or a direct one.
use mathlib.Core.Path.{◌≡◌, refl, sym, ap, ◌∙◌}
use mathlib.Core.Bool.{Bool, true, false, true≢false}
use mathlib.Core.List.{List}
use mathlib.Core.Logic.{◌⊎◌, inl, inr}
use Prim.Native.Nat.{ℕ, ◌-◌, ◌<◌}
use lib.ListN.{length, set, length-set}
use lib.Seq.{set-set}
use lib.Ieee.{Float}
use Rattle.transfer_matrix.specs.Job.{Job}
use Rattle.transfer_matrix.specs.Room.{earlier, later}
use Rattle.plan_steps.specs.Layout.{forward_place, backward_place}
use Rattle.step_tables.specs.Place.{Place}
use Rattle.pair_sums.specs.declared.sums.Source.{Source}
use Rattle.pair_sums.specs.declared.sums.Sums.{Sums}
use Rattle.pair_sums.specs.Pair.{Sourced, SumsOf}
use Rattle.vertex_step.specs.Ready.{Ready}
use Rattle.vertex_step.proofs.Laws.Ready.{still-ready}
use Rattle.propagation.specs.declared.current.CurrentVector.{CurrentVector}
use Rattle.pair_correlations.specs.declared.pair.Aim.{Aim}
use Rattle.pair_correlations.specs.Sound.{soundly, unsound}
use Rattle.propagation.specs.Current.{PlanSwept, CurrentKnown}
use Rattle.propagation.proofs.Laws.Current.{still-passed}
use Rattle.pair_correlations.specs.Aim.{PairPlaces, SourceOf, Aimed, Second, SecondSource}
use Rattle.pair_correlations.specs.Two.{quotient, WroteOne, WroteTwo, Written, AnsweredTwo}
use Rattle.pair_correlations.proofs.PairLaws.{forward-at, backward-at, swept-halves, direct-sourced, direct_of}
use Rattle.pair_correlations.proofs.Answering.{answer-of, none_of_it}

-- ---- what was written

-- one Z is not sound: nothing is
pub wrote_none : (r : List Float) (w : ℕ) (x y : Source) (p q : ℕ) (results : List Float) (s t : Sums) → SumsOf r w x s → SumsOf r w y t
    → ((soundly s.z ≡ false) ⊎ (soundly t.z ≡ false)) → WroteTwo r w x y p q results results false
wrote_none r w x y p q results s t gs gt e =
    record { first = s; second = t; first_of = gs; second-of = gt; long = refl; written = λ f. absurd (true≢false (sym f)); refused = λ _. e }

pub wrote_both : (r : List Float) (w : ℕ) (x y : Source) (p q : ℕ) (results : List Float) (s t : Sums) → SumsOf r w x s → SumsOf r w y t
    → soundly s.z ≡ true → soundly t.z ≡ true → WroteTwo r w x y p q results (set (set results p (quotient s)) q (quotient t)) true
wrote_both r w x y p q results s t gs gt e f =
    record {
      first = s;
      second = t;
      first_of = gs;
      second-of = gt;
      long = length-set (set results p (quotient s)) q (quotient t) ∙ length-set results p (quotient s);
      written = λ _. (e, f, refl);
      refused = λ z. absurd (true≢false z);
    }

-- one pair alone
pub wrote_alone : (r : List Float) (w : ℕ) (x y : Source) (p q : ℕ) (results₀ results : List Float) (sound : Bool) → q ≡ p → y ≡ x
    → WroteOne r w x p results₀ results sound → WroteTwo r w x y p q results₀ results sound
wrote_alone r w x y p q results₀ results sound e same g =
    record {
      first = g.sums;
      second = g.sums;
      first_of = g.sums-of;
      second-of = rw same g.sums-of;
      long = g.long;
      written = λ t. let h = g.written t in (h.0, h.0, h.1 ∙ sym (set-set results₀ p _ _) ∙ ap (λ (i : ℕ). set (set results₀ p (quotient g.sums)) i (quotient g.sums)) (sym e));
      refused = λ f. inl (g.refused f);
    }

pub wrote_one : (r : List Float) (w : ℕ) (x : Source) (p : ℕ) (results : List Float) (s : Sums) → SumsOf r w x s → soundly s.z ≡ true
    → WroteOne r w x p results (set results p (quotient s)) true
wrote_one r w x p results s g e =
    record { sums = s; sums-of = g; long = length-set results p (quotient s); written = λ _. (e, refl); refused = λ z. absurd (true≢false z) }

pub wrote_not : (r : List Float) (w : ℕ) (x : Source) (p : ℕ) (results : List Float) (s : Sums) → SumsOf r w x s → soundly s.z ≡ false
    → WroteOne r w x p results results false
wrote_not r w x p results s g e =
    record { sums = s; sums-of = g; long = refl; written = λ f. absurd (true≢false (sym f)); refused = λ _. e }

-- of a job whose sums are read there
module _ (J : Job Float) (us vs : List ℕ) (r : List Float) (w p q : ℕ) (x y : Source) (results₀ results : List Float) (sound : Bool)
    (first : SourceOf J r w (earlier us vs p) (later us vs p) x) (second : SourceOf J r w (earlier us vs q) (later us vs q) y)
    (g : WroteTwo r w x y p q results₀ results sound) where
  pub wrote_answers : sound ≡ true → Written J us vs results₀ results p q
  wrote_answers e =
      let h = g.written e in
      record {
        x = quotient g.first;
        y = quotient g.second;
        set_both = h.2;
        first = answer-of J us vs r w p x g.first first g.first_of h.0;
        second = answer-of J us vs r w q y g.second second g.second-of h.1;
      }

  pub wrote_unsound : p < length us → q < length us → sound ≡ false → unsound J us vs ≡ true
  wrote_unsound bp bq e = go (g.refused e)
    where
      go : ((soundly g.first.z ≡ false) ⊎ (soundly g.second.z ≡ false)) → unsound J us vs ≡ true
      go (inl z) = none_of_it J us vs r w p x g.first first g.first_of bp z
      go (inr z) = none_of_it J us vs r w q y g.second second g.second-of bq z

-- ---- a pair and one beside it

module _ (plan us vs : List ℕ) (r₀ r : List Float) (n w scales p q : ℕ) (current : CurrentVector) (aim : Aim) (other : Source)
    (ready : Ready plan (length r₀) n w scales) (bp : p < length us) (bq : q < length us) (places : PairPlaces plan n w (earlier us vs q) (later us vs q))
    (second : Second us vs w p q) (aimed : Aimed plan r₀ r n w scales (earlier us vs p) (later us vs p) current aim)
    (at : SecondSource plan us vs p q aim.source other) where
  -- a second pair that is not the first is direct
  near : (q ≡ p → ⊥) → later us vs q - earlier us vs q < w
  near ne = go second
    where
      go : Second us vs w p q → later us vs q - earlier us vs q < w
      go (inl e) = absurd (ne e)
      go (inr l) = l

  ready_now : Ready plan (length r) n w scales
  ready_now = still-ready plan r₀ r n w scales aimed.still ready

  forward_now : Place (length r) w (forward_place plan (later us vs q))
  forward_now = forward-at plan (length r) n w scales _ _ ready_now places

  backward_now : Place (length r) w (backward_place plan (later us vs q))
  backward_now = backward-at plan (length r) n w scales _ _ ready_now places

  pub second-sourced : Sourced (length r) w other
  second-sourced = go at
    where
      go : SecondSource plan us vs p q aim.source other → Sourced (length r) w other
      go (inl e) = rw e.1 aimed.sourced
      go (inr d) = direct-sourced r w _ _ _ _ other forward_now backward_now places.order (near d.0) d.1

  -- the first pair again is read where it was
  pub second-same : q ≡ p → other ≡ aim.source
  second-same e = go at
    where
      go : SecondSource plan us vs p q aim.source other → other ≡ aim.source
      go (inl d) = d.1
      go (inr d) = absurd (d.0 e)

  second-of : (J : Job Float) (elementwise : Bool) → PlanSwept J plan r₀ n w scales elementwise → CurrentKnown J r₀ n w current
      → SourceOf J r w (earlier us vs q) (later us vs q) other
  second-of J elementwise passed known = go at
    where
      go : SecondSource plan us vs p q aim.source other → SourceOf J r w (earlier us vs q) (later us vs q) other
      go (inl e) = rw (e.1, e.0) (aimed.source_of J elementwise passed known)
      go (inr d) =
          direct_of r w _ _ _ _ other forward_now backward_now places.order (near d.0) d.1 J
          (swept-halves plan (length r) n w scales _ _ ready_now places J r elementwise (still-passed J plan r₀ r n w scales elementwise ready aimed.still passed))

  pub two-answered : (results₀ results : List Float) (sound : Bool) → WroteTwo r w aim.source other p q results₀ results sound
      → AnsweredTwo plan us vs r₀ r results₀ results n w scales p q current (record { current = aim.current; sound = sound })
  two-answered results₀ results sound g =
      record {
        moving = aimed.moving;
        long = g.long;
        still = aimed.still;
        answered = λ J elementwise passed known t. (
          aimed.known J elementwise passed known,
          wrote_answers J us vs r w p q aim.source other results₀ results sound (aimed.source_of J elementwise passed known)
              (second-of J elementwise passed known) g t,
        );
        unanswered = λ J elementwise passed known t.
            wrote_unsound J us vs r w p q aim.source other results₀ results sound (aimed.source_of J elementwise passed known)
            (second-of J elementwise passed known) g bp bq t;
      }
