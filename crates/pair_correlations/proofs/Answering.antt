-- What is known while the pairs are answered two by two, and what follows at the end.
use mathlib.Core.Path.{◌≡◌, refl, sym, ap, ◌∙◌, subst}
use mathlib.Core.Bool.{Bool, true, false, not, true≢false}
use mathlib.Core.List.{List}
use mathlib.Core.Logic.{◌⊎◌, inl, inr, dite}
use Prim.Native.Nat.{ℕ, ◌+◌, ◌-◌, ◌≤◌, ◌<◌, min, max}
use native.Mathlib.Decide.{ℕ_discrete, dec_lt}
use native.Mathlib.Omega.{arith}
use lib.ListN.{length, get_or, drop, set, length-set}
use lib.Seq.{get_or-set_same, get_or-set_other}
use lib.Ieee.{Float, nan, binary64, div}
use Rattle.list_laws.specs.Search.{some}
use Rattle.list_laws.proofs.Laws.Search.{some_at, none_of}
use Rattle.list_laws.specs.Tabulate.{tabulate}
use Rattle.list_laws.proofs.Laws.Tabulate.{tabulated}
use Rattle.transfer_matrix.specs.Job.{Job}
use Rattle.transfer_matrix.specs.Room.{earlier, later}
use Rattle.transfer_matrix.specs.Rounded.{ieee}
use Rattle.transfer_matrix.specs.Sweep as S
use Rattle.pair_order.specs.Order.{Ordered}
use Rattle.pair_sums.specs.declared.sums.Source.{Source}
use Rattle.pair_sums.specs.declared.sums.Sums.{Sums}
use Rattle.pair_sums.specs.Pair.{SumsOf}
use Rattle.vertex_step.specs.Ready.{Ready, PlanOf, BothSwept, Still}
use Rattle.vertex_step.proofs.Laws.Ready.{still-none, still-then}
use Rattle.propagation.specs.declared.current.CurrentVector.{CurrentVector}
use Rattle.pair_correlations.specs.declared.pairs.AfterTwo.{AfterTwo}
use Rattle.propagation.specs.declared.together.Pairing.{Pairing}
use Rattle.pair_correlations.specs.Sound.{soundly, unsound, Outcome}
use Rattle.propagation.specs.Current.{PlanSwept, CurrentKnown}
use Rattle.propagation.proofs.Laws.Current.{still-passed}
use Rattle.pair_correlations.specs.Aim.{SourceOf, Second}
use Rattle.propagation.specs.Pairing.{Directs, Done, NextPairing}
use Rattle.pair_correlations.specs.Two.{AnswerOf, Answered, Written, AnsweredTwo}

-- ---- the definitions, opened

answer-is : (J : Job Float) (u v : ℕ) → S.answer ieee J u v ≡ div binary64 (S.N ieee J (min u v) (max u v)) (S.Z ieee J (max u v))
unfolding S.answer
answer-is J u v = refl

answers-is : (J : Job Float) (us vs : List ℕ) → S.answers ieee J us vs ≡ tabulate (λ i. S.answer ieee J (get_or us i 0) (get_or vs i 0)) (length us)
unfolding S.answers
answers-is J us vs = refl

unsound-is : (J : Job Float) (us vs : List ℕ) → unsound J us vs ≡ some (λ i. not (soundly (S.Z ieee J (later us vs i)))) (length us)
unfolding unsound
unsound-is J us vs = refl

-- ---- one pair

-- its answer, from its sums
module _ (J : Job Float) (us vs : List ℕ) (r : List Float) (w p : ℕ) (s : Source) (t : Sums) (of : SourceOf J r w (earlier us vs p) (later us vs p) s)
    (g : SumsOf r w s t) where
  pub answer-of : soundly t.z ≡ true → AnswerOf J us vs p (div binary64 t.n t.z)
  answer-of e = record {
    value = cc (of.z_of t g, of.n-of t g) ∙ sym (answer-is J (get_or us p 0) (get_or vs p 0));
    sound = sym (ap soundly (of.z_of t g)) ∙ e;
  }

  pub none_of_it : p < length us → soundly t.z ≡ false → unsound J us vs ≡ true
  none_of_it inside e = unsound-is J us vs ∙ some_at _ (length us) p inside (ap not (sym (ap soundly (of.z_of t g)) ∙ e))

-- ---- pairs that are answered

-- one result more
set-answered : (J : Job Float) (us vs : List ℕ) (results : List Float) (p : ℕ) (x : Float) → p < length results → AnswerOf J us vs p x
    → (i : ℕ) → (Answered J us vs results i ⊎ (i ≡ p)) → Answered J us vs (set results p x) i
set-answered J us vs results p x inside a i known = go (ℕ_discrete i p) known
  where
    go : Dec (i ≡ p) → (Answered J us vs results i ⊎ (i ≡ p)) → Answered J us vs (set results p x) i
    go (yes e) k = rw (e, get_or-set_same results p x nan inside) a
    go (no e) (inl k) = rw (get_or-set_other results p i x nan e) k
    go (no e) (inr k) = absurd (e k)

-- and both
pub both-answered : (J : Job Float) (us vs : List ℕ) (results₀ results : List Float) (p q : ℕ) → p < length results₀ → q < length results₀
    → Written J us vs results₀ results p q → (i : ℕ) → (Answered J us vs results₀ i ⊎ ((i ≡ p) ⊎ (i ≡ q))) → Answered J us vs results i
both-answered J us vs results₀ results p q bp bq g i known =
    subst (λ (l : List Float). Answered J us vs l i) (sym g.set_both) (go known)
  where
    first : (j : ℕ) → (Answered J us vs results₀ j ⊎ (j ≡ p)) → Answered J us vs (set results₀ p g.x) j
    first = set-answered J us vs results₀ p g.x bp g.first

    last : (j : ℕ) → (Answered J us vs (set results₀ p g.x) j ⊎ (j ≡ q)) → Answered J us vs (set (set results₀ p g.x) q g.y) j
    last = set-answered J us vs (set results₀ p g.x) q g.y (rw (length-set results₀ p g.x) bq) g.second

    go : (Answered J us vs results₀ i ⊎ ((i ≡ p) ⊎ (i ≡ q))) → Answered J us vs (set (set results₀ p g.x) q g.y) i
    go (inl k) = last i (inl (first i (inl k)))
    go (inr (inl e)) = last i (inl (first i (inr e)))
    go (inr (inr e)) = last i (inr e)

-- ---- the loop

-- of the order, the first `direct` pairs and those from `directs` to `other` are answered; of these the first `first` were answered before
pub record Answering (plan us vs order : List ℕ) (r₀ r results₀ results : List Float) (n w scales : ℕ) (current : CurrentVector)
    (first directs direct other : ℕ) : Type 0 where
  pub on : first ≤ direct
  pub below : direct ≤ directs
  pub behind : directs ≤ other
  pub inside : other ≤ length order
  pub long : length results ≡ length us
  pub moving : current.place < 2
  pub still : Still r₀ r w scales
  pub known : (J : Job Float) (elementwise : Bool) → PlanSwept J plan r₀ n w scales elementwise → CurrentKnown J r n w current
  pub done : (J : Job Float) (elementwise : Bool) → PlanSwept J plan r₀ n w scales elementwise
      → ((k : ℕ) → k < first → Answered J us vs results₀ (get_or order k 0)) → (k : ℕ) → Done directs direct other k
      → Answered J us vs results (get_or order k 0)

pub answering_none : (plan us vs order : List ℕ) (r results : List Float) (n w scales : ℕ) (current : CurrentVector) (first directs : ℕ) → first ≤ directs
    → directs ≤ length order → length results ≡ length us → current.vertex ≡ n → current.place < 2
    → Answering plan us vs order r r results results n w scales current first directs first directs
answering_none plan us vs order r results n w scales current first directs f d l e low =
    record {
      on = omega arith;
      below = f;
      behind = omega arith;
      inside = d;
      long = l;
      moving = low;
      still = still-none r w scales;
      known = λ J elementwise passed. record { reached = λ b. absurd (omega arith) };
      done = λ J elementwise passed given k b. start given k b;
    }
  where
    start : {J : Job Float} → ((k : ℕ) → k < first → Answered J us vs results (get_or order k 0)) → (k : ℕ) → Done directs first directs k
        → Answered J us vs results (get_or order k 0)
    start given k (inl b) = given k b
    start given k (inr b) = absurd (omega (arith, b.0, b.1))

module _ (plan us vs order : List ℕ) (r₀ r results₀ results : List Float) (n w scales : ℕ) (current : CurrentVector) (first directs direct other : ℕ)
    (g : Answering plan us vs order r₀ r results₀ results n w scales current first directs direct other) (ordered : Ordered order (length us)) where
  -- all pairs are answered
  pub all-answered : directs + length us ≤ direct + other → (J : Job Float) (elementwise : Bool) → PlanOf J plan (drop (scales + n) r₀) n w elementwise
      → BothSwept J plan r₀ n w scales → ((k : ℕ) → k < first → Answered J us vs results₀ (get_or order k 0)) → Outcome J us vs results true
  all-answered l J elementwise of swept given =
      let passed : PlanSwept J plan r₀ n w scales elementwise = record { of = of; swept = swept } in
      let each_number : (k : ℕ) → k < length us → Done directs direct other k =
      λ k b. dite (dec_lt k directs) (λ c. inl (omega (arith, g.below, g.inside, ordered.long)))
      (λ c. inr (omega arith, omega (arith, g.below, g.inside, ordered.long))) in
      let each-pair : (i : ℕ) → i < length us → Answered J us vs results i =
      λ i b. let o = ordered.onto i b in
      subst (λ (p : ℕ). Answered J us vs results p) o.2 (g.done J elementwise passed given o.0 (each_number o.0 o.1)) in
      record {
        told = sym (ap not (unsound-is J us vs ∙ none_of _ (length us) (λ i b. ap not (each-pair i b).sound)));
        values = λ e. tabulated nan results _ (length us) g.long (λ i b. (each-pair i b).value) ∙ sym (answers-is J us vs);
      }

  -- the next two
  module _ (t : Pairing) (s : AfterTwo) (r₂ results₂ : List Float) (pairing : NextPairing directs (length order) direct other t) (ready : Ready plan (length r₀) n w scales)
      (two : AnsweredTwo plan us vs r r₂ results results₂ n w scales (get_or order t.first 0) (get_or order t.second 0) current s) where
    now : (J : Job Float) (elementwise : Bool) → PlanSwept J plan r₀ n w scales elementwise → PlanSwept J plan r n w scales elementwise
    now J elementwise passed = still-passed J plan r₀ r n w scales elementwise ready g.still passed

    pub still-next : Still r₀ r₂ w scales
    still-next = still-then r₀ r r₂ w scales g.still two.still

    -- some Z is not sound
    pub two-unsound : s.sound ≡ false → (J : Job Float) (elementwise : Bool) → PlanOf J plan (drop (scales + n) r₀) n w elementwise
        → BothSwept J plan r₀ n w scales → ((k : ℕ) → k < first → Answered J us vs results₀ (get_or order k 0)) → Outcome J us vs results₂ false
    two-unsound e J elementwise of swept given =
        let passed : PlanSwept J plan r₀ n w scales elementwise = record { of = of; swept = swept } in
        record {
          told = sym (ap not (two.unanswered J elementwise (now J elementwise passed) (g.known J elementwise passed) e));
          values = λ f. absurd (true≢false (sym f));
        }

    -- they are answered
    pub two-more : s.sound ≡ true → Answering plan us vs order r₀ r₂ results₀ results₂ n w scales s.current first directs t.direct t.other
    two-more e =
        record {
          on = omega (arith, g.on, pairing.on);
          below = pairing.below;
          behind = pairing.behind;
          inside = pairing.inside;
          long = two.long ∙ g.long;
          moving = two.moving;
          still = still-next;
          known = λ J elementwise passed. (two.answered J elementwise (now J elementwise passed) (g.known J elementwise passed) e).0;
          done = λ J elementwise passed given k b. more J elementwise passed given k (pairing.covered k b);
        }
      where
        within : (k : ℕ) → k < length order → get_or order k 0 < length results
        within k b = rw g.long (ordered.inside k (rw (← ordered.long) b))

        known : (J : Job Float) (elementwise : Bool) → PlanSwept J plan r₀ n w scales elementwise
            → ((k : ℕ) → k < first → Answered J us vs results₀ (get_or order k 0)) → (k : ℕ)
            → (Done directs direct other k ⊎ ((k ≡ t.first) ⊎ (k ≡ t.second)))
            → Answered J us vs results (get_or order k 0) ⊎ ((get_or order k 0 ≡ get_or order t.first 0) ⊎ (get_or order k 0 ≡ get_or order t.second 0))
        known J elementwise passed given k (inl b) = inl (g.done J elementwise passed given k b)
        known J elementwise passed given k (inr (inl x)) = inr (inl (ap (λ (j : ℕ). get_or order j 0) x))
        known J elementwise passed given k (inr (inr x)) = inr (inr (ap (λ (j : ℕ). get_or order j 0) x))

        more : (J : Job Float) (elementwise : Bool) → PlanSwept J plan r₀ n w scales elementwise
            → ((k : ℕ) → k < first → Answered J us vs results₀ (get_or order k 0)) → (k : ℕ)
            → (Done directs direct other k ⊎ ((k ≡ t.first) ⊎ (k ≡ t.second))) → Answered J us vs results₂ (get_or order k 0)
        more J elementwise passed given k c =
            both-answered J us vs results results₂ _ _ (within t.first pairing.first) (within t.second pairing.second)
            (two.answered J elementwise (now J elementwise passed) (g.known J elementwise passed) e).1 _ (known J elementwise passed given k c)

-- the second pair of a pairing is the first or a direct one
pub second_of_pairing : (us vs order : List ℕ) (w directs : ℕ) → Directs us vs order w directs → (i j : ℕ) → ((j ≡ i) ⊎ (j < directs))
    → Second us vs w (get_or order i 0) (get_or order j 0)
second_of_pairing us vs order w directs d i j (inl e) = inl (ap (λ (k : ℕ). get_or order k 0) e)
second_of_pairing us vs order w directs d i j (inr l) = inr (d.near j l)
