-- The direct pairs of one vertex, two by two.
use mathlib.Core.Path.{◌≡◌, refl, sym, ap, ◌∙◌, subst}
use mathlib.Core.Bool.{Bool, true, false, true≢false}
use mathlib.Core.List.{List}
use mathlib.Core.Logic.{◌⊎◌, inl, inr, dite}
use Prim.Native.Nat.{ℕ, ◌+◌, ◌≤◌, ◌<◌}
use native.Mathlib.Decide.{dec_lt, ℕ_discrete}
use native.Mathlib.Omega.{arith}
use lib.ListN.{length, get_or}
use lib.Ieee.{Float}
use Rattle.transfer_matrix.specs.Job.{Job}
use Rattle.transfer_matrix.specs.Room.{earlier, later}
use Rattle.pair_sums.specs.declared.sums.Source.{Source}
use Rattle.pair_sums.specs.Pair.{Sourced}
use Rattle.pair_correlations.specs.declared.direct.VertexPlaces.{VertexPlaces}
use Rattle.pair_correlations.specs.Sound.{unsound}
use Rattle.pair_correlations.specs.Aim.{VertexHalves, SourceOf, DirectSource}
use Rattle.pair_correlations.specs.Two.{Answered, WroteTwo}
use Rattle.pair_correlations.specs.Direct.{DirectAsked, Between, DirectsAnswered, AnsweredAt}
use Rattle.pair_correlations.proofs.PairLaws.{direct-sourced, direct_of}
use Rattle.pair_correlations.proofs.Answering.{both-answered}
use Rattle.pair_correlations.proofs.Two.{wrote_answers, wrote_unsound}

pub directs_none : (r : List Float) (us vs order : List ℕ) (w : ℕ) (at : VertexPlaces) (from : ℕ) (results : List Float)
    → DirectsAnswered r us vs order w at from from results results
directs_none r us vs order w at from results = record { long = refl; done = go }
  where
    go : (J : Job Float) → VertexHalves J r w at.forward at.backward at.vertex → (i : ℕ) → (Answered J us vs results i ⊎ Between order from from i)
        → Answered J us vs results i
    go J h i (inl a) = a
    go J h i (inr b) = absurd (omega (arith, b.1, b.2))

module _ {us vs order : List ℕ} (r : List Float) {w : ℕ} {at : VertexPlaces} {from to results : ℕ}
    (g : DirectAsked us vs order (length r) w at from to results) where
  -- pair number k
  module _ (k : ℕ) (low : from ≤ k) (high : k < to) where
    pub pair_inside : get_or order k 0 < length us
    pair_inside = g.ordered.inside k (omega (arith, g.direct.inside, g.ordered.long))

    module _ (s : Source) (d : DirectSource at.forward at.backward (earlier us vs (get_or order k 0)) at.vertex s) where
      pub pair-sourced : Sourced (length r) w s
      pair-sourced = direct-sourced r w _ _ _ _ s g.forward g.backward (g.direct.apart k low high) (g.direct.near k low high) d

      pair_of : (J : Job Float) → VertexHalves J r w at.forward at.backward at.vertex
          → SourceOf J r w (earlier us vs (get_or order k 0)) (later us vs (get_or order k 0)) s
      pair_of J h =
          subst (λ (v : ℕ). SourceOf J r w (earlier us vs (get_or order k 0)) v s) (sym (g.direct.end k low high))
          (direct_of r w _ _ _ _ s g.forward g.backward (g.direct.apart k low high) (g.direct.near k low high) d J h)

  -- the pairs k and j, which is k or the next
  module _ (k j : ℕ) (low : from ≤ k) (next : (k ≤ j) × (j ≤ k + 1) × (j < to)) (x y : Source)
      (dx : DirectSource at.forward at.backward (earlier us vs (get_or order k 0)) at.vertex x)
      (dy : DirectSource at.forward at.backward (earlier us vs (get_or order j 0)) at.vertex y)
      (results₀ results₁ results₂ : List Float) (sound : Bool) (long : length results₁ ≡ length us)
      (wrote : WroteTwo r w x y (get_or order k 0) (get_or order j 0) results₁ results₂ sound) where
    high : k < to
    high = omega (arith, next.0, next.2)

    low_j : from ≤ j
    low_j = omega (arith, next.0)

    pub pairs-unsound : sound ≡ false → (J : Job Float) → VertexHalves J r w at.forward at.backward at.vertex → unsound J us vs ≡ true
    pairs-unsound e J h =
        wrote_unsound J us vs r w _ _ x y results₁ results₂ sound (pair_of k low high x dx J h) (pair_of j low_j next.2 y dy J h) wrote
        (pair_inside k low high) (pair_inside j low_j next.2) e

    pub directs_more : sound ≡ true → DirectsAnswered r us vs order w at from k results₀ results₁ → DirectsAnswered r us vs order w at from (j + 1) results₀ results₂
    directs_more e a =
        record { long = wrote.long ∙ a.long; done = λ J h i known. written J h i (so_far J h i known) }
      where
        so_far : (J : Job Float) → VertexHalves J r w at.forward at.backward at.vertex → (i : ℕ)
            → (Answered J us vs results₀ i ⊎ Between order from (j + 1) i)
            → Answered J us vs results₁ i ⊎ ((i ≡ get_or order k 0) ⊎ (i ≡ get_or order j 0))
        so_far J h i (inl b) = inl (a.done J h i (inl b))
        so_far J h i (inr b) =
            let m = b.0 in
            dite (dec_lt m k)
            (λ l. inl (a.done J h i (inr (m, b.1, l, b.3))))
            (λ l. dite (dec_lt m j)
            (λ l'. let z : m ≡ k = omega (arith, next.1) in inr (inl (sym b.3 ∙ ap (λ (v : ℕ). get_or order v 0) z)))
            (λ l'. let z : m ≡ j = omega (arith, b.2) in inr (inr (sym b.3 ∙ ap (λ (v : ℕ). get_or order v 0) z))))

        written : (J : Job Float) → VertexHalves J r w at.forward at.backward at.vertex → (i : ℕ)
            → (Answered J us vs results₁ i ⊎ ((i ≡ get_or order k 0) ⊎ (i ≡ get_or order j 0))) → Answered J us vs results₂ i
        written J h i known =
            both-answered J us vs results₁ results₂ _ _ (rw long (pair_inside k low high)) (rw long (pair_inside j low_j next.2))
            (wrote_answers J us vs r w _ _ x y results₁ results₂ sound (pair_of k low high x dx J h) (pair_of j low_j next.2 y dy J h) wrote e) i known

pub answered-none : {r : List Float} {us vs order : List ℕ} {w : ℕ} {at : VertexPlaces} {from to : ℕ} {results₀ results : List Float}
    → length results ≡ length results₀ → ((J : Job Float) → VertexHalves J r w at.forward at.backward at.vertex → unsound J us vs ≡ true)
    → AnsweredAt r us vs order w at from to results₀ results false
answered-none l e = record { long = l; answered = λ z. absurd (true≢false (sym z)); unanswered = λ _. e }

pub answered-all : {r : List Float} {us vs order : List ℕ} {w : ℕ} {at : VertexPlaces} {from to : ℕ} {results₀ results : List Float}
    → DirectsAnswered r us vs order w at from to results₀ results → AnsweredAt r us vs order w at from to results₀ results true
answered-all a = record { long = a.long; answered = λ _. a; unanswered = λ z. absurd (true≢false z) }
