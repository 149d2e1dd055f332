-- Relaxed edges keep the lengths sound and lower their sum.
use mathlib.Core.Path.{◌≡◌, refl, sym, ap, ◌∙◌}
use mathlib.Core.Bool.{Bool, true, false, ◌||◌, true≢false}
use mathlib.Core.List.{List, [], ◌∷◌}
use mathlib.Core.Logic.{dite}
use Prim.Native.Nat.{ℕ, zero, suc, ◌+◌, ◌≤◌, ◌<◌}
use native.Mathlib.Nat.{not-suc-le-zero, le_of_suc-le-suc, le_refl}
use native.Mathlib.Numerals.{add-one}
use native.Mathlib.Decide.{ℕ_discrete, dec_lt}
use native.Mathlib.Omega.{arith}
use lib.ListN.{length, get_or, set, length-set}
use lib.Seq.{get_or-set_same, get_or-set_other}
use borrow.Author.Tests.{eq-eqb, ne_eqb}
use Rattle.distance.specs.Walks.{Adjacent, along, back, Walk}
use Rattle.distance.specs.Lengths.{far, weigh, total, is_far, unknown}
use Rattle.distance.specs.Lengths.{Entry, away, seen, Sound, Ready, Lowered}
use Rattle.distance.specs.Lengths.{Relaxed, nearer, kept, Steps, lowered, calm, Settled, EdgesRelaxed}

-- ---- sums, after a store

weigh-set : (f : ℕ → ℕ) (d : List ℕ) (b z : ℕ) → b < length d → weigh f (set d b z) + f (get_or d b 0) ≡ weigh f d + f z
unfolding weigh
weigh-set f [] b z h = absurd (not-suc-le-zero h)
weigh-set f (y ∷ d) zero z h = omega arith
weigh-set f (y ∷ d) (suc b) z h = omega (arith, weigh-set f d b z (le_of_suc-le-suc h))

module _ (d : List ℕ) (b z : ℕ) (b< : b < length d) (n : z ≡ far → ⊥) where
  pub unknown_fewer : get_or d b 0 ≡ far → unknown (set d b z) + 1 ≡ unknown d
  unknown_fewer e = omega (arith, simp (eq-eqb _ _ e, ne_eqb _ _ n) at (weigh-set is_far d b z b<))

  unknown-most : unknown (set d b z) ≤ unknown d
  unknown-most = omega (arith, simp (ne_eqb _ _ n) at (weigh-set is_far d b z b<))

-- ---- one step

more_room : {early late : List ℕ} {u m n v x : ℕ} → n ≤ m → Entry early late u m v x → Entry early late u n v x
more_room h (away p) = away p
more_room h (seen p w) = seen (omega arith) w

module _ (early late d : List ℕ) (a b : ℕ) (edge : Adjacent early late a b) (a< : a < length d) (b< : b < length d) where
  abbrev after : List ℕ
  after = set d b (get_or d a 0 + 1)

  -- b's entry is at most far, so a's is known, and is the length of a walk that goes on to b
  nearer-sound : get_or d a 0 + 1 < get_or d b 0 → (u : ℕ) → Sound early late u d → Sound early late u after
  unfolding Walk
  nearer-sound h u S = go (S.each a a<) (S.each b b<)
    where
      sound : Walk early late (get_or d a 0) u a → get_or d a 0 + 1 + unknown after < far → Sound early late u after
      sound w l =
          record {
            start = get_or-set_other d b u (get_or d a 0 + 1) 0 (λ q. omega (arith, S.start, ap (λ (v : ℕ). get_or d v 0) q)) ∙ S.start;
            each = λ v v<. each v (rw length-set at v<) (ℕ_discrete v b);
          }
        where
          each : (v : ℕ) → v < length d → Dec (v ≡ b) → Entry early late u (unknown after) v (get_or after v 0)
          each v v< (yes q) = rw (q, get_or-set_same d b (get_or d a 0 + 1) 0 b<) (seen l (rw add-one (a, w, edge)))
          each v v< (no m) =
              rw (get_or-set_other d b v (get_or d a 0 + 1) 0 m)
              (more_room (unknown-most d b (get_or d a 0 + 1) b< (λ z. omega arith)) (S.each v v<))

      go : Entry early late u (unknown d) a (get_or d a 0) → Entry early late u (unknown d) b (get_or d b 0) → Sound early late u after
      go (away p) (away q) = absurd (omega arith)
      go (away p) (seen q x) = absurd (omega arith)
      go (seen p w) (away q) = sound w (omega (arith, unknown_fewer d b (get_or d a 0 + 1) b< (λ z. omega arith) q))
      go (seen p w) (seen q x) = sound w (omega (arith, unknown-most d b (get_or d a 0 + 1) b< (λ z. omega arith)))

  nearer-low : get_or d a 0 + 1 < get_or d b 0 → (v : ℕ) → Dec (v ≡ b) → get_or after v 0 ≤ get_or d v 0
  nearer-low h v (yes q) = rw (q, get_or-set_same d b (get_or d a 0 + 1) 0 b<) (omega arith)
  nearer-low h v (no m) = rw (get_or-set_other d b v (get_or d a 0 + 1) 0 m) (le_refl (get_or d v 0))

  step : {r : Bool} {e : List ℕ} → Relaxed d a b r e → Steps early late (λ s. get_or s b 0 ≤ get_or s a 0 + 1) d r e
  step (kept h) = calm h
  step (nearer h) =
      lowered
      (record {
        len = length-set d b (get_or d a 0 + 1);
        low = λ v. nearer-low h v (ℕ_discrete v b);
        sound = nearer-sound h;
      })
      (omega (arith, weigh-set (λ x. x) d b (get_or d a 0 + 1) b<))

-- ---- steps one after another

module _ {early late : List ℕ} where
  pub lowered_none : (d : List ℕ) → Lowered early late d d
  lowered_none d = record { len = refl; low = λ v. le_refl (get_or d v 0); sound = λ u S. S }

  lowered-on : {d e f : List ℕ} → Lowered early late d e → Lowered early late e f → Lowered early late d f
  lowered-on k l =
      record {
        len = l.len ∙ k.len;
        low = λ v. omega (arith, k.low v, l.low v);
        sound = λ u S. l.sound u (k.sound u S);
      }

  pub ready_on : {d e : List ℕ} → Ready early late d → Lowered early late d e → Ready early late e
  ready_on R l =
      record {
        same = R.same;
        inside = rw l.len R.inside;
        top = λ v h. omega (arith, R.top v (rw l.len at h), l.low v);
      }

  module _ {P : List ℕ → Type 0} {d : List ℕ} where
    pub steps-lowered : {r : Bool} {e : List ℕ} → Steps early late P d r e → Lowered early late d e
    steps-lowered (lowered l h) = l
    steps-lowered (calm p) = lowered_none d

    pub lowered-steps : {r : Bool} {c e : List ℕ} → Lowered early late c d → Steps early late P d r e → Lowered early late c e
    lowered-steps l s = lowered-on l (steps-lowered s)

    pub steps_less : {r : Bool} {e : List ℕ} → Steps early late P d r e → r ≡ true → total e < total d
    steps_less (lowered l h) q = h
    steps_less (calm p) q = absurd (true≢false (sym q))

    pub steps-calm : {r : Bool} {e : List ℕ} → Steps early late P d r e → r ≡ false → P e
    steps-calm (lowered l h) q = absurd (true≢false q)
    steps-calm (calm p) q = p

  pub join : {P Q R : List ℕ → Type 0} {d : List ℕ} {r s : Bool} {e f : List ℕ}
      → (P d → Q d → R d) → Steps early late P d r e → Steps early late Q e s f → Steps early late R d (r || s) f
  join both (lowered k g) (lowered l h) = lowered (lowered-on k l) (omega arith)
  join both (lowered k g) (calm q) = lowered k g
  join both (calm p) (lowered l h) = lowered l h
  join both (calm p) (calm q) = calm (both p q)

  pub settled-none : (n : ℕ) (d : List ℕ) → Settled early late n n d
  settled-none n d = record { edge = λ j l h. absurd (omega arith) }

  pub settled_on : {m n o k : ℕ} {d : List ℕ} → o ≤ n → Settled early late m n d → Settled early late o k d → Settled early late m k d
  settled_on {n = n} h p q =
      record { edge = λ j l g. dite (dec_lt j n) (λ b. p.edge j l b) (λ b. q.edge j (omega arith) g) }

-- ---- an edge, from its early end and then from its late end

module _ {early late d : List ℕ} (R : Ready early late d) (i : ℕ) (i< : i < length early) where
  first : {r : Bool} {e : List ℕ} → Relaxed d (get_or early i 0) (get_or late i 0) r e
      → Steps early late (λ s. get_or s (get_or late i 0) 0 ≤ get_or s (get_or early i 0) 0 + 1) d r e
  first x = let h = R.inside i i< in step early late d (get_or early i 0) (get_or late i 0) (along i i<) h.0 h.1 x

  pub first-ready : {r : Bool} {e : List ℕ} → Relaxed d (get_or early i 0) (get_or late i 0) r e → Ready early late e
  first-ready x = ready_on R (steps-lowered (first x))

  pub edge-swept : {r s : Bool} {e f : List ℕ} → Relaxed d (get_or early i 0) (get_or late i 0) r e
      → Relaxed e (get_or late i 0) (get_or early i 0) s f → EdgesRelaxed early late i (i + 1) d (r || s) f
  edge-swept {e = e} x y =
      let h = (first-ready x).inside i i< in
      join (λ p q. record { edge = λ j l g. let z : j ≡ i = omega arith in rw z (p, q) }) (first x)
      (step early late e (get_or late i 0) (get_or early i 0) (back i i<) h.1 h.0 y)
