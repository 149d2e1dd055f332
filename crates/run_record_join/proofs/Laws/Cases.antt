-- A join by its cases, in the order of the checks.
use Rattle.std.specs.Prelude.{◌≡◌, refl, Bool, true, false, not, ◌&&◌, ◌||◌, List, ℕ, T, eqb, length}
use Rattle.std.proofs.Common.{sym, subst}
use borrow.Author.Tests.{eq-eqb, ne_eqb, eqb-true, not-false}
use Rattle.refusals.specs.Request.{too_many_chunks}
use Rattle.refusals.specs.Answers.{left}
use Rattle.run_record.specs.declared.Head.{Head}
use Rattle.run_record.specs.Records.{record_length}
use Rattle.run_record.specs.Reading.{head_of, bad_record}
use Rattle.run_record_join.specs.Joining.{follows, apart, head_over, in_turn, Joined}
use Rattle.run_record_join.specs.Turns.{Turns, limits_of}

-- ---- two heads

module _ (g h : Head) where
  pub other-seed : (g.seed ≡ h.seed → ⊥) → true ≡ apart g h
  unfolding apart
  other-seed n = rw (ne_eqb g.seed h.seed n)

  module _ (s : g.seed ≡ h.seed) where
    pub other-samples : (g.samples ≡ h.samples → ⊥) → true ≡ apart g h
    unfolding apart
    other-samples n = rw (eq-eqb g.seed h.seed s, ne_eqb g.samples h.samples n)

    module _ (m : g.samples ≡ h.samples) where
      pub other-betas : (g.betas ≡ h.betas → ⊥) → true ≡ apart g h
      unfolding apart
      other-betas n = rw (eq-eqb g.seed h.seed s, eq-eqb g.samples h.samples m, ne_eqb g.betas h.betas n)

      module _ (b : g.betas ≡ h.betas) where
        pub other-pairs : (g.pairs ≡ h.pairs → ⊥) → true ≡ apart g h
        unfolding apart
        other-pairs n = rw (eq-eqb g.seed h.seed s, eq-eqb g.samples h.samples m, eq-eqb g.betas h.betas b, ne_eqb g.pairs h.pairs n)

        module _ (p : g.pairs ≡ h.pairs) where
          pub first_ends : g.end ≡ h.start → false ≡ apart g h
          unfolding apart
          first_ends e =
              rw (
                eq-eqb g.seed h.seed s,
                eq-eqb g.samples h.samples m,
                eq-eqb g.betas h.betas b,
                eq-eqb g.pairs h.pairs p,
                eq-eqb g.end h.start e,
              )

          pub by_second : (g.end ≡ h.start → ⊥) → not (eqb h.end g.start) ≡ apart g h
          unfolding apart
          by_second e =
              rw (
                eq-eqb g.seed h.seed s,
                eq-eqb g.samples h.samples m,
                eq-eqb g.betas h.betas b,
                eq-eqb g.pairs h.pairs p,
                ne_eqb g.end h.start e,
              )

and-true : (a b : Bool) → (a && b) ≡ true → (a ≡ true) × (b ≡ true)
and-true true b h = (refl, h)
and-true false b h = absurd (subst T (sym h) tt)

-- what two heads have that are not apart
pub record Together (g h : Head) : Type 0 where
  pub seed : g.seed ≡ h.seed
  pub samples : g.samples ≡ h.samples
  pub betas : g.betas ≡ h.betas
  pub pairs : g.pairs ≡ h.pairs
  pub meet : (follows g h || follows h g) ≡ true

pub together : (g h : Head) → apart g h ≡ false → Together g h
unfolding apart
together g h e =
    let x₄ = and-true _ (follows g h || follows h g) (not-false _ e) in
    let x₃ = and-true _ (eqb g.pairs h.pairs) x₄.0 in
    let x₂ = and-true _ (eqb g.betas h.betas) x₃.0 in
    let x₁ = and-true (eqb g.seed h.seed) (eqb g.samples h.samples) x₂.0 in
    record {
      seed = eqb-true _ _ x₁.0;
      samples = eqb-true _ _ x₁.1;
      betas = eqb-true _ _ x₂.1;
      pairs = eqb-true _ _ x₃.1;
      meet = x₄.1;
    }

-- where the first does not come first, the second does
pub otherwise : (g h : Head) → Together g h → follows g h ≡ false → h.end ≡ g.start
otherwise g h t n = eqb-true _ _ (rw n at t.meet)

-- in either order
module _ (one two : List ℕ) (p : bad_record one ≡ false) (q : bad_record two ≡ false) (n : apart (head_of one) (head_of two) ≡ false) where
  pub in-turn : (head_of one).end ≡ (head_of two).start → Turns one two
  in-turn e = let t = together (head_of one) (head_of two) n in record { first = p; second = q; betas = t.betas; pairs = t.pairs; meet = e }

  pub turned : ((head_of one).end ≡ (head_of two).start → ⊥) → Turns two one
  turned e =
      let t = together (head_of one) (head_of two) n in
      record { first = q; second = p; betas = sym t.betas; pairs = sym t.pairs; meet = otherwise (head_of one) (head_of two) t (ne_eqb _ _ e) }

-- ---- 11 and 12

pub many-of : (a b : List ℕ) (g h : Head) → g ≡ head_of a → h ≡ head_of b
    → too_many_chunks (head_of a).start (head_of b).end (head_of a).samples ≡ too_many_chunks g.start h.end g.samples
many-of a b g h e f = rw (e, f)

module _ (a b : List ℕ) (joined : ℕ) where
  pub over-11 : too_many_chunks (head_of a).start (head_of b).end (head_of a).samples ≡ true → 11 ≡ limits_of a b joined
  unfolding limits_of
  over-11 e = rw e

  module _ (few : too_many_chunks (head_of a).start (head_of b).end (head_of a).samples ≡ false) where
    pub misfit-12 : (joined ≡ record_length (head_over (head_of a) (head_of b)) → ⊥) → 12 ≡ limits_of a b joined
    unfolding limits_of
    misfit-12 n = rw (few, ne_eqb joined (record_length (head_over (head_of a) (head_of b))) n)

    pub fits-0 : joined ≡ record_length (head_over (head_of a) (head_of b)) → 0 ≡ limits_of a b joined
    unfolding limits_of
    fits-0 e = rw (few, eq-eqb joined (record_length (head_over (head_of a) (head_of b))) e)

-- ---- a call

or-true : (a b : Bool) → b ≡ true → (a || b) ≡ true
or-true true b e = refl
or-true false b e = e

module _ (one two joined : List ℕ) where
  pub first-broken : bad_record one ≡ true → Joined one two 26 joined joined
  first-broken e = record { answer = rw e; bytes = rw e }

  pub second-broken : bad_record two ≡ true → Joined one two 26 joined joined
  second-broken e = let o = or-true (bad_record one) (bad_record two) e in record { answer = rw o; bytes = rw o }

  module _ (p : bad_record one ≡ false) (q : bad_record two ≡ false) where
    pub set_apart : apart (head_of one) (head_of two) ≡ true → Joined one two 27 joined joined
    set_apart e = record { answer = rw (p, q, e); bytes = rw (p, q, e) }

    module _ (n : apart (head_of one) (head_of two) ≡ false) (r : ℕ) (joined' : List ℕ) where
      pub one-first : follows (head_of one) (head_of two) ≡ true → r ≡ limits_of one two (length joined) → joined' ≡ left r (in_turn one two) joined
          → Joined one two r joined joined'
      unfolding limits_of
      one-first f e c = record { answer = rw (p, q, n, f) e; bytes = rw (p, q, n, f) (rw e at c) }

      pub two-first : follows (head_of one) (head_of two) ≡ false → r ≡ limits_of two one (length joined) → joined' ≡ left r (in_turn two one) joined
          → Joined one two r joined joined'
      unfolding limits_of
      two-first f e c = record { answer = rw (p, q, n, f) e; bytes = rw (p, q, n, f) (rw e at c) }
