-- How the places are numbered, vertex by vertex; and that the numbers are those of the definition.
use mathlib.Core.Path.{◌≡◌, refl, ap, ◌∙◌}
use mathlib.Core.Bool.{Bool, false, cond}
use mathlib.Core.List.{List}
use mathlib.Core.Logic.{dite}
use Prim.Native.Nat.{ℕ, ◌+◌, ◌<◌}
use native.Mathlib.Decide.{dec_lt}
use native.Mathlib.Numerals.{add-one}
use native.Mathlib.Omega.{arith}
use lib.ListN.{get_or, set}
use lib.Seq.{get_or-set_same, get_or-set_other}
use Rattle.list_laws.specs.Count.{count}
use Rattle.list_laws.proofs.Laws.Count.{count_ext}
use Rattle.transfer_matrix.specs.Room.{Arrangement, keeps_forward, keeps_backward}
use Rattle.plan_steps.specs.Layout.{numbers, forward_place_at, backward_place_at, index_of, Holds, SameStep}
use Rattle.pair_places.specs.Places.{Marked, place_at, Numbered, moving, backward_from, places_of, Places, Placed}

count-more : (test : ℕ → Bool) (t : ℕ) → count test (t + 1) ≡ count test t + cond (test t) 1 0
unfolding count
count-more test t = rw (add-one t)

pub numbered-start : (plan : List ℕ) (test : ℕ → Bool) (k from : ℕ) → Numbered plan plan test k from 0 from
unfolding count
numbered-start plan test k from = record { given = λ u b. absurd (omega arith); others = λ u i b ne. refl; free = omega arith }

-- one vertex more
pub numbered_iteration : (plan₀ plan plan' : List ℕ) (test : ℕ → Bool) (k from t next next' : ℕ) → Numbered plan₀ plan test k from t next → k < numbers
    → Holds plan (t + 1) → next' ≡ next + cond (test t) 1 0 → plan' ≡ set plan (index_of t k) (cond (test t) next 0)
    → Numbered plan₀ plan' test k from (t + 1) next'
unfolding place_at
numbered_iteration plan₀ plan plan' test k from t next next' g l fits en ep =
    rw ep (record {
      given = λ u b.
          dite (dec_lt u t)
          (λ p. get_or-set_other plan (index_of t k) (index_of u k) (cond (test t) next 0) 0 (λ e. omega arith) ∙ g.given u p)
          (λ p.
          let e : u ≡ t = omega arith in
          rw e (get_or-set_same plan (index_of t k) (cond (test t) next 0) 0 (omega arith) ∙ ap (λ (x : ℕ). cond (test t) x 0) g.free));
      others = λ u i b ne. get_or-set_other plan (index_of t k) (index_of u i) (cond (test t) next 0) 0 (λ e. ne (omega arith)) ∙ g.others u i b ne;
      free = omega (arith, g.free, count-more test t);
    })

module _ (marks : List Bool) (test : ℕ → Bool) (h : Marked marks test) where
  pub marks-count : (n : ℕ) → count (λ t. get_or marks t false) n ≡ count test n
  marks-count n = count_ext (λ t. get_or marks t false) test n (λ t b. h.at t)

  place-marks : (from t : ℕ) → place_at (λ u. get_or marks u false) from t ≡ place_at test from t
  unfolding place_at
  place-marks from t = rw (h.at t, marks-count t)

-- forward places behind those of the moving vectors, then the backward places
module _ (A : Arrangement) (plan₀ plan₁ plan₂ us vs : List ℕ) (forward backward : List Bool) (n w f b : ℕ)
    (hf : Marked forward (keeps_forward w us vs)) (hb : Marked backward (keeps_backward A w us vs))
    (gf : Numbered plan₀ plan₁ (λ t. get_or forward t false) forward_place_at moving n f)
    (gb : Numbered plan₁ plan₂ (λ t. get_or backward t false) backward_place_at f n b) where
  from_is : f ≡ backward_from n w us vs
  from_is = gf.free ∙ ap (λ (c : ℕ). moving + c) (marks-count forward (keeps_forward w us vs) hf n)

  end_is : b ≡ places_of A n w us vs
  end_is = omega (arith, gb.free, from_is, marks-count backward (keeps_backward A w us vs) hb n)

  places-of : Places A plan₂ us vs n w
  places-of =
      record {
        forward = λ t l.
            gb.others t forward_place_at (omega arith) (λ e. omega arith) ∙ gf.given t l
            ∙ place-marks forward (keeps_forward w us vs) hf moving t;
        backward = λ t l.
            gb.given t l ∙ place-marks backward (keeps_backward A w us vs) hb f t ∙ ap (λ (from : ℕ). place_at (keeps_backward A w us vs) from t) from_is;
      }

  same-steps : (t : ℕ) → SameStep plan₀ plan₂ t
  same-steps t k l = gb.others t k (omega arith) (λ e. omega arith) ∙ gf.others t k (omega arith) (λ e. omega arith)

  pub placed : Placed A plan₀ plan₂ us vs n w b
  placed = record { count-is = end_is; places = places-of; same = same-steps }
