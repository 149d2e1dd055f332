-- Laws of what specs/Places defines.
use Rattle.std.specs.Prelude.{◌≡◌, Bool, cond, List, eqb, length, get_or}
use Rattle.std.proofs.Math.Path.{refl, sym}
use Rattle.std.proofs.Common.{ap, ◌∙◌}
use Rattle.std.proofs.Math.Bool.{true, false, or-true}
use Rattle.std.proofs.Math.Logic.{dite}
use Prim.Native.Nat.{ℕ, zero, suc, ◌+◌, ◌≤◌, ◌<◌}
use Rattle.std.proofs.Math.Decide.{dec_lt}
use Rattle.std.proofs.Math.Nat.{min-le_left}
use native.Mathlib.Omega.{arith}
use Rattle.std.proofs.Math.Dec.{ltb}
use borrow.Author.Tests.{ltb-true, lt-ltb, eq-eqb}
use Rattle.list_laws.specs.Count.{count}
use Rattle.list_laws.proofs.Laws.Count.{count_hit, count_most}
use Rattle.list_laws.proofs.Laws.Search.{some_at}
use Rattle.transfer_matrix.specs.Room.{Arrangement, waits, earlier, later, is_propagated, keeps_forward, keeps_backward}
use Rattle.plan_steps.specs.Layout.{forward_place, backward_place}
use Rattle.pair_places.specs.Places.{Pairs, place_at, moving, backward_from, places_of, Places}

pub pairs_wider : (us vs : List ℕ) (n k : ℕ) → n ≤ k → Pairs us vs n → Pairs us vs k
pairs_wider us vs n k l g = record { matched = g.matched; first = λ i b. omega (arith, g.first i b); second = λ i b. omega (arith, g.second i b) }

pub later-inside : (us vs : List ℕ) (n i : ℕ) → Pairs us vs n → i < length us → later us vs i < n
later-inside us vs n i g b = omega (arith, g.first i b, g.second i b)

pub earlier-inside : (us vs : List ℕ) (n i : ℕ) → Pairs us vs n → i < length us → earlier us vs i < n
earlier-inside us vs n i g b = omega (arith, g.first i b, min-le_left (get_or us i 0) (get_or vs i 0))

-- ---- what follows

pub places-most : (A : Arrangement) (n w : ℕ) (us vs : List ℕ) → places_of A n w us vs ≤ moving + n + n
places-most A n w us vs = omega (arith, count_most (keeps_forward w us vs) n, count_most (keeps_backward A w us vs) n)

module _ (test : ℕ → Bool) where
  count-rises : (t u : ℕ) → t ≤ u → count test t ≤ count test u
  unfolding count
  count-rises t zero l = let e : t ≡ 0 = omega arith in rw e (omega arith)
  count-rises t (suc u) l =
      dite (dec_lt t (suc u))
      (λ b. omega (arith, count-rises t u (omega arith)))
      (λ b. let e : t ≡ suc u = omega arith in rw e (omega arith))

  count-passes : (t u : ℕ) → t < u → test t ≡ true → count test t < count test u
  count-passes t u l p = omega (arith, count_hit test t p, count-rises (t + 1) u (omega arith))

  module _ (from : ℕ) (one : 1 ≤ from) where
    -- there is a place exactly where the test passes
    pub place-there : (t : ℕ) → ltb 0 (place_at test from t) ≡ test t
    unfolding place_at
    place-there t = go (test t)
      where
        go : (b : Bool) → ltb 0 (cond b (from + count test t) 0) ≡ b
        go true = lt-ltb 0 (from + count test t) (omega arith)
        go false = refl

    place_is : (t : ℕ) → 0 < place_at test from t → (test t ≡ true) × (place_at test from t ≡ from + count test t)
    unfolding place_at
    place_is t p = let e = sym (place-there t) ∙ lt-ltb 0 (place_at test from t) p in (e, rw e)

    pub place_inside : (n t : ℕ) → t < n → 0 < place_at test from t → (from ≤ place_at test from t) × (place_at test from t < from + count test n)
    place_inside n t b p = let e = place_is t p in (omega (arith, e.1), omega (arith, e.1, count-passes t n b e.0))

    pub place-apart : (t u : ℕ) → 0 < place_at test from t → place_at test from t ≡ place_at test from u → t ≡ u
    place-apart t u p e =
        let a = place_is t p in
        let b = place_is u (rw e at p) in
        dite (dec_lt t u)
        (λ l. absurd (omega (arith, a.1, b.1, count-passes t u l a.0)))
        (λ l. dite (dec_lt u t) (λ m. absurd (omega (arith, a.1, b.1, count-passes u t m b.0))) (λ m. omega arith))

module _ (A : Arrangement) (plan us vs : List ℕ) (n w : ℕ) (g : Places A plan us vs n w) where
  -- a vertex has a forward place exactly where its forward vector is kept, a backward place exactly where its backward vector is
  pub forward-kept : (t : ℕ) → t < n → ltb 0 (forward_place plan t) ≡ keeps_forward w us vs t
  forward-kept t b = ap (ltb 0) (g.forward t b) ∙ place-there (keeps_forward w us vs) moving (omega arith) t

  pub backward-kept : (t : ℕ) → t < n → ltb 0 (backward_place plan t) ≡ keeps_backward A w us vs t
  backward-kept t b = ap (ltb 0) (g.backward t b) ∙ place-there (keeps_backward A w us vs) (backward_from n w us vs) (omega arith) t

  -- forward places lie behind the moving ones, backward places behind these, and all are below the number of places
  pub forward-inside : (t : ℕ) → t < n → 0 < forward_place plan t → (moving ≤ forward_place plan t) × (forward_place plan t < backward_from n w us vs)
  forward-inside t b p =
      let e = g.forward t b in
      let i = place_inside (keeps_forward w us vs) moving (omega arith) n t b (rw e at p) in
      (omega (arith, i.0), omega (arith, i.1))

  pub backward-inside : (t : ℕ) → t < n → 0 < backward_place plan t
      → (backward_from n w us vs ≤ backward_place plan t) × (backward_place plan t < places_of A n w us vs)
  backward-inside t b p =
      let e = g.backward t b in
      let i = place_inside (keeps_backward A w us vs) (backward_from n w us vs) (omega arith) n t b (rw e at p) in
      (omega (arith, i.0), omega (arith, i.1))

  -- no place is handed to two vectors
  pub forward-apart : (t u : ℕ) → t < n → u < n → 0 < forward_place plan t → forward_place plan t ≡ forward_place plan u → t ≡ u
  forward-apart t u b c p e =
      place-apart (keeps_forward w us vs) moving (omega arith) t u (rw (g.forward t b) at p) (sym (g.forward t b) ∙ e ∙ g.forward u c)

  pub backward-apart : (t u : ℕ) → t < n → u < n → 0 < backward_place plan t → backward_place plan t ≡ backward_place plan u → t ≡ u
  backward-apart t u b c p e =
      place-apart (keeps_backward A w us vs) (backward_from n w us vs) (omega arith) t u (rw (g.backward t b) at p)
      (sym (g.backward t b) ∙ e ∙ g.backward u c)

  pub kinds-apart : (t u : ℕ) → t < n → u < n → 0 < forward_place plan t → forward_place plan t ≡ backward_place plan u → ⊥
  kinds-apart t u b c p e = omega (arith, (forward-inside t b p).1, (backward-inside u c (rw e at p)).0)

  -- a pair finds what it needs: the forward vector of its later vertex, the backward one if it waits, and if it is propagated the forward vector of its earlier one
  module _ (i : ℕ) (pairs : Pairs us vs n) (b : i < length us) where
    placed : (place : ℕ) (test : Bool) → ltb 0 place ≡ test → test ≡ true → 0 < place
    placed place test e p = ltb-true 0 place (e ∙ p)

    pub later-forward : 0 < forward_place plan (later us vs i)
    unfolding keeps_forward
    later-forward =
        placed _ _ (forward-kept (later us vs i) (later-inside us vs n i pairs b))
        (some_at _ (length us) i b (rw (eq-eqb (later us vs i) (later us vs i) refl)))

    pub later-backward : waits A w us vs i ≡ true → 0 < backward_place plan (later us vs i)
    unfolding keeps_backward
    later-backward p =
        placed _ _ (backward-kept (later us vs i) (later-inside us vs n i pairs b))
        (some_at _ (length us) i b (rw (eq-eqb (later us vs i) (later us vs i) refl, p)))

    pub earlier-forward : is_propagated w us vs i ≡ true → 0 < forward_place plan (earlier us vs i)
    unfolding keeps_forward
    earlier-forward p =
        placed _ _ (forward-kept (earlier us vs i) (earlier-inside us vs n i pairs b))
        (some_at _ (length us) i b (rw (eq-eqb (earlier us vs i) (earlier us vs i) refl, p) (or-true (eqb (later us vs i) (earlier us vs i)))))
