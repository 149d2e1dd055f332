-- How the marks grow, pair by pair.
use mathlib.Core.Path.{◌≡◌, refl, sym, ap, ◌∙◌}
use mathlib.Core.Bool.{Bool, true, false, ◌&&◌, ◌||◌, and-true, and-false, or-true, or-false, or_assoc}
use mathlib.Core.List.{List}
use mathlib.Core.Logic.{dite}
use Prim.Native.Nat.{ℕ, ◌+◌, ◌<◌}
use native.Mathlib.Decide.{dec_lt, ℕ_discrete}
use native.Mathlib.Numerals.{add-one}
use native.Mathlib.Omega.{arith}
use lib.Dec.{eqb}
use lib.ListN.{length, get_or, set, replicate, length-replicate, get_or-replicate, get_or-eq_default}
use lib.Seq.{get_or-set_same, get_or-set_other}
use borrow.Author.Tests.{eq-eqb, ne_eqb}
use Rattle.list_laws.specs.Search.{some}
use Rattle.transfer_matrix.specs.Room.{Arrangement, arranged, waits, earlier, later, is_propagated, keeps_forward, keeps_backward}
use Rattle.pair_places.specs.Places.{Marked, MarkedToo, waiting_pair}

-- no mark is set at first
pub unmarked : (k : ℕ) → Marked (replicate k false) (λ t. false)
unmarked k = record { at = λ t. dite (dec_lt t k) (inside t) (outside t) }
  where
    inside : (t : ℕ) → t < k → get_or (replicate k false) t false ≡ false
    inside t l = get_or-replicate k t false false l

    outside : (t : ℕ) → (t < k → ⊥) → get_or (replicate k false) t false ≡ false
    outside t l = get_or-eq_default (replicate k false) false (omega (arith, length-replicate k false))

-- a mark that is set, and one that is not
pub mark_set : (marks : List Bool) (t : ℕ) → t < length marks → MarkedToo marks (set marks t true) t true
mark_set marks t b = record { at = λ u. go u (ℕ_discrete t u) }
  where
    go : (u : ℕ) → Dec (t ≡ u) → get_or (set marks t true) u false ≡ (get_or marks u false || (eqb t u && true))
    go u (yes e) = rw (← e, eq-eqb t t refl) (get_or-set_same marks t true false b ∙ sym (or-true (get_or marks t false)))
    go u (no e) = rw (ne_eqb t u e) (get_or-set_other marks t u true false (λ q. e (sym q)) ∙ sym (or-false (get_or marks u false)))

pub mark_left : (marks : List Bool) (t : ℕ) → MarkedToo marks marks t false
mark_left marks t = record { at = λ u. rw (and-false (eqb t u)) (sym (or-false (get_or marks u false))) }

-- the tests of the pairs
abbrev pub asks_forward : ℕ → List ℕ → List ℕ → ℕ → ℕ → Bool
asks_forward w us vs t i = eqb (later us vs i) t || (eqb (earlier us vs i) t && is_propagated w us vs i)

abbrev pub asks_backward : Arrangement → ℕ → List ℕ → List ℕ → ℕ → ℕ → Bool
asks_backward A w us vs t i = eqb (later us vs i) t && waits A w us vs i

waits-is : (less : Bool) (w : ℕ) (us vs : List ℕ) (i : ℕ) → waiting_pair less w (get_or us i 0) (get_or vs i 0) ≡ waits (arranged less) w us vs i
waits-is true w us vs i = refl
waits-is false w us vs i = refl

-- what the first i pairs ask for is marked
abbrev pub Asked : List Bool → (ℕ → ℕ → Bool) → ℕ → Type 0
Asked marks asks i = Marked marks (λ t. some (asks t) i)

pub asked-start : (marks : List Bool) (asks : ℕ → ℕ → Bool) → Marked marks (λ t. false) → Asked marks asks 0
unfolding some
asked-start marks asks h = record { at = h.at }

one_more : (marks marks' : List Bool) (asks : ℕ → ℕ → Bool) (i : ℕ) → Asked marks asks i
    → ((t : ℕ) → get_or marks' t false ≡ (get_or marks t false || asks t i))
    → Asked marks' asks (i + 1)
unfolding some
one_more marks marks' asks i h e = record { at = λ t. rw (add-one i) (e t ∙ ap (λ (b : Bool). b || asks t i) (h.at t)) }

module _ (marks marks' : List Bool) (us vs : List ℕ) (i v : ℕ) (ev : v ≡ later us vs i) (marked : MarkedToo marks marks' v true) where
  at-later : (t : ℕ) → get_or marks' t false ≡ (get_or marks t false || eqb (later us vs i) t)
  at-later t = marked.at t ∙ ap (λ (x : Bool). get_or marks t false || x) (and-true (eqb v t) ∙ ap (λ (x : ℕ). eqb x t) ev)

  pub forward_iteration : (w u : ℕ) (kept : Bool) (marks'' : List Bool) → u ≡ earlier us vs i → kept ≡ is_propagated w us vs i
      → MarkedToo marks' marks'' u kept → Asked marks (asks_forward w us vs) i → Asked marks'' (asks_forward w us vs) (i + 1)
  forward_iteration w u kept marks'' eu ek f h =
      one_more marks marks'' (asks_forward w us vs) i h
      (λ t.
      let a = get_or marks t false in
      let b = eqb (later us vs i) t in
      let e : (eqb u t && kept) ≡ (eqb (earlier us vs i) t && is_propagated w us vs i) = rw (eu, ek) in
      f.at t ∙ ap (λ (x : Bool). get_or marks' t false || x) e
      ∙ ap (λ (x : Bool). x || (eqb (earlier us vs i) t && is_propagated w us vs i)) (at-later t)
      ∙ or_assoc a b (eqb (earlier us vs i) t && is_propagated w us vs i))

pub backward_iteration : (marks marks' : List Bool) (less : Bool) (w : ℕ) (us vs : List ℕ) (i v : ℕ) (kept : Bool) → v ≡ later us vs i
    → kept ≡ waiting_pair less w (get_or us i 0) (get_or vs i 0) → MarkedToo marks marks' v kept → Asked marks (asks_backward (arranged less) w us vs) i
    → Asked marks' (asks_backward (arranged less) w us vs) (i + 1)
backward_iteration marks marks' less w us vs i v kept ev ek m h =
    one_more marks marks' (asks_backward (arranged less) w us vs) i h
    (λ t.
    let e : (eqb v t && kept) ≡ (eqb (later us vs i) t && waits (arranged less) w us vs i) = rw (ev, ek, waits-is less w us vs i) in
    m.at t ∙ ap (λ (x : Bool). get_or marks t false || x) e)

pub forward-end : (marks : List Bool) (w : ℕ) (us vs : List ℕ) → Asked marks (asks_forward w us vs) (length us) → Marked marks (keeps_forward w us vs)
unfolding keeps_forward
forward-end marks w us vs h = record { at = h.at }

pub backward-end : (marks : List Bool) (A : Arrangement) (w : ℕ) (us vs : List ℕ) → Asked marks (asks_backward A w us vs) (length us) → Marked marks (keeps_backward A w us vs)
unfolding keeps_backward
backward-end marks A w us vs h = record { at = h.at }
