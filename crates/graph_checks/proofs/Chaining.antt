-- A search along a chain of edges with one later end, and the chains as they grow.
use mathlib.Core.Path.{◌≡◌, refl, sym, ap, ◌∙◌}
use mathlib.Core.Bool.{Bool, true, false, ◌&&◌}
use mathlib.Core.List.{List}
use mathlib.Core.Logic.{◌⊎◌, inl, inr}
use Prim.Native.Nat.{ℕ, ◌+◌, ◌-◌, ◌≤◌, ◌<◌}
use native.Mathlib.Decide.{ℕ_discrete, dec_lt}
use native.Mathlib.Omega.{arith}
use lib.Dec.{eqb}
use lib.ListN.{length, get_or, set, replicate, length-set, length-replicate, get_or-replicate}
use lib.Seq.{get_or-set_same, get_or-set_other}
use borrow.Author.Tests.{eq-eqb, ne_eqb}
use Rattle.list_laws.specs.Search.{some}
use Rattle.list_laws.proofs.Laws.Search.{some_at, none_of, miss}
use Rattle.refusals.specs.Request.{same_ends}
use Rattle.graph_checks.specs.Chains.{LastAt, Chain, Heads}

and-false : (a b : Bool) → b ≡ false → (a && b) ≡ false
and-false true b e = e
and-false false b e = refl

module _ (early late : List ℕ) (e : ℕ) where
  -- no edge from k on up to e joins e's ends, and the edge before k ends where e does
  pub record Searched (k : ℕ) : Type 0 where
    pub within : k ≤ e
    pub here : (k ≡ 0) ⊎ (get_or late (k - 1) 0 ≡ get_or late e 0)
    pub past : (f : ℕ) → k ≤ f → f < e → same_ends early late e f ≡ false

  other-late : (f : ℕ) → (get_or late f 0 ≡ get_or late e 0 → ⊥) → same_ends early late e f ≡ false
  other-late f n = and-false (eqb (get_or early f 0) (get_or early e 0)) (eqb (get_or late f 0) (get_or late e 0)) (ne_eqb _ _ n)

  other-early : (f : ℕ) → (get_or early f 0 ≡ get_or early e 0 → ⊥) → same_ends early late e f ≡ false
  other-early f n = rw (ne_eqb (get_or early f 0) (get_or early e 0) n)

  pub search_start : (k : ℕ) → LastAt late e (get_or late e 0) k → Searched k
  search_start k l = record { within = l.before; here = l.ends; past = λ f a b. other-late f (l.after f a b) }

  -- the edge before k ends where e does, if there is one
  same-late : (k : ℕ) → 0 < k → Searched k → get_or late (k - 1) 0 ≡ get_or late e 0
  same-late k p s = go s.here
    where
      go : (k ≡ 0) ⊎ (get_or late (k - 1) 0 ≡ get_or late e 0) → get_or late (k - 1) 0 ≡ get_or late e 0
      go (inl z) = absurd (omega arith)
      go (inr h) = h

  pub search_hit : (k : ℕ) → 0 < k → Searched k → get_or early (k - 1) 0 ≡ get_or early e 0 → true ≡ some (same_ends early late e) e
  search_hit k p s h =
      let w = s.within in
      sym (some_at (same_ends early late e) e (k - 1) (omega arith) (rw (eq-eqb _ _ h, eq-eqb _ _ (same-late k p s))))

  pub search_on : (next : List ℕ) (k : ℕ) → 0 < k → Searched k → (get_or early (k - 1) 0 ≡ get_or early e 0 → ⊥) → Chain late next e
      → Searched (get_or next (k - 1) 0)
  search_on next k p s n chain =
      let w = s.within in
      let b : k - 1 < e = omega arith in
      let l = chain (k - 1) b in
      let same = same-late k p s in
      record {
        within = omega (arith, l.before);
        here = go l.ends same;
        past = λ f x y. cases f x y (dec_lt f (k - 1)) (ℕ_discrete f (k - 1)) l same;
      }
    where
      go : (get_or next (k - 1) 0 ≡ 0) ⊎ (get_or late (get_or next (k - 1) 0 - 1) 0 ≡ get_or late (k - 1) 0) → get_or late (k - 1) 0 ≡ get_or late e 0
          → (get_or next (k - 1) 0 ≡ 0) ⊎ (get_or late (get_or next (k - 1) 0 - 1) 0 ≡ get_or late e 0)
      go (inl z) q = inl z
      go (inr z) q = inr (z ∙ q)

      cases : (f : ℕ) → get_or next (k - 1) 0 ≤ f → f < e → Dec (f < k - 1) → Dec (f ≡ k - 1)
          → LastAt late (k - 1) (get_or late (k - 1) 0) (get_or next (k - 1) 0) → get_or late (k - 1) 0 ≡ get_or late e 0 → same_ends early late e f ≡ false
      cases f x y (yes b) q l same = other-late f (λ h. l.after f x b (h ∙ sym same))
      cases f x y (no b) (yes q) l same = rw q (other-early (k - 1) n)
      cases f x y (no b) (no q) l same = s.past f (omega arith) y

  pub search_less : (next : List ℕ) (k : ℕ) → 0 < k → Searched k → Chain late next e → get_or next (k - 1) 0 < k
  search_less next k p s chain =
      let w = s.within in
      let b : k - 1 < e = omega arith in
      omega (arith, (chain (k - 1) b).before)

  -- the chain's end
  pub search_end : (k : ℕ) → k ≤ 0 → Searched k → false ≡ some (same_ends early late e) e
  search_end k z s = sym (none_of (same_ends early late e) e (λ f b. s.past f (omega arith) b))

-- ---- one edge more
module _ (late heads next : List ℕ) (e : ℕ) (chain : Chain late next e) (lasts : Heads late heads e) (inside : get_or late e 0 < length heads)
    (room : e < length next) where
  pub chain_more : Chain late (set next e (get_or heads (get_or late e 0) 0)) (e + 1)
  chain_more f b = go (ℕ_discrete f e)
    where
      go : Dec (f ≡ e) → LastAt late f (get_or late f 0) (get_or (set next e (get_or heads (get_or late e 0) 0)) f 0)
      go (yes q) = rw (q, get_or-set_same next e (get_or heads (get_or late e 0) 0) 0 room) (lasts (get_or late e 0) inside)
      go (no q) = rw (get_or-set_other next e f (get_or heads (get_or late e 0) 0) 0 q) (chain f (omega arith))

  later : (v k : ℕ) → (v ≡ get_or late e 0 → ⊥) → LastAt late e v k → LastAt late (e + 1) v k
  later v k n l =
      let w = l.before in
      record { before = omega arith; ends = l.ends; after = λ f a b h. go f a b h (ℕ_discrete f e) }
    where
      go : (f : ℕ) → k ≤ f → f < e + 1 → get_or late f 0 ≡ v → Dec (f ≡ e) → ⊥
      go f a b h (yes q) = n (sym h ∙ ap (λ x. get_or late x 0) q)
      go f a b h (no q) = l.after f a (omega arith) h

  pub heads_more : Heads late (set heads (get_or late e 0) (e + 1)) (e + 1)
  heads_more v b = go (ℕ_discrete v (get_or late e 0))
    where
      one : e + 1 - 1 ≡ e
      one = omega arith

      go : Dec (v ≡ get_or late e 0) → LastAt late (e + 1) v (get_or (set heads (get_or late e 0) (e + 1)) v 0)
      go (yes q) =
          rw (q, get_or-set_same heads (get_or late e 0) (e + 1) 0 inside)
          (record { before = omega arith; ends = inr (ap (λ x. get_or late x 0) one); after = λ f a c h. omega arith })
      go (no q) =
          rw (get_or-set_other heads (get_or late e 0) v (e + 1) 0 q)
          (later v (get_or heads v 0) q (lasts v (rw length-set at b)))

-- ---- the search over all edges
pub record Finding (early late heads next : List ℕ) (rooms : ℕ) (wide : ℕ) (e : ℕ) : Type 0 where
  pub none : some (λ f. some (same_ends early late f) f) e ≡ false
  pub chain : Chain late next e
  pub lasts : Heads late heads e
  pub within : e ≤ length early
  pub nexts : length next ≡ rooms
  pub vertices : length heads ≡ wide

pub finding_start : (early late heads next : List ℕ) → Heads late heads 0 → Finding early late heads next (length next) (length heads) 0
unfolding some
finding_start early late heads next h =
    record { none = refl; chain = λ f b. absurd (omega arith); lasts = h; within = omega arith; nexts = refl; vertices = refl }

pub finding_more : (early late heads next : List ℕ) (rooms wide e : ℕ) → Finding early late heads next rooms wide e → e < length early
    → length early ≤ rooms → get_or late e 0 < wide → (r : Bool) → r ≡ some (same_ends early late e) e → r ≡ false
    → Finding early late (set heads (get_or late e 0) (e + 1)) (set next e (get_or heads (get_or late e 0) 0)) rooms wide (e + 1)
finding_more early late heads next rooms wide e F b l v r p q =
    let n = F.nexts in
    let w = F.vertices in
    record {
      none = miss (λ f. some (same_ends early late f) f) e F.none r p q;
      chain = chain_more late heads next e F.chain F.lasts (omega arith) (omega arith);
      lasts = heads_more late heads next e F.chain F.lasts (omega arith) (omega arith);
      within = omega arith;
      nexts = length-set next e (get_or heads (get_or late e 0) 0) ∙ n;
      vertices = length-set heads (get_or late e 0) (e + 1) ∙ w;
    }

pub heads_none : (late : List ℕ) (n : ℕ) → Heads late (replicate n 0) 0
heads_none late n v b = rw (get_or-replicate {A = ℕ} n v 0 0 (rw length-replicate at b)) (record { before = omega arith; ends = inl refl; after = λ f a c h. omega arith })
