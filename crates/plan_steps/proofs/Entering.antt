-- How the rows of a plan grow, edge by edge.
use mathlib.Core.Path.{◌≡◌, refl, sym, ap, ◌∙◌}
use mathlib.Core.Bool.{Bool, true, false, not, cond, ◌&&◌}
use mathlib.Core.List.{List, []}
use mathlib.Core.Logic.{◌⊎◌, inl, inr, dite}
use Prim.Native.Nat.{ℕ, zero, suc, ◌+◌, ◌-◌, ◌≤◌, ◌<◌}
use native.Mathlib.Decide.{dec_lt, ℕ_discrete}
use native.Mathlib.Numerals.{add-one}
use native.Mathlib.Omega.{arith}
use lib.Dec.{eqb, eqb-suc-zero}
use lib.ListN.{length, get_or, set, length-set}
use lib.Seq.{get_or-set_same, get_or-set_other}
use borrow.Author.Tests.{eq-eqb, ne_eqb, lt-ltb, le-ltb}
use Rattle.list_laws.proofs.Laws.Search as Search
use Rattle.transfer_matrix.specs.Job.{prepend, back_edges, too_many_near}
use Rattle.transfer_matrix.specs.Configuration.{numbered}
use Rattle.plan_steps.specs.Layout.{left_edge_at, near_count_at, near_edges_at, near_bits_at, forward_place_at, index_of, number, Holds}
use Rattle.plan_steps.specs.Layout.{named, left_edge, near_count, near_from}
use Rattle.plan_steps.proofs.Laws.Layout.{near-length, near_ext}
use Rattle.plan_steps.specs.Edges.{Edges}
use Rattle.plan_steps.specs.Rows.{goes_back, first_of, first_back, listed, back, near_row, insert, Rising, OnlyStep, Inserted, Row, Entered}
use Rattle.plan_steps.proofs.Laws.Listed.{backs_listed, listed_ext}
use Rattle.plan_steps.proofs.Backs.{rising-listed, listed-insert, listed_more}

-- the rows of the first n vertices are empty
abbrev pub Cleared : List ℕ → ℕ → Type 0
Cleared plan n = (t : ℕ) → t < n → (left_edge plan t ≡ 0) × (near_count plan t ≡ 0)

module _ (plan : List ℕ) (t : ℕ) (fits : Holds plan (t + 1)) where
  abbrev left : List ℕ
  left = set plan (index_of t left_edge_at) 0

  abbrev cleared : List ℕ
  cleared = set left (index_of t near_count_at) 0

  here : (left_edge cleared t ≡ 0) × (near_count cleared t ≡ 0)
  here = (
    get_or-set_other left (index_of t near_count_at) (index_of t left_edge_at) 0 0 (λ q. omega arith)
        ∙ get_or-set_same plan (index_of t left_edge_at) 0 0 (omega arith),
    get_or-set_same left (index_of t near_count_at) 0 0 (simp length-set (omega arith)),
  )

  off : (u : ℕ) → u < t → (k : ℕ) → k < 2 → number cleared u k ≡ number plan u k
  off u l k q =
      get_or-set_other left (index_of t near_count_at) (index_of u k) 0 0 (λ e. omega arith)
      ∙ get_or-set_other plan (index_of t left_edge_at) (index_of u k) 0 0 (λ e. omega arith)

  pub cleared_iteration : Cleared plan t → Cleared (set (set plan (index_of t left_edge_at) 0) (index_of t near_count_at) 0) (t + 1)
  cleared_iteration before u b =
      dite (dec_lt u t)
      (λ l. (off u l left_edge_at (omega arith) ∙ (before u l).0, off u l near_count_at (omega arith) ∙ (before u l).1))
      (λ l. let e : u ≡ t = omega arith in rw e here)

-- ---- one edge in its row

never : {A : Type 0} → true ≡ false → A
never e = absurd (let o : ◌≡◌ {A = ℕ} 0 1 = cc in omega arith)

pub was_true : (r : Bool) → not r ≡ false → r ≡ true
was_true true e = refl
was_true false e = never e

pub was_false : (r : Bool) → not r ≡ true → r ≡ false
was_false true e = never (sym e)
was_false false e = refl

module _ (plan : List ℕ) (w t d k : ℕ) where
  pub entered_near : (plan' : List ℕ) (r : Bool) → (d ≡ w → ⊥) → 1 ≤ d → Inserted plan plan' t (k - 1) (d - 1) r → Entered plan plan' w t d k r
  entered_near plan' r ne l h =
      let q = ne_eqb d w ne in
      let x : d - 1 + 1 ≡ d = omega arith in
      record {
        left = λ y. rw q (h.only (index_of t left_edge_at) (inl (omega arith)));
        near = λ y. rw q (rw x at (h.near y));
        few = h.few;
        full = λ y. (ne, rw x at (h.full y));
        only = λ j b. h.only j (narrower j b);
      }
    where
      narrower : (j : ℕ) → ((j < index_of t left_edge_at) ⊎ (index_of t forward_place_at ≤ j)) → (j < index_of t near_count_at) ⊎ (index_of t forward_place_at ≤ j)
      narrower j (inl b) = inl (omega arith)
      narrower j (inr b) = inr b

  -- as the left edge, where there is none
  pub entered_left : d ≡ w → left_edge plan t ≡ 0 → near_count plan t ≤ 4 → Holds plan (t + 1)
      → Entered plan (set plan (index_of t left_edge_at) k) w t d k true
  unfolding first_of
  entered_left e z few fits =
      let q = eq-eqb d w e in
      record {
        left = λ y. rw (q, z) (get_or-set_same plan (index_of t left_edge_at) k 0 (omega arith));
        near = λ y.
            rw q
            (ap (near_from (λ (i : ℕ). i) (set plan (index_of t left_edge_at) k) t 0) (kept near_count_at (omega arith))
            ∙ near_ext (λ (i : ℕ). i) plan (set plan (index_of t left_edge_at) k) t 0 (near_count plan t) (λ j a b. (kept (near_bits_at + j) (omega arith), kept (near_edges_at + j) (omega arith))));
        few = λ y. rw (kept near_count_at (omega arith)) few;
        full = never;
        only = outside;
      }
    where
      kept : (i : ℕ) → 1 ≤ i → number (set plan (index_of t left_edge_at) k) t i ≡ number plan t i
      kept i l = get_or-set_other plan (index_of t left_edge_at) (index_of t i) k 0 (λ x. omega arith)

      outside : OnlyStep plan (set plan (index_of t left_edge_at) k) t
      outside j (inl b) = get_or-set_other plan (index_of t left_edge_at) j k 0 (λ x. omega arith)
      outside j (inr b) = get_or-set_other plan (index_of t left_edge_at) j k 0 (λ x. omega arith)

  pub entered_there : d ≡ w → (left_edge plan t ≡ 0 → ⊥) → near_count plan t ≤ 4 → Entered plan plan w t d k true
  unfolding first_of
  entered_there e z few =
      let q = eq-eqb d w e in
      record { left = λ y. rw (q, ne_eqb (left_edge plan t) 0 z); near = λ y. rw q; few = λ y. few; full = never; only = λ j b. refl }

-- ---- one edge more, among the first that go back so far

first_hit : (early late : List ℕ) (t d e : ℕ) → get_or late e 0 ≡ t → get_or early e 0 + d ≡ t
    → first_back early late t d (e + 1) ≡ first_of (first_back early late t d e) (e + 1)
unfolding first_back first_of
first_hit early late t d e p q = rw (add-one e, eq-eqb (get_or late e 0) t p, eq-eqb (get_or early e 0 + d) t q)

pub first_miss : (early late : List ℕ) (t d e : ℕ) → (get_or late e 0 ≡ t → get_or early e 0 + d ≡ t → ⊥)
    → first_back early late t d (e + 1) ≡ first_back early late t d e
unfolding first_back first_of
first_miss early late t d e apart = rw (add-one e, neither (get_or late e 0) (get_or early e 0 + d) apart) (stays (first_back early late t d e))
  where
    neither : (a b : ℕ) → (a ≡ t → b ≡ t → ⊥) → (eqb a t && eqb b t) ≡ false
    neither a b h = go (ℕ_discrete a t)
      where
        go : Dec (a ≡ t) → (eqb a t && eqb b t) ≡ false
        go (yes q) = rw (eq-eqb a t q) (ne_eqb b t (h q))
        go (no q) = rw (ne_eqb a t q)

    stays : (k : ℕ) → cond (eqb k 0) 0 k ≡ k
    stays zero = refl
    stays (suc k) = rw (eqb-suc-zero k)

-- an edge that is found stays
first_stays : (early late : List ℕ) (t d e k : ℕ) → first_back early late t d (e + k) ≡ 0 → first_back early late t d e ≡ 0
unfolding first_back first_of
first_stays early late t d e zero z = let s : e + 0 ≡ e = omega arith in rw s at z
first_stays early late t d e (suc k) z =
    let s : e + suc k ≡ suc (e + k) = omega arith in
    first_stays early late t d e k (none (first_back early late t d (e + k)) (cond (goes_back early late t d (e + k)) (suc (e + k)) 0) (rw s at z))
  where
    none : (a b : ℕ) → cond (eqb a 0) b a ≡ 0 → a ≡ 0
    none zero b h = refl
    none (suc a) b h = rw (eqb-suc-zero a) at h

-- ---- rows before the first edge

pub listed-none : (row : ℕ → ℕ) → ((d : ℕ) → row d ≡ 0) → (d k : ℕ) → listed (λ (e : ℕ). e) row d k ≡ []
unfolding listed named prepend
listed-none row h d zero = refl
listed-none row h d (suc k) = rw (h d) (listed-none row h (suc d) k)

pub rows_start : (early late plan : List ℕ) (n w : ℕ) → Cleared plan n → (t : ℕ) → t < n → Row plan early late w 0 t
unfolding first_back near_from
rows_start early late plan n w h t b =
    let c = h t b in
    record {
      left = c.0;
      few = omega (arith, c.1);
      near = rw c.1 (sym (listed-none (λ d. first_back early late t d 0) (λ d. refl) 1 (w - 1)));
    }

pub row-rising : (plan early late : List ℕ) (w m t : ℕ) → Row plan early late w m t → Rising 1 (near_row plan t)
row-rising plan early late w m t g = rw g.near (rising-listed (λ d. first_back early late t d m) 1 (w - 1))

-- ---- edge e is entered

module _ (early late : List ℕ) (n w e : ℕ) (g : Edges early late n w) (b : e < length early) where
  abbrev t : ℕ
  t = get_or late e 0

  abbrev d : ℕ
  d = t - get_or early e 0

  abbrev firsts : ℕ → ℕ → ℕ → ℕ
  firsts u m c = first_back early late u c m

  back_is : get_or early e 0 + d ≡ t
  back_is = omega (arith, g.ordered e b)

  pub apart : (c : ℕ) → (c ≡ d → ⊥) → firsts t (e + 1) c ≡ firsts t e c
  apart c ne = first_miss early late t c e (λ p q. ne (omega (arith, back_is)))

  -- an edge shorter than the window, in the list of its vertex
  pub near-insert : d < w → listed (λ (i : ℕ). i) (firsts t (e + 1)) 1 (w - 1) ≡ insert (back d e) (listed (λ (i : ℕ). i) (firsts t e) 1 (w - 1))
  near-insert l =
      listed-insert (firsts t e) (firsts t (e + 1)) d e (first_hit early late t d e refl back_is ∙ ap (first_of (firsts t e d)) (add-one e)) apart 1 (w - 1)
      (omega (arith, g.ordered e b)) (omega arith)

  module _ (plan plan' : List ℕ) (rows : (u : ℕ) → u < n → Row plan early late w e u) where
    row_here : (r : Bool) → r ≡ true → Entered plan plan' w t d (e + 1) r → Row plan' early late w (e + 1) t
    row_here r y h = go (ℕ_discrete d w)
      where
        go : Dec (d ≡ w) → Row plan' early late w (e + 1) t
        go (yes p) =
            let q = eq-eqb d w p in
            let o = rows t (g.inside e b) in
            record {
              left =
                  rw q at (h.left y) ∙ ap (λ (k : ℕ). first_of k (e + 1)) o.left
                  ∙ sym (first_hit early late t w e refl (rw p at back_is));
              few = h.few y;
              near =
                  rw q at (h.near y) ∙ o.near
                  ∙ sym (listed_ext (λ (i : ℕ). i) (firsts t (e + 1)) (firsts t e) 1 (w - 1) (λ c x z. apart c (λ s. omega arith)));
            }
        go (no p) =
            let q = ne_eqb d w p in
            let o = rows t (g.inside e b) in
            let k : e + 1 - 1 ≡ e = omega arith in
            let l : d < w = omega (arith, p, g.reached e b) in
            record {
              left = rw q at (h.left y) ∙ o.left ∙ sym (apart w (λ s. p (sym s)));
              few = h.few y;
              near = rw (q, k) at (h.near y) ∙ ap (insert (back d e)) o.near ∙ sym (near-insert l);
            }

    row-there : (u : ℕ) → u < n → (u ≡ t → ⊥) → OnlyStep plan plan' t → Row plan' early late w (e + 1) u
    row-there u l ne only =
        let o = rows u l in
        let few = o.few in
        let count = same near_count_at (omega arith) in
        let missed : (c : ℕ) → firsts u (e + 1) c ≡ firsts u e c = λ c. first_miss early late u c e (λ p q. ne (sym p)) in
        record {
          left = same left_edge_at (omega arith) ∙ o.left ∙ sym (missed w);
          few = rw count few;
          near =
              ap (near_from (λ (i : ℕ). i) plan' u 0) count
              ∙ near_ext (λ (i : ℕ). i) plan plan' u 0 (near_count plan u)
              (λ j x z. (same (near_bits_at + j) (omega arith), same (near_edges_at + j) (omega arith)))
              ∙ o.near ∙ sym (listed_ext (λ (i : ℕ). i) (firsts u (e + 1)) (firsts u e) 1 (w - 1) (λ c x z. missed c));
        }
      where
        same : (k : ℕ) → k < forward_place_at → number plan' u k ≡ number plan u k
        same k q = dite (dec_lt u t) (λ x. only (index_of u k) (inl (omega arith))) (λ x. only (index_of u k) (inr (omega (arith, ne))))

    pub rows_iteration : (r : Bool) → r ≡ true → Entered plan plan' w t d (e + 1) r → (u : ℕ) → u < n → Row plan' early late w (e + 1) u
    rows_iteration r y h u l = go (ℕ_discrete u t)
      where
        go : Dec (u ≡ t) → Row plan' early late w (e + 1) u
        go (yes p) = rw p (row_here r y h)
        go (no p) = row-there u l p h.only

    -- no room: the vertex has over four near edges
    pub too_many : (r : Bool) → r ≡ false → Entered plan plan' w t d (e + 1) r → true ≡ too_many_near n w (numbered early late)
    unfolding too_many_near
    too_many r y h =
        let f = h.full y in
        let k : e + 1 - 1 ≡ e = omega arith in
        let m : e + 1 + (length early - (e + 1)) ≡ length early = omega arith in
        let o = rows t (g.inside e b) in
        let all = backs_listed early late (λ (i : ℕ). i) t 1 (w - 1) in
        let l : d < w = omega (arith, f.0, g.reached e b) in
        let grown =
        listed_more (firsts t (e + 1)) (firsts t (length early))
        (λ c z. first_stays early late t c (e + 1) (length early - (e + 1)) (rw m z)) 1 (w - 1) in
        let five : 4 < length (insert (back d e) (near_row plan t)) = rw k at f.1 in
        let this : length (insert (back d e) (near_row plan t)) ≡ length (listed (λ (i : ℕ). i) (firsts t (e + 1)) 1 (w - 1)) =
        ap length (ap (insert (back d e)) o.near ∙ sym (near-insert l)) in
        Search.hit _ n t (g.inside e b) true (sym (lt-ltb 4 (length (back_edges (numbered early late) t 1 (w - 1))) (omega (arith, ap length all)))) refl

-- every edge is entered, and there was room
pub not_too_many : (early late plan : List ℕ) (n w : ℕ) → ((t : ℕ) → t < n → Row plan early late w (length early) t)
    → false ≡ too_many_near n w (numbered early late)
unfolding too_many_near
not_too_many early late plan n w rows =
    sym (Search.none_of _ n (λ t l.
    let o = rows t l in
    let few = o.few in
    le-ltb 4 (length (back_edges (numbered early late) t 1 (w - 1))) (omega (arith, ap length (backs_listed early late (λ (i : ℕ). i) t 1 (w - 1)), ap length o.near, near-length (λ (i : ℕ). i) plan t 0 (near_count plan t)))))
