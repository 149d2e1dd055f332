-- The ends of the edges turned one after the other, and the turned edges as a graph's.
use mathlib.Core.Path.{◌≡◌, refl, sym, ap, ap₂, ◌∙◌}
use mathlib.Core.Bool.{false}
use mathlib.Core.List.{List, map, map-map}
use Prim.Native.Nat.{ℕ, zero, suc, ◌+◌, ◌-◌, ◌≤◌, ◌<◌, max}
use native.Mathlib.Numerals.{add-one}
use native.Mathlib.Omega.{arith}
use lib.Ieee.{Float}
use lib.ListN.{length, get_or, set, length-set, length-map}
use Rattle.std.specs.Prelude.{Ok, Err}
use Rattle.refusals.specs.declared.Refusal.{Refusal}
use Rattle.refusals.proofs.Laws.Answers.{number-not_zero}
use Rattle.list_laws.specs.Search.{some}
use Rattle.list_laws.specs.Most.{most}
use Rattle.list_laws.proofs.Laws.Most.{most_ext}
use Rattle.transfer_matrix.specs.Job.{longest, window_of}
use Rattle.refusals.specs.Request.{bad_ends}
use Rattle.refusals.proofs.Laws.Accepted.{kept-inside}
use Rattle.refusals.proofs.Laws.Places.{column-at}
use Rattle.list_laws.specs.Tabulate.{tabulate}
use Rattle.list_laws.proofs.Laws.Tabulate.{tabulate_suc, tabulate-length, tabulated}
use Rattle.list_laws.specs.Front.{over}
use Rattle.list_laws.proofs.Laws.Front.{over-more, over-behind, over-front, over-over}
use Rattle.refusals.specs.Edges.{Kept, kept, early_ends, late_ends, places, kept_early, kept_late}
use Rattle.kept_edges.specs.Keep.{Written}
use Rattle.graph_edges.specs.Graphs.{Set, Turned, turned, rotate}
use Rattle.graph_edges.specs.declared.Graph.{Graph}

-- e of the edges were turned
pub record Turning (n k : ℕ) (early₀ early late₀ late : List ℕ) (e : ℕ) : Type 0 where
  pub done : Turned n e early₀ early late₀ late
  pub within : e ≤ k
  pub earlies : length early ≡ length early₀
  pub lates : length late ≡ length late₀

pub turning_none : (n k : ℕ) (early late : List ℕ) → Turning n k early early late late 0
unfolding tabulate
turning_none n k early late = record { done = record { earlies = refl; lates = refl }; within = omega arith; earlies = refl; lates = refl }

-- a list turned up to e, and turned at e
turned_more : (f : ℕ → ℕ) (l l₀ : List ℕ) (e x : ℕ) → l ≡ over (tabulate f e) l₀ → e < length l₀ → x ≡ f e → set l e x ≡ over (tabulate f (e + 1)) l₀
turned_more f l l₀ e x p h q =
    rw (p, q, add-one, tabulate_suc f e) (over-more (tabulate f e) l₀ e (f e) (sym (tabulate-length f e)) h)

module _ {n k : ℕ} {early₀ early late₀ late : List ℕ} {e : ℕ} (T : Turning n k early₀ early late₀ late e) where
  -- what is not turned yet is as it was
  pub early-waits : get_or early e 0 ≡ get_or early₀ e 0
  early-waits =
      let f : ℕ → ℕ = λ i. turned n (get_or late₀ i 0) in
      ap (λ l. get_or l e 0) T.done.earlies ∙ over-behind (tabulate f e) early₀ e 0 (omega (arith, tabulate-length f e))

  pub late-waits : get_or late e 0 ≡ get_or late₀ e 0
  late-waits =
      let f : ℕ → ℕ = λ i. turned n (get_or early₀ i 0) in
      ap (λ l. get_or l e 0) T.done.lates ∙ over-behind (tabulate f e) late₀ e 0 (omega (arith, tabulate-length f e))

  pub turning_more : e < k → e < length early₀ → e < length late₀
      → Turning n k early₀ (set early e (turned n (get_or late e 0))) late₀ (set late e (turned n (get_or early e 0))) (e + 1)
  turning_more l p q =
      record {
        done = record {
          earlies = turned_more (λ i. turned n (get_or late₀ i 0)) early early₀ e _ T.done.earlies p (ap (turned n) late-waits);
          lates = turned_more (λ i. turned n (get_or early₀ i 0)) late late₀ e _ T.done.lates q (ap (turned n) early-waits);
        };
        within = omega arith;
        earlies = length-set early e (turned n (get_or late e 0)) ∙ T.earlies;
        lates = length-set late e (turned n (get_or early e 0)) ∙ T.lates;
      }

pub turning_all : {n k : ℕ} {early₀ early late₀ late : List ℕ} {e : ℕ} → Turning n k early₀ early late₀ late e → k ≤ e → Turned n k early₀ early late₀ late
turning_all {n} {k} {e = e} T h =
    let w = T.within in
    let q : e ≡ k = omega arith in
    rw q at T.done

-- ---- a column of the turned edges is the turned column

column-turned : (n : ℕ) (f : Kept → ℕ) (es : List Kept) (l l₀ : List ℕ) (k : ℕ) → k ≡ length es → l ≡ over (map f es) l₀
    → tabulate (λ e. turned n (get_or l e 0)) k ≡ map (λ e. turned n (f e)) es
column-turned n f es l l₀ k p q =
    rw (p, q) (sym (tabulated 0 (map (λ e. turned n (f e)) es) (λ e. turned n (get_or (over (map f es) l₀) e 0)) (length es) (length-map es (λ e. turned n (f e))) at))
  where
    at : (i : ℕ) → i < length es → get_or (map (λ e. turned n (f e)) es) i 0 ≡ turned n (get_or (over (map f es) l₀) i 0)
    at i h =
        column-at (λ e. turned n (f e)) es i 0 h
        ∙ ap (turned n) (sym (over-front (map f es) l₀ i 0 (rw (length-map es f) h) ∙ column-at f es i 0 h))

-- turned after they were kept
pub turned-kept : {n : ℕ} {a b : List ℕ} {m : List Float} {j k : ℕ} {early₀ early late₀ late : List ℕ} {mag₀ mag : List Float} {early' late' : List ℕ}
    → Written a b m (length a) j early₀ early late₀ late mag₀ mag → k ≡ length (kept a b m) → Turned n k early early' late late'
    → (early' ≡ over (early_ends (rotate n (kept a b m))) early₀) × (late' ≡ over (late_ends (rotate n (kept a b m))) late₀)
turned-kept {n} {a} {b} {m} {k = k} {early₀ = early₀} {early = early} {late₀ = late₀} {late = late} W q T =
    let es = kept a b m in (
      T.earlies ∙ replaced (λ e. e.late) (λ e. e.early) es late late₀ early early₀ q W.lates W.earlies ∙ ap (λ l. over l early₀) (sym (map-map _ _ es)),
      T.lates ∙ replaced (λ e. e.early) (λ e. e.late) es early early₀ late late₀ q W.earlies W.lates ∙ ap (λ l. over l late₀) (sym (map-map _ _ es)),
    )
  where
    -- the turned column g takes the place of the column f
    replaced : (f g : Kept → ℕ) (es : List Kept) (x x₀ y y₀ : List ℕ) → k ≡ length es → x ≡ over (map f es) x₀ → y ≡ over (map g es) y₀
        → over (tabulate (λ e. turned n (get_or x e 0)) k) y ≡ over (map (λ e. turned n (f e)) es) y₀
    replaced f g es x x₀ y y₀ p u v =
        ap₂ over (column-turned n f es x x₀ k p u) v
        ∙ over-over (map (λ e. turned n (f e)) es) (map g es) y₀ (length-map es (λ e. turned n (f e)) ∙ sym (length-map es g))

-- no edge changes its length
pub window-turned : (n floor : ℕ) (a b : List ℕ) (m : List Float) → some (bad_ends n a b) (length a) ≡ false
    → window_of floor (kept_early a b m) (kept_late a b m)
    ≡ window_of floor (early_ends (rotate n (kept a b m))) (late_ends (rotate n (kept a b m)))
unfolding window_of longest
window-turned n floor a b m ok = ap (λ k. max 1 (max floor k)) (lengths ∙ sym (ap₂ span (map-map _ _ es) (map-map _ _ es)))
  where
    es : List Kept
    es = kept a b m

    span : List ℕ → List ℕ → ℕ
    span x y = most (λ e. get_or y e 0 - get_or x e 0) (length x)

    same : (e : ℕ) → e < length es
        → get_or (late_ends es) e 0 - get_or (early_ends es) e 0 ≡ get_or (map (λ k. turned n k.early) es) e 0 - get_or (map (λ k. turned n k.late) es) e 0
    same e h =
        let i = kept-inside n a b m ok e h in
        let p = column-at (λ k. k.early) es e 0 h in
        let q = column-at (λ k. k.late) es e 0 h in
        let p' = column-at (λ k. turned n k.early) es e 0 h in
        let q' = column-at (λ k. turned n k.late) es e 0 h in
        omega (arith, i.0, i.1)

    lengths : span (early_ends es) (late_ends es) ≡ span (map (λ k. turned n k.late) es) (map (λ k. turned n k.early) es)
    lengths =
        rw (length-map es (λ k. k.early), length-map es (λ k. turned n k.late))
        (most_ext (λ e. get_or (late_ends es) e 0 - get_or (early_ends es) e 0) (λ e. get_or (map (λ k. turned n k.early) es) e 0 - get_or (map (λ k. turned n k.late) es) e 0) (length es) same)

-- the ends of what was kept are below n
pub kept-below : (n : ℕ) {a b : List ℕ} {m : List Float} {j k : ℕ} {early₀ early late₀ late : List ℕ} {mag₀ mag : List Float}
    → Written a b m (length a) j early₀ early late₀ late mag₀ mag → k ≡ length (kept a b m) → some (bad_ends n a b) (length a) ≡ false
    → (e : ℕ) → e < k → (get_or early e 0 < n) × (get_or late e 0 < n)
kept-below n {a} {b} {m} {early₀ = early₀} {late₀ = late₀} W q ok e h =
    let es = kept a b m in
    let h' : e < length es = omega arith in
    let i = kept-inside n a b m ok e h' in
    let x = ap (λ l. get_or l e 0) W.earlies ∙ over-front (early_ends es) early₀ e 0 (rw (length-map es (λ k. k.early)) h') in
    let y = ap (λ l. get_or l e 0) W.lates ∙ over-front (late_ends es) late₀ e 0 (rw (length-map es (λ k. k.late)) h') in
    (omega (arith, i.0, i.1), omega (arith, i.1))

-- ---- from what `Graph::new` answered

-- a refused graph has nothing to turn
pub refused-turned : (K : ℕ) {n floor : ℕ} {es : List Kept} {e : Refusal} {early early' late late' : List ℕ} {mag mag' : List Float} {raw raw' : List ℕ}
    → Set K n floor es (Err e) early early' late late' mag mag' raw raw' → Set K n floor (rotate n es) (Err e) early early' late late' mag mag' raw raw'
refused-turned zero {e = e} S = absurd (number-not_zero e S.answer.0)
refused-turned (suc j) S = record { answer = (S.answer.0, tt); earlies = S.earlies; lates = S.lates; mags = S.mags; raws = S.raws }

-- an accepted one was not refused, and its edges were written
pub record Given (K n floor : ℕ) (g : Graph) (a b : List ℕ) (m : List Float) (early early' late late' : List ℕ) (mag mag' : List Float) (raw raw' : List ℕ) : Type 0 where
  pub accepted : K ≡ 0
  pub graph : g ≡ record { n = n; win = window_of floor (kept_early a b m) (kept_late a b m); edges = length (kept a b m) }
  pub written : Written a b m (length a) g.edges early early' late late' mag mag'
  pub raws : raw' ≡ over (places (kept a b m)) raw

pub given : (K : ℕ) {n floor : ℕ} {g : Graph} {a b : List ℕ} {m : List Float} {early early' late late' : List ℕ} {mag mag' : List Float} {raw raw' : List ℕ}
    → Set K n floor (kept a b m) (Ok g) early early' late late' mag mag' raw raw' → Given K n floor g a b m early early' late late' mag mag' raw raw'
given zero S =
    let same = S.answer.1 in
    record { accepted = refl; graph = same; written = record { edges = ap (λ x. x.edges) same; earlies = S.earlies; lates = S.lates; mags = S.mags }; raws = S.raws }
given (suc j) S = let z = S.answer.0 in absurd (omega arith)

-- the turned graph as the entry leaves it
pub rotated_given : (K : ℕ) {n floor : ℕ} {g : Graph} {a b : List ℕ} {m : List Float} {early₀ early early' late₀ late late' : List ℕ} {mag₀ mag : List Float} {raw₀ raw : List ℕ}
    → Given K n floor g a b m early₀ early late₀ late mag₀ mag raw₀ raw → some (bad_ends n a b) (length a) ≡ false → Turned n g.edges early early' late late'
    → Set K n floor (rotate n (kept a b m)) (Ok g) early₀ early' late₀ late' mag₀ mag raw₀ raw
rotated_given zero {n} {floor} {a = a} {b = b} {m = m} {mag₀ = mag₀} {raw₀ = raw₀} G ok T =
    let W = G.written in
    let turn = turned-kept W W.edges T in
    let es = kept a b m in
    record {
      answer = (refl, G.graph ∙ ap₂ (λ x y. record { n = n; win = x; edges = y }) (window-turned n floor a b m ok) (sym (length-map es _)));
      earlies = turn.0;
      lates = turn.1;
      mags = W.mags ∙ ap (λ l. over l mag₀) (sym (map-map (λ u. u.magnitude) _ es));
      raws = G.raws ∙ ap (λ l. over l raw₀) (sym (map-map (λ u. u.place) _ es));
    }
rotated_given (suc j) G ok T = let z = G.accepted in absurd (omega arith)
