-- What holds of the edge list of every strip that is not refused: its edges lie inside, smaller end first, no two join the same vertices, there are
-- at most 4,096, and the longest reaches as far as `reach` says.
use Rattle.std.specs.Prelude.{◌≡◌, refl, Bool, true, false, ◌&&◌, List, [], ◌∷◌, ◌++◌, ℕ, zero, suc, ◌+◌, ◌-◌, ◌*◌, ◌/◌, ◌%◌, ◌≤◌, ◌<◌, length, get_or}
use Rattle.std.proofs.Common.{sym, ◌∙◌, append-nil, div-add-mod', mod-lt, div-lt_iff_lt-mul, mul_comm, add-one, arith, length-append, ltb-true, le-ltb, eqb-true, ne_eqb}
use Rattle.std.proofs.Math.Logic.{dite}
use Rattle.std.proofs.Math.Decide.{dec_lt}
use Rattle.std.proofs.Math.Dec.{eqb, ltb}
use Rattle.std.proofs.lemmas.List.{length-map, get_or_at}
use Rattle.std.proofs.Math.ListN.{get_or-append, get_or-map}
use Rattle.list_laws.specs.Search.{some}
use Rattle.list_laws.proofs.Laws.Search.{none_of}
use Rattle.refusals.specs.Request.{joined_twice, same_ends}
use Rattle.strip.proofs.Laws.Tests.{and-true}
use Rattle.strip.specs.Vertices.{vertex}
use Rattle.strip_bonds.specs.declared.Edge.{Edge}
use Rattle.strip_bonds.specs.Edges.{edge, given, brick, rises, falls, has_next, across, wrap, along, rising, falling, rules, added, edges_below, edges, early_ends, late_ends}
use Rattle.strip.specs.Requests.{odd_cylinder}
use Rattle.strip.specs.Sides.{Sides}
use Rattle.strip_bonds.specs.Sites.{site_count}
use Rattle.strip_bonds.proofs.Laws.Sites.{added-length, edges_more}
use Rattle.strip_window.specs.Reach.{reach}
use Rattle.strip_window.proofs.Laws.Reach.{key, Sound, across-sound, wrap-sound, along-sound, rising-sound, falling-sound}
use Rattle.strip.specs.declared.strip.Strip.{Strip}

abbrev none : Edge
none = edge 0 0

pub record Fine (s : Strip) (t : ℕ) (e : Edge) : Type 0 where
  pub below : key s e < t
  pub ordered : e.early < e.late
  pub inside : e.late < s.w * s.l
  pub near : e.late - e.early ≤ reach s

-- the edges of a list are fine, and their keys rise along it up to t
pub record Sorted (s : Strip) (t : ℕ) (es : List Edge) : Type 0 where
  pub each : (i : ℕ) → i < length es → Fine s t (get_or es i none)
  pub rise : (i j : ℕ) → i < j → j < length es → key s (get_or es i none) < key s (get_or es j none)

sorted_none : (s : Strip) → Sorted s 0 []
sorted_none s = record { each = λ i h. absurd (omega arith); rise = λ i j h k. absurd (omega arith) }

module _ {s : Strip} {t : ℕ} {es : List Edge} (S : Sorted s t es) where
  sorted_later : Sorted s (t + 1) es
  sorted_later =
      record {
        each = λ i h. let f = S.each i h in record { below = omega (arith, f.below); ordered = f.ordered; inside = f.inside; near = f.near };
        rise = S.rise;
      }

  sorted_more : {e : Edge} → Sound s t e → Sorted s (t + 1) (es ++ (e ∷ []))
  sorted_more {e} n =
      record {
        each = λ i h. dite (dec_lt i (length es)) (λ l. rw (old i l) (sorted_later.each i l)) (λ g. rw (new i (omega (arith, more))) fine);
        rise = λ i j h k. dite (dec_lt j (length es)) (λ l. rw (old i (omega arith), old j l) (S.rise i j h l))
            (λ g. let q : j ≡ length es = omega (arith, more) in
            rw (old i (omega arith), new j q) (omega (arith, n.its_key, (S.each i (omega arith)).below)));
      }
    where
      more : length (es ++ (e ∷ [])) ≡ length es + 1
      more = length-append es (e ∷ [])

      old : (i : ℕ) → i < length es → get_or (es ++ (e ∷ [])) i none ≡ get_or es i none
      old i h = get_or-append es (e ∷ []) none i h

      new : (i : ℕ) → i ≡ length es → get_or (es ++ (e ∷ [])) i none ≡ e
      new i q = get_or_at es e [] none i (sym q)

      fine : Fine s (t + 1) e
      fine = record { below = omega (arith, n.its_key); ordered = n.ordered; inside = n.inside; near = n.near }

  sorted_given : (test : Bool) (e : Edge) → (test ≡ true → Sound s t e) → Sorted s (t + 1) (es ++ given test e)
  sorted_given true e n = sorted_more (n refl)
  sorted_given false e n = rw append-nil sorted_later

-- ---- one rule after the other, at one site
module _ (s : Strip) (S : Sides s.w s.l) (o : odd_cylinder s ≡ false) (x y : ℕ) (row : y < s.w) (column : x < s.l) (es : List Edge) where
  across_sorted : Sorted s (5 * vertex s.w x y) es → Sorted s (5 * vertex s.w x y + 1) (es ++ across s x y)
  unfolding across
  across_sorted T =
      sorted_given T (ltb (y + 1) s.w && brick s.kind x y) (edge (vertex s.w x y) (vertex s.w x (y + 1)))
      (λ t. across-sound s S x y row column (ltb-true (y + 1) s.w (and-true (ltb (y + 1) s.w) (brick s.kind x y) t).0))

  wrap_sorted : Sorted s (5 * vertex s.w x y + 1) es → Sorted s (5 * vertex s.w x y + 1 + 1) (es ++ wrap s x y)
  unfolding wrap
  wrap_sorted T =
      sorted_given T (s.periodic && eqb (y + 1) s.w && ltb 2 s.w && brick s.kind x y) (edge (vertex s.w x 0) (vertex s.w x y))
      (λ t.
      let a = and-true (s.periodic && eqb (y + 1) s.w && ltb 2 s.w) (brick s.kind x y) t in
      let b = and-true (s.periodic && eqb (y + 1) s.w) (ltb 2 s.w) a.0 in
      let c = and-true s.periodic (eqb (y + 1) s.w) b.0 in
      wrap-sound s S x y row column c.0 (eqb-true (y + 1) s.w c.1) (ltb-true 2 s.w b.1) a.1 o)

  along_sorted : Sorted s (5 * vertex s.w x y + 2) es → Sorted s (5 * vertex s.w x y + 2 + 1) (es ++ along s x y)
  unfolding along
  along_sorted T =
      sorted_given T (ltb (x + 1) s.l) (edge (vertex s.w x y) (vertex s.w (x + 1) y))
      (λ t. along-sound s S x y row column (ltb-true (x + 1) s.l t))

  rising_sorted : Sorted s (5 * vertex s.w x y + 3) es → Sorted s (5 * vertex s.w x y + 3 + 1) (es ++ rising s x y)
  unfolding rising
  rising_sorted T =
      sorted_given T (rises s && ltb (x + 1) s.l && has_next s y) (edge (vertex s.w x y) (vertex s.w (x + 1) ((y + 1) % s.w)))
      (λ t.
      let a = and-true (rises s && ltb (x + 1) s.l) (has_next s y) t in
      let b = and-true (rises s) (ltb (x + 1) s.l) a.0 in
      rising-sound s S x y row column b.0 (ltb-true (x + 1) s.l b.1) a.1)

  falling_sorted : Sorted s (5 * vertex s.w x y + 4) es → Sorted s (5 * vertex s.w x y + 4 + 1) (es ++ falling s x y)
  unfolding falling
  falling_sorted T =
      sorted_given T (falls s && ltb (x + 1) s.l && has_next s y) (edge (vertex s.w x ((y + 1) % s.w)) (vertex s.w (x + 1) y))
      (λ t.
      let a = and-true (falls s && ltb (x + 1) s.l) (has_next s y) t in
      let b = and-true (falls s) (ltb (x + 1) s.l) a.0 in
      falling-sound s S x y row column b.0 (ltb-true (x + 1) s.l b.1) a.1)

-- ---- all sites
none_below : (s : Strip) → edges_below s 0 ≡ []
unfolding edges_below
none_below s = refl

module _ (s : Strip) (S : Sides s.w s.l) (o : odd_cylinder s ≡ false) where
  site_sorted : (v : ℕ) → v < s.w * s.l → (es : List Edge) → Sorted s (5 * v) es → Sorted s (5 * (v + 1)) (added rules s (v / s.w) (v % s.w) es)
  site_sorted v h es T =
      let x = v / s.w in
      let y = v % s.w in
      let e : vertex s.w x y ≡ v = div-add-mod' v s.w in
      let row : y < s.w = mod-lt v S.wide in
      let column : x < s.l = (div-lt_iff_lt-mul S.wide).1 (rw mul_comm at h) in
      let a = across_sorted s S o x y row column es (rw (← e) at T) in
      let b = wrap_sorted s S o x y row column (es ++ across s x y) a in
      let c = along_sorted s S o x y row column (es ++ across s x y ++ wrap s x y) (grown b (omega arith)) in
      let d = rising_sorted s S o x y row column (es ++ across s x y ++ wrap s x y ++ along s x y) (grown c (omega arith)) in
      let f = falling_sorted s S o x y row column (es ++ across s x y ++ wrap s x y ++ along s x y ++ rising s x y) (grown d (omega arith)) in
      grown f (omega arith)
    where
      grown : {t u : ℕ} {l : List Edge} → Sorted s t l → t ≡ u → Sorted s u l
      grown T q = rw q at T

  below_sorted : (v : ℕ) → v ≤ s.w * s.l → Sorted s (5 * v) (edges_below s v)
  below_sorted zero h = first
    where
      first : Sorted s 0 (edges_below s 0)
      first = rw (none_below s) (sorted_none s)
  below_sorted (suc v) h = rw (← (add-one v), edges_more s v) (site_sorted v (omega arith) (edges_below s v) (below_sorted v (omega arith)))

  sorted : Sorted s (5 * (s.w * s.l)) (edges s)
  sorted = below_sorted (s.w * s.l) (omega arith)

  early-at : (i : ℕ) → get_or (early_ends (edges s)) i 0 ≡ (get_or (edges s) i none).early
  early-at i = get_or-map (λ e. e.early) (edges s) i none

  late-at : (i : ℕ) → get_or (late_ends (edges s)) i 0 ≡ (get_or (edges s) i none).late
  late-at i = get_or-map (λ e. e.late) (edges s) i none

  -- Ends lie inside, the smaller first.
  pub ends-inside : (i : ℕ) → i < length (edges s)
      → (get_or (early_ends (edges s)) i 0 < get_or (late_ends (edges s)) i 0) × (get_or (late_ends (edges s)) i 0 < s.w * s.l)
  ends-inside i h =
      let f = sorted.each i h in
      (omega (arith, early-at i, late-at i, f.ordered), omega (arith, late-at i, f.inside))

  -- No two edges join the same vertices: check 5 never fits.
  pub none-twice : joined_twice (early_ends (edges s)) (late_ends (edges s)) ≡ false
  none-twice =
      none_of (λ j. some (same_ends (early_ends (edges s)) (late_ends (edges s)) j) j) (length (early_ends (edges s)))
      (λ j h. none_of (same_ends (early_ends (edges s)) (late_ends (edges s)) j) j (λ i l. apart i j l (omega (arith, length-map (edges s) (λ e. e.early)))))
    where
      apart : (i j : ℕ) → i < j → j < length (edges s) → same_ends (early_ends (edges s)) (late_ends (edges s)) j i ≡ false
      apart i j l h = go (same_ends (early_ends (edges s)) (late_ends (edges s)) j i) refl
        where
          go : (t : Bool) → same_ends (early_ends (edges s)) (late_ends (edges s)) j i ≡ t → t ≡ false
          go false q = refl
          go true q =
              let a = and-true (eqb (get_or (early_ends (edges s)) i 0) (get_or (early_ends (edges s)) j 0)) (eqb (get_or (late_ends (edges s)) i 0) (get_or (late_ends (edges s)) j 0)) q in
              let p : (get_or (edges s) i none).early ≡ (get_or (edges s) j none).early = sym (early-at i) ∙ eqb-true _ _ a.0 ∙ early-at j in
              let r : (get_or (edges s) i none).late ≡ (get_or (edges s) j none).late = sym (late-at i) ∙ eqb-true _ _ a.1 ∙ late-at j in
              let k : key s (get_or (edges s) i none) ≡ key s (get_or (edges s) j none) = rw (p, r) in
              absurd (omega (arith, sorted.rise i j l h))

  -- No edge is longer than the reach.
  pub edge-near : (i : ℕ) → i < length (edges s) → get_or (late_ends (edges s)) i 0 - get_or (early_ends (edges s)) i 0 ≤ reach s
  edge-near i h = rw (early-at i, late-at i) (sorted.each i h).near

-- At most four edges a site, so at most 4,096 in all.
one-most : (test : Bool) (e : Edge) → length (given test e) ≤ 1
one-most true e = omega arith
one-most false e = omega arith

site_most : (s : Strip) (x y : ℕ) → site_count s x y ≤ 4
unfolding across wrap along rising falling
site_most s x y =
    let c = edge (vertex s.w x y) (vertex s.w (x + 1) y) in
    let d = edge (vertex s.w x y) (vertex s.w (x + 1) ((y + 1) % s.w)) in
    let f = edge (vertex s.w x ((y + 1) % s.w)) (vertex s.w (x + 1) y) in
    let both = apart s.periodic (ltb 2 s.w) (brick s.kind x y) (dec_lt (y + 1) s.w) in
    omega (
      arith,
      both,
      one-most (ltb (x + 1) s.l) c,
      one-most (rises s && ltb (x + 1) s.l && has_next s y) d,
      one-most (falls s && ltb (x + 1) s.l && has_next s y) f,
    )
  where
    apart : (p t k : Bool) → Dec (y + 1 < s.w)
        → length (given (ltb (y + 1) s.w && k) (edge (vertex s.w x y) (vertex s.w x (y + 1))))
        + length (given (p && eqb (y + 1) s.w && t && k) (edge (vertex s.w x 0) (vertex s.w x y))) ≤ 1
    apart p t k (yes h) = rw (ne_eqb (y + 1) s.w (λ q. omega arith)) (dropped p t k)
      where
        dropped : (p t k : Bool) → length (given (ltb (y + 1) s.w && k) (edge (vertex s.w x y) (vertex s.w x (y + 1))))
            + length (given (p && false && t && k) (edge (vertex s.w x 0) (vertex s.w x y))) ≤ 1
        dropped true t k = omega (arith, one-most (ltb (y + 1) s.w && k) (edge (vertex s.w x y) (vertex s.w x (y + 1))))
        dropped false t k = omega (arith, one-most (ltb (y + 1) s.w && k) (edge (vertex s.w x y) (vertex s.w x (y + 1))))
    apart p t k (no h) =
        rw (le-ltb (y + 1) s.w (omega arith))
        (omega (arith, one-most (p && eqb (y + 1) s.w && t && k) (edge (vertex s.w x 0) (vertex s.w x y))))

below-most : (s : Strip) (v : ℕ) → length (edges_below s v) ≤ 4 * v
below-most s zero = rw (none_below s) (omega arith)
below-most s (suc v) =
    rw (← (add-one v), edges_more s v)
    (omega (arith, added-length s (v / s.w) (v % s.w) (edges_below s v), site_most s (v / s.w) (v % s.w), below-most s v))

pub few-edges : (s : Strip) → Sides s.w s.l → length (edges s) ≤ 4096
few-edges s S = omega (arith, below-most s (s.w * s.l), S.few)
