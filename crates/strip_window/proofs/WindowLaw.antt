-- The window of a strip is its reach: no edge is longer, and some edge is as long.
use Rattle.std.specs.Prelude.{◌≡◌, Bool, not, ◌&&◌, List, [], ◌∷◌, ◌++◌, ℕ, zero, suc, ◌+◌, ◌-◌, ◌*◌, ◌/◌, ◌%◌, ◌≤◌, ◌<◌, length, get_or}
use Rattle.std.proofs.Math.Path.{refl}
use Rattle.std.proofs.Common.{◌∙◌, le_trans, le_antisymm, mul-le-mul_left, length-append}
use Rattle.std.proofs.Math.Bool.{true, false, cond}
use Rattle.std.proofs.Math.Nat.{mod-eq_of_lt, mod_self, div-eq_of_lt, max-le, le-max_left, le-max_right}
use native.Mathlib.Omega.{arith}
use Rattle.std.proofs.Math.Dec.{eqb, ltb}
use Rattle.std.proofs.Math.ListN.{get_or-append, get_or-map}
use Rattle.std.proofs.lemmas.List.{get_or_at}
use borrow.Author.Tests.{lt-ltb, le-ltb, eq-eqb, ltb-true}
use Rattle.list_laws.specs.Most.{most}
use Rattle.list_laws.proofs.Laws.Most.{most-above, most-least}
use Rattle.strip.specs.Kinds.{is_honey, is_eight}
use Rattle.strip.specs.Vertices.{vertex}
use Rattle.strip_bonds.specs.declared.Edge.{Edge}
use Rattle.strip_bonds.specs.Edges.{edge, given, brick, rises, falls, has_next, across, wrap, along, rising, falling, edges_below, edges, early_ends, late_ends}
use Rattle.strip_window.specs.Window.{window_of}
use Rattle.strip.specs.Requests.{odd_cylinder}
use Rattle.strip.specs.Sides.{Sides}
use Rattle.strip_bonds.proofs.Laws.Sites.{edges_more}
use Rattle.strip_window.specs.Reach.{reach}
use Rattle.strip_window.proofs.Laws.Reach.{reach-one}
use Rattle.strip_window.proofs.Laws.EdgeLaws.{edge-near}
use Rattle.strip.specs.declared.strip.Strip.{Strip}

-- ---- an edge in the list
abbrev none : Edge
none = edge 0 0

abbrev Has : Edge → List Edge → Type 0
Has e es = (i : ℕ) × (i < length es) × (get_or es i none ≡ e)

has_left : (e : Edge) (es more : List Edge) → Has e es → Has e (es ++ more)
has_left e es more (i, h, q) = (i, omega (arith, length-append es more), get_or-append es more none i h ∙ q)

has_given : (e : Edge) (es : List Edge) (test : Bool) → test ≡ true → Has e (es ++ given test e)
has_given e es test t = rw t (length es, omega (arith, length-append es (e ∷ [])), get_or_at es e [] none (length es) refl)

module _ (s : Strip) (e : Edge) where
  has-next : (v : ℕ) → Has e (edges_below s v) → Has e (edges_below s (v + 1))
  has-next v h =
      let x = v / s.w in
      let y = v % s.w in
      let es = edges_below s v in
      let a = es ++ across s x y in
      let b = a ++ wrap s x y in
      let c = b ++ along s x y in
      let d = c ++ rising s x y in
      rw (edges_more s v)
      (has_left e d (falling s x y) (has_left e c (rising s x y) (has_left e b (along s x y) (has_left e a (wrap s x y) (has_left e es (across s x y) h)))))

  has_later : (v d : ℕ) → Has e (edges_below s v) → Has e (edges_below s (v + d))
  has_later v zero h = let q : v + 0 ≡ v = omega arith in rw q h
  has_later v (suc d) h = let q : v + suc d ≡ v + d + 1 = omega arith in rw q (has-next (v + d) (has_later v d h))

  has_all : (v : ℕ) → v ≤ s.w * s.l → Has e (edges_below s v) → Has e (edges s)
  has_all v l h = let q : v + (s.w * s.l - v) ≡ s.w * s.l = omega arith in rw q at (has_later v (s.w * s.l - v) h)

  -- so the longest is no shorter
  has_long : Has e (edges s) → e.late - e.early ≤ window_of s
  has_long (i, h, q) =
      let f : ℕ → ℕ = λ i. get_or (late_ends (edges s)) i 0 - get_or (early_ends (edges s)) i 0 in
      let m = most-above f (length (edges s)) i h in
      let a : get_or (early_ends (edges s)) i 0 ≡ e.early = rw (← q) (get_or-map (λ u. u.early) (edges s) i none) in
      let b : get_or (late_ends (edges s)) i 0 ≡ e.late = rw (← q) (get_or-map (λ u. u.late) (edges s) i none) in
      le_trans (rw (a, b) at m) (le-max_right 1 (most f (length (edges s))))

-- ---- the longest edges: along, rising, falling round a cylinder, and round a cylinder of one column
module _ (s : Strip) (S : Sides s.w s.l) where
  -- the sites of the first column
  in_first : (v : ℕ) → v < s.w → v + 1 ≤ s.w * s.l
  in_first v h = let m : s.w * 1 ≤ s.w * s.l = mul-le-mul_left s.w S.long in omega arith

  along-long : 1 < s.l → s.w ≤ window_of s
  unfolding along
  along-long h =
      let x = 0 / s.w in
      let y = 0 % s.w in
      let x0 : x ≡ 0 = div-eq_of_lt S.wide in
      let b = edges_below s 0 ++ across s x y ++ wrap s x y in
      let e = edge (vertex s.w x y) (vertex s.w (x + 1) y) in
      let t : ltb (x + 1) s.l ≡ true = lt-ltb (x + 1) s.l (omega arith) in
      let there : Has e (edges_below s (0 + 1)) =
      rw (edges_more s 0)
      (has_left e (b ++ along s x y ++ rising s x y) (falling s x y)
      (has_left e (b ++ along s x y) (rising s x y) (has_given e b (ltb (x + 1) s.l) t))) in
      let d : e.late - e.early ≡ s.w = omega arith in
      rw d at (has_long s e (has_all s e 1 (in_first 0 S.wide) there))

  rising-long : rises s ≡ true → 1 < s.w → 1 < s.l → s.w + 1 ≤ window_of s
  unfolding rising
  rising-long r w h =
      let x = 0 / s.w in
      let y = 0 % s.w in
      let x0 : x ≡ 0 = div-eq_of_lt S.wide in
      let y0 : y ≡ 0 = mod-eq_of_lt S.wide in
      let c = edges_below s 0 ++ across s x y ++ wrap s x y ++ along s x y in
      let e = edge (vertex s.w x y) (vertex s.w (x + 1) ((y + 1) % s.w)) in
      let test = rises s && ltb (x + 1) s.l && has_next s y in
      let t : test ≡ true = rw (r, lt-ltb (x + 1) s.l (omega arith), lt-ltb (y + 1) s.w (omega arith)) in
      let there : Has e (edges_below s (0 + 1)) = rw (edges_more s 0) (has_left e (c ++ rising s x y) (falling s x y) (has_given e c test t)) in
      let m : (y + 1) % s.w ≡ y + 1 = mod-eq_of_lt (omega arith) in
      let d : e.late - e.early ≡ s.w + 1 = omega arith in
      rw d at (has_long s e (has_all s e 1 (in_first 0 S.wide) there))

  -- from the first vertex of a column round to the last of the next
  falling-long : is_eight s.kind ≡ true → s.periodic ≡ true → 2 < s.w → 1 < s.l → 2 * s.w - 1 ≤ window_of s
  unfolding falling
  falling-long eight p w h =
      let v = s.w - 1 in
      let x = v / s.w in
      let y = v % s.w in
      let x0 : x ≡ 0 = div-eq_of_lt (omega arith) in
      let y0 : y ≡ v = mod-eq_of_lt (omega arith) in
      let f = edges_below s v ++ across s x y ++ wrap s x y ++ along s x y ++ rising s x y in
      let e = edge (vertex s.w x ((y + 1) % s.w)) (vertex s.w (x + 1) y) in
      let test = falls s && ltb (x + 1) s.l && has_next s y in
      let t : test ≡ true = rw (eight, lt-ltb (x + 1) s.l (omega arith), p, lt-ltb 2 s.w w, le-ltb (y + 1) s.w (omega arith)) in
      let there : Has e (edges_below s (v + 1)) = rw (edges_more s v) (has_given e f test t) in
      let q : y + 1 ≡ s.w = omega arith in
      let m : (y + 1) % s.w ≡ 0 = rw q (mod_self s.w) in
      let d : e.late - e.early ≡ 2 * s.w - 1 = omega arith in
      rw d at (has_long s e (has_all s e (v + 1) (in_first v (omega arith)) there))

  wrap-long : is_honey s.kind ≡ false → s.periodic ≡ true → 2 < s.w → s.w - 1 ≤ window_of s
  unfolding wrap
  wrap-long honey p w =
      let v = s.w - 1 in
      let x = v / s.w in
      let y = v % s.w in
      let y0 : y ≡ v = mod-eq_of_lt (omega arith) in
      let a = edges_below s v ++ across s x y in
      let e = edge (vertex s.w x 0) (vertex s.w x y) in
      let test = s.periodic && eqb (y + 1) s.w && ltb 2 s.w && brick s.kind x y in
      let t : test ≡ true = rw (p, eq-eqb (y + 1) s.w (omega arith), lt-ltb 2 s.w w, honey) in
      let there : Has e (edges_below s (v + 1)) =
      rw (edges_more s v)
      (has_left e (a ++ wrap s x y ++ along s x y ++ rising s x y) (falling s x y)
      (has_left e (a ++ wrap s x y ++ along s x y) (rising s x y) (has_left e (a ++ wrap s x y) (along s x y) (has_given e a test t)))) in
      let d : e.late - e.early ≡ v = omega arith in
      rw d at (has_long s e (has_all s e (v + 1) (in_first v (omega arith)) there))

  one-window : 1 ≤ window_of s
  one-window = le-max_left 1 (most (λ i. get_or (late_ends (edges s)) i 0 - get_or (early_ends (edges s)) i 0) (length (edges s)))

  reached : reach s ≤ window_of s
  unfolding reach
  reached = go (ltb 1 s.l) refl
    where
      one-column : (a b c : Bool) → is_honey s.kind ≡ a → s.periodic ≡ b → ltb 2 s.w ≡ c → cond (not a && b && c) (s.w - 1) 1 ≤ window_of s
      one-column false true true p q r = wrap-long p q (ltb-true 2 s.w r)
      one-column false true false p q r = one-window
      one-column false false c p q r = one-window
      one-column true b c p q r = one-window

      more : 1 < s.l → (a b : Bool) → rises s ≡ a → ltb 1 s.w ≡ b → cond (a && b) (s.w + 1) s.w ≤ window_of s
      more h true true p q = rising-long p (ltb-true 1 s.w q) h
      more h true false p q = along-long h
      more h false b p q = along-long h

      two-columns : 1 < s.l → (a b c : Bool) → is_eight s.kind ≡ a → s.periodic ≡ b → ltb 2 s.w ≡ c
          → cond (a && b && c) (2 * s.w - 1) (cond (rises s && ltb 1 s.w) (s.w + 1) s.w) ≤ window_of s
      two-columns h true true true p q r = falling-long p q (ltb-true 2 s.w r) h
      two-columns h true true false p q r = more h (rises s) (ltb 1 s.w) refl refl
      two-columns h true false c p q r = more h (rises s) (ltb 1 s.w) refl refl
      two-columns h false b c p q r = more h (rises s) (ltb 1 s.w) refl refl

      go : (t : Bool) → ltb 1 s.l ≡ t
          → cond t (cond (is_eight s.kind && s.periodic && ltb 2 s.w) (2 * s.w - 1) (cond (rises s && ltb 1 s.w) (s.w + 1) s.w))
          (cond (not (is_honey s.kind) && s.periodic && ltb 2 s.w) (s.w - 1) 1) ≤ window_of s
      go true q = two-columns (ltb-true 1 s.l q) (is_eight s.kind) s.periodic (ltb 2 s.w) refl refl refl
      go false q = one-column (is_honey s.kind) s.periodic (ltb 2 s.w) refl refl refl

  -- The largest of 1 and the longest edge: square and honeycomb strips of two columns or more have w, free or not; so have free triangular ones, and
  -- triangular cylinders wider than 1 have w + 1. Strips of eight neighbours have 1 at width 1, w + 1 free or at width 2, and 2 w - 1 as wider
  -- cylinders. A single column has w - 1 where it goes round, else 1.
  pub window-is : odd_cylinder s ≡ false → window_of s ≡ reach s
  window-is o =
      le_antisymm
      (max-le (reach-one s S) (most-least (λ i. get_or (late_ends (edges s)) i 0 - get_or (early_ends (edges s)) i 0) (length (edges s)) (reach s) (λ i h. edge-near s S o i h)))
      reached
