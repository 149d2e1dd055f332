-- A call for a whole strip, of magnitudes 1.0: none of the checks 1 to 5 refuses its graph, and its window is the strip's or the floor. So a call is
-- refused by 6 where the strip's window is too wide, and a cylinder of eight neighbours is so from width 13 on.
use Rattle.std.specs.Prelude.{◌≡◌, true, false, not, Float, length, get_or, take}
use Rattle.std.proofs.Math.Path.{refl}
use Rattle.std.proofs.Common.{sym, ◌∙◌, le_trans, mul-le-mul_left, take-suc, eq-eqb, ne_eqb, lt-ltb, le-ltb}
use mathlib.Core.List.{List, [], ◌∷◌, ◌++◌, map, map-append}
use Prim.Native.Nat.{ℕ, zero, suc, ◌+◌, ◌*◌, ◌≤◌, ◌<◌, max}
use Rattle.std.proofs.Math.Nat.{min-eq_left, max-eq_right, max-le, le-max_right}
use native.Mathlib.Omega.{arith}
use Rattle.std.specs.Float.{nan}
use Rattle.std.specs.Float.Ieee.{eq, le, lt, neg, of_bits}
use Rattle.std.proofs.lemmas.List.{length-map}
use Rattle.std.proofs.Math.Seq.{take-length}
use Rattle.std.proofs.lemmas.Bool.{lt-leb}
use Rattle.limits.specs.Limits.{most_vertices, most_edges, most_pairs, most_betas, most_window}
use Rattle.list_laws.proofs.Laws.Search.{start, none_of}
use Rattle.transfer_matrix.specs.Job as Job
use Rattle.refusals.specs.Edges.{Kept, kept_at, kept_of, is_zero, kept_early, kept_late}
use Rattle.refusals.specs.Key.{Key, among}
use Rattle.refusals.proofs.Laws.First.{here, past}
use Rattle.refusals.specs.Refusal.{refusal, of_graph, of_room}
use Rattle.refusals.specs.Request.{Request, oversized, some_oversized, unordered, bad_vertices, bad_lists, bad_edges, bad_ends, bad_sizes, parallel_edges, window_in, wide_window, room_request}
use Rattle.strip.specs.Kinds.{is_eight}
use Rattle.strip.specs.Requests.{odd_cylinder}
use Rattle.strip.specs.Sides.{Sides}
use Rattle.strip.specs.declared.strip.Strip.{Strip}
use Rattle.strip_bonds.specs.declared.Edge.{Edge}
use Rattle.strip_bonds.specs.Edges.{one, edges, early_ends, late_ends, unit_magnitudes}
use Rattle.strip_window.specs.Window.{window_of}
use Rattle.strip_window.proofs.WindowLaw.{window-is}
use Rattle.strip_window.proofs.Laws.Reach.{reach_round, reach-double}
use Rattle.strip_window.proofs.Laws.EdgeLaws.{ends-inside, none-twice, few-edges}

-- ---- where every edge is kept, smaller end first, the kept ends are the lists themselves
module _ (a b : List ℕ) (m : List Float) (c : List ℕ) (f : Kept → ℕ) (all : (i : ℕ) → i < length c → is_zero (get_or m i nan) ≡ false)
    (at : (i : ℕ) → i < length c → f (kept_at a b m i) ≡ get_or c i 0) where
  column-front : (i : ℕ) → i ≤ length c → map f (kept_of a b m i) ≡ take i c
  unfolding kept_of
  column-front zero h = refl
  column-front (suc i) h =
      rw (all i (omega arith), map-append f (kept_of a b m i) (kept_at a b m i ∷ []), column-front i (omega arith), at i (omega arith), ← (take-suc c i 0 (omega arith)))

  column-all : map f (kept_of a b m (length c)) ≡ c
  column-all = column-front (length c) (omega arith) ∙ take-length c

-- each magnitude is 1.0
unit-at : (es : List Edge) (i : ℕ) → i < length es → get_or (unit_magnitudes es) i nan ≡ one
unit-at [] i h = absurd (omega arith)
unit-at (e ∷ es) zero h = refl
unit-at (e ∷ es) (suc i) h = unit-at es i (omega arith)

one_kept : is_zero one ≡ false
unfolding eq of_bits
one_kept = refl

one-sized : oversized one ≡ false
unfolding le neg of_bits
one-sized = refl

-- Keys of checks that a job meets: none of a sheet's or of run records', nor that of a previewed place.
pub record OfJob (more : List Key) : Type 0 where
  pub no_records : among more Key.sheet_records ≡ false
  pub no_tail : among more Key.sheet_tail ≡ false
  pub no_runs : among more Key.run_records ≡ false
  pub no_joining : among more Key.records_apart ≡ false
  pub no_place : among more Key.edge_place ≡ false

-- What a call asks of a whole strip: its vertices and edges, pairs and betas that 2, 4 and 21 pass.
pub record Whole (s : Strip) (r : Request) : Type 0 where
  pub vertices : r.vertices ≡ s.w * s.l
  pub ones : r.ones ≡ early_ends (edges s)
  pub others : r.others ≡ late_ends (edges s)
  pub magnitudes : r.magnitudes ≡ unit_magnitudes (edges s)
  pub matched : length r.firsts ≡ length r.seconds
  pub few-pairs : length r.firsts ≤ most_pairs
  pub few-betas : length r.betas ≤ most_betas
  pub sized-betas : some_oversized r.betas ≡ false
  pub rising-betas : unordered r.betas ≡ false

-- So is a call of `room`.
pub whole_room : (s : Strip) (floor : ℕ) (us vs : List ℕ) → length us ≡ length vs → length us ≤ most_pairs
    → Whole s (room_request (s.w * s.l) floor (early_ends (edges s)) (late_ends (edges s)) (unit_magnitudes (edges s)) us vs)
whole_room s floor us vs h k =
    record {
      vertices = refl;
      ones = refl;
      others = refl;
      magnitudes = refl;
      matched = h;
      few-pairs = k;
      few-betas = omega arith;
      sized-betas = start (λ e. oversized (get_or [] e nan));
      rising-betas = start (λ i. not (lt (get_or [] i nan) (get_or [] (i + 1) nan)));
    }

module _ {s : Strip} {r : Request} (S : Sides s.w s.l) (o : odd_cylinder s ≡ false) (W : Whole s r) where
  abbrev a : List ℕ
  a = early_ends (edges s)

  abbrev b : List ℕ
  b = late_ends (edges s)

  abbrev m : List Float
  m = unit_magnitudes (edges s)

  abbrev n : ℕ
  n = s.w * s.l

  a-length : length a ≡ length (edges s)
  a-length = length-map (edges s) (λ e. e.early)

  b-length : length b ≡ length (edges s)
  b-length = length-map (edges s) (λ e. e.late)

  m-length : length m ≡ length (edges s)
  m-length = length-map (edges s) (λ e. one)

  none_zero : (i : ℕ) → i < length (edges s) → is_zero (get_or m i nan) ≡ false
  none_zero i h = rw (unit-at (edges s) i h) one_kept

  kept-early : kept_early a b m ≡ a
  kept-early =
      column-all a b m a (λ k. k.early) (λ i h. none_zero i (omega (arith, a-length)))
      (λ i h. min-eq_left (omega (arith, (ends-inside s S o i (omega (arith, a-length))).0)))

  kept-late : kept_late a b m ≡ b
  kept-late =
      let same : length a ≡ length b = a-length ∙ sym b-length in
      rw same
      (column-all a b m b (λ k. k.late) (λ i h. none_zero i (omega (arith, b-length)))
      (λ i h. max-eq_right (omega (arith, (ends-inside s S o i (omega (arith, b-length))).0))))

  -- 1
  vertices_pass : bad_vertices r ≡ false
  vertices_pass =
      let some-vertex : s.w * 1 ≤ n = mul-le-mul_left s.w S.long in
      rw (W.vertices, ne_eqb n 0 (λ q. omega (arith, S.wide)), le-ltb most_vertices n S.few)

  -- 2
  lists_pass : bad_lists r ≡ false
  lists_pass =
      rw (
        W.ones,
        W.others,
        W.magnitudes,
        eq-eqb (length a) (length b) (a-length ∙ sym b-length),
        eq-eqb (length a) (length m) (a-length ∙ sym m-length),
        le-ltb most_edges (length a) (omega (arith, a-length, few-edges s S)),
        eq-eqb (length r.firsts) (length r.seconds) W.matched,
        le-ltb most_pairs (length r.firsts) W.few-pairs,
        le-ltb most_betas (length r.betas) W.few-betas,
      )

  -- 3
  edges_pass : bad_edges r ≡ false
  edges_pass = rw (W.vertices, W.ones, W.others) (none_of (bad_ends n a b) (length a) (λ i h. inside i (ends-inside s S o i (omega (arith, a-length)))))
    where
      inside : (i : ℕ) → (get_or a i 0 < get_or b i 0) × (get_or b i 0 < n) → bad_ends n a b i ≡ false
      inside i h =
          rw (
            ne_eqb (get_or a i 0) (get_or b i 0) (λ q. omega (arith, h.0)),
            lt-leb n (get_or a i 0) (omega (arith, h.0, h.1)),
            lt-leb n (get_or b i 0) h.1,
          )

  -- 4
  sizes_pass : bad_sizes r ≡ false
  sizes_pass =
      let units : some_oversized m ≡ false = none_of (λ i. oversized (get_or m i nan)) (length m) (λ i h. rw (unit-at (edges s) i (omega (arith, m-length))) one-sized) in
      rw (W.magnitudes, units, W.sized-betas)

  -- 5
  apart_pass : parallel_edges r ≡ false
  apart_pass = rw (W.ones, W.others, W.magnitudes, kept-early, kept-late) (none-twice s S o)

  -- So none of the checks of a graph refuses it.
  pub graph-passes : 0 ≡ refusal of_graph r
  graph-passes = past _ _ _ _ vertices_pass (past _ _ _ _ lists_pass (past _ _ _ _ edges_pass (past _ _ _ _ sizes_pass (past _ _ _ _ W.rising-betas (past _ _ _ _ apart_pass refl)))))

  wider-one : window_in r
      ≡ max r.floor (window_of s)
  unfolding Job.window_of Job.longest
  wider-one = rw (W.ones, W.others, W.magnitudes, kept-early, kept-late, a-length) (swapped 1 r.floor _)
    where
      swapped : (x y z : ℕ) → max x (max y z) ≡ max y (max x z)
      swapped x y z = omega arith

  -- The window of the call is the strip's, or the floor.
  pub whole-window : window_in r ≡ max r.floor (window_of s)
  whole-window = wider-one

  -- A call that asks the checks 1 to 6, and neither of a sheet nor of run records nor of a place, is refused by 6, where the strip is too wide.
  pub too_wide : (more : List Key) → OfJob more → most_window < window_of s → 6 ≡ refusal (of_room ++ more) r
  too_wide more j h =
      let wide : wide_window most_window r ≡ true = rw wider-one (lt-ltb most_window (max r.floor (window_of s)) (le_trans h (le-max_right r.floor (window_of s)))) in
      rw (j.no_records, j.no_tail, j.no_runs, j.no_joining, j.no_place)
      (past _ _ _ _ vertices_pass
      (past _ _ _ _ lists_pass (past _ _ _ _ edges_pass (past _ _ _ _ sizes_pass (past _ _ _ _ W.rising-betas (past _ _ _ _ apart_pass (here _ _ _ wide)))))))

  -- Where it is not, nor the floor, 6 does not fit.
  pub wide_enough : window_of s ≤ most_window → r.floor ≤ most_window → wide_window most_window r ≡ false
  wide_enough h k = rw wider-one (le-ltb most_window (max r.floor (window_of s)) (max-le k h))

  -- So are cylinders of eight neighbours, two columns or more, from width 13 on,
  pub eight_too_wide : (more : List Key) → OfJob more → is_eight s.kind ≡ true → s.periodic ≡ true → 1 < s.l → 12 < s.w → 6 ≡ refusal (of_room ++ more) r
  eight_too_wide more j k p l w = too_wide more j (rw (window-is s S o) (omega (arith, reach_round s S (lt-ltb 1 s.l l) k p (omega arith))))

  -- and no strip up to width 12 is.
  pub twelve_enough : s.w ≤ 12 → r.floor ≤ most_window → wide_window most_window r ≡ false
  twelve_enough w h = wide_enough (rw (window-is s S o) (omega (arith, reach-double s S))) h
