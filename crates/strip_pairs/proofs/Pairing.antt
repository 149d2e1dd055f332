-- The pair set on its way: a candidate taken or omitted, its label, and the three buffers.
use mathlib.Core.Path.{◌≡◌, refl, sym, ap, ◌∙◌}
use mathlib.Core.Bool.{Bool, true, false, not, ◌&&◌}
use mathlib.Core.List.{List, [], ◌∷◌, ◌++◌, map, map-append, append-nil, append_assoc}
use Prim.Native.Nat.{ℕ, zero, suc, ◌+◌, ◌-◌, ◌*◌, ◌≤◌, ◌<◌}
use native.Mathlib.Nat.{mul-le-mul_right}
use native.Mathlib.Numerals.{add-one}
use native.Mathlib.Omega.{arith}
use lib.Dec.{eqb, ltb}
use lib.ListN.{length, take, drop, get_or, set, length-append, length-drop, length-take, length-map, length-set}
use lib.Seq.{take-suc}
use borrow.Author.Tests.{ltb-true}
use Rattle.list_laws.specs.Front.{over}
use Rattle.list_laws.proofs.Laws.Front.{over-more, over-length}
use Rattle.strip.proofs.Laws.Tests.{and-true}
use Rattle.strip.specs.Vertices.{vertex}
use Rattle.strip.specs.Sides.{Sides}
use Rattle.strip_candidates.specs.Candidates.{candidate_at}
use Rattle.strip_candidates.specs.declared.Sites.{Sites}
use Rattle.strip_pairs.specs.PairSet.{Pair, taken, pair_at, pairs_below, firsts, seconds, label_bytes}
use Rattle.strip_pairs.specs.PairListing.{shown, Counted, Put, PairRoom, PairsWritten, Ends, PairPlaced}
use Rattle.std.specs.Prelude.{Option, Some, None}
use Rattle.strip_pairs.specs.declared.standard.Vertices.{Vertices}
use Rattle.strip_pairs.specs.declared.standard.Filled.{Filled}

-- ---- what a strip takes of a candidate
four : (a p q r s n : Bool) → (a && (p && q && r && s && n)) ≡ true → (p ≡ true) × (q ≡ true) × (r ≡ true) × (s ≡ true)
four a p q r s n h =
    let i = (and-true (p && q && r && s) n (and-true a (p && q && r && s && n) h).1).0 in
    let b = and-true (p && q && r) s i in
    let d = and-true (p && q) r b.0 in
    let e = and-true p q d.0 in
    (e.0, e.1, d.1, b.1)

vertex-low : {w l : ℕ} → Sides w l → (x y : ℕ) → x < l → y < w → x * w + y ≤ 4096
vertex-low {w} {l} S x y p q =
    let m : (x + 1) * w ≤ l * w = mul-le-mul_right w (omega arith) in
    omega (arith, S.few)

pub record Low (w : ℕ) (c : Sites) : Type 0 where
  pub one : c.x1 * w + c.y1 ≤ 4096
  pub other : c.x2 * w + c.y2 ≤ 4096

pub taken-low : {w l : ℕ} → Sides w l → (c : Sites) → taken w l c ≡ true → Low w c
taken-low {w} {l} S c t =
    let i = four c.wanted (ltb c.x1 l) (ltb c.x2 l) (ltb c.y1 w) (ltb c.y2 w) (not (eqb c.x1 c.x2 && eqb c.y1 c.y2)) t in
    record {
      one = vertex-low S c.x1 c.y1 (ltb-true _ _ i.0) (ltb-true _ _ i.2);
      other = vertex-low S c.x2 c.y2 (ltb-true _ _ i.1) (ltb-true _ _ i.3);
    }

pub pick_taken : (w l i : ℕ) (c : Sites) → c ≡ (candidate_at w l i).sites → taken w l c ≡ true → (u v : ℕ) → u ≡ vertex w c.x1 c.y1
    → v ≡ vertex w c.x2 c.y2 → shown (Some (record { u = u; v = v })) (candidate_at w l i).label ≡ pair_at w l i
unfolding pair_at
pick_taken w l i c e t u v p q =
    let t' : taken w l (candidate_at w l i).sites ≡ true = rw e at t in
    rw (t', ← e, p, q)

pub pick_omitted : (w l i : ℕ) (c : Sites) → c ≡ (candidate_at w l i).sites → taken w l c ≡ false
    → shown None (candidate_at w l i).label ≡ pair_at w l i
unfolding pair_at
pick_omitted w l i c e t =
    let t' : taken w l (candidate_at w l i).sites ≡ false = rw e at t in
    rw t'

-- ---- labels
pub bytes_append : (ps qs : List Pair) → label_bytes (ps ++ qs) ≡ label_bytes ps ++ label_bytes qs
unfolding label_bytes
bytes_append [] qs = refl
bytes_append (p ∷ ps) qs = rw (bytes_append ps qs) (sym (append_assoc (p.label ++ (0 ∷ [])) (label_bytes ps) (label_bytes qs)))

bytes_one : (label : List ℕ) (q : Vertices) → label_bytes (shown (Some q) label) ≡ label ++ (0 ∷ [])
unfolding label_bytes
bytes_one label q = append-nil (label ++ (0 ∷ []))

bytes-none : label_bytes [] ≡ []
unfolding label_bytes
bytes-none = refl

pub counted-one : (q : Vertices) (len : ℕ) (at : Filled) → len ≤ 16
    → Counted (Some q) len at (record { pairs = at.pairs + 1; bytes = at.bytes + (len + 1) })
counted-one q len at h =
    record {
      pairs = λ label. refl;
      bytes = λ label e. omega (arith, ap length (bytes_one label q), length-append label (0 ∷ []));
      pairs-most = omega arith;
      bytes_most = omega arith;
    }

pub counted_none : (len : ℕ) (at : Filled) → Counted None len at at
counted_none len at =
    record {
      pairs = λ label. omega arith;
      bytes = λ label e. omega (arith, ap length bytes-none);
      pairs-most = omega arith;
      bytes_most = omega arith;
    }

-- an element more behind a front that stands in a buffer
store : (front l l₀ : List ℕ) (i x : ℕ) → l ≡ over front l₀ → i ≡ length front → i < length l → set l i x ≡ over (front ++ (x ∷ [])) l₀
store front l l₀ i x h e b =
    let b' : i < length l₀ = omega (arith, ap length h, length-append front (drop (length front) l₀), length-drop (length front) l₀) in
    rw h (over-more front l₀ i x e b')

-- the first j bytes of a label, on their way
pub record Putting (bytes : List ℕ) (at j : ℕ) (labels labels' : List ℕ) : Type 0 where
  pub length-kept : length labels' ≡ length labels
  pub then : (front labels₀ : List ℕ) → at ≡ length front → labels ≡ over front labels₀ → labels' ≡ over (front ++ take j bytes) labels₀

pub put-none : (bytes labels : List ℕ) (at : ℕ) → Putting bytes at 0 labels labels
put-none bytes labels at = record { length-kept = refl; then = λ front labels₀ e h. rw append-nil h }

module _ (bytes : List ℕ) (at j : ℕ) {labels labels' : List ℕ} (P : Putting bytes at j labels labels') (b : at + j < length labels) where
  pub put-more : j < length bytes → Putting bytes at (j + 1) labels (set labels' (at + j) (get_or bytes j 0))
  put-more l =
      record {
        length-kept = length-set labels' (at + j) (get_or bytes j 0) ∙ P.length-kept;
        then = λ front labels₀ e h.
            let t = length-take j bytes in
            let more = store (front ++ take j bytes) labels' labels₀ (at + j) (get_or bytes j 0) (P.then front labels₀ e h)
            (omega (arith, length-append front (take j bytes))) (omega (arith, P.length-kept)) in
            let s : take (j + 1) bytes ≡ take j bytes ++ (get_or bytes j 0 ∷ []) = rw (add-one, take-suc bytes j 0) in
            rw (s, ← (append_assoc front (take j bytes) (get_or bytes j 0 ∷ []))) more;
      }

  pub put-end : j ≤ length bytes → Put (take j bytes ++ (0 ∷ [])) at (at + (j + 1)) labels (set labels' (at + j) 0)
  put-end l =
      let t = length-take j bytes in
      record {
        number = omega (arith, length-append (take j bytes) (0 ∷ []));
        length-kept = length-set labels' (at + j) 0 ∙ P.length-kept;
        then = λ front labels₀ e h.
            let more = store (front ++ take j bytes) labels' labels₀ (at + j) 0 (P.then front labels₀ e h)
            (omega (arith, length-append front (take j bytes))) (omega (arith, P.length-kept)) in
            rw (← (append_assoc front (take j bytes) (0 ∷ []))) more;
      }

-- ---- a pair more
column : (f : Pair → ℕ) (ps : List Pair) (p : Pair) (l l₀ : List ℕ) (k : ℕ) → l ≡ over (map f ps) l₀ → k ≡ length ps → k < length l
    → set l k (f p) ≡ over (map f (ps ++ (p ∷ []))) l₀
column f ps p l l₀ k h e b = rw (map-append f ps (p ∷ [])) (store (map f ps) l l₀ k (f p) h (e ∙ sym (length-map ps f)) b)

pub placed_pair : (q : Vertices) (label : List ℕ) (at : Filled) (us vs labels labels' : List ℕ) (end : ℕ)
    → PairRoom (shown (Some q) label) at us vs labels → Put (label ++ (0 ∷ [])) at.bytes end labels labels'
    → PairPlaced (shown (Some q) label) at (record { pairs = at.pairs + 1; bytes = end }) us (set us at.pairs q.u) vs
    (set vs at.pairs q.v) labels labels'
placed_pair q label at us vs labels labels' end r put =
    let p : Pair = record { label = label; u = q.u; v = q.v } in
    let k = at.pairs in
    let hu : k < length us = omega (arith, r.firsts) in
    let hv : k < length vs = omega (arith, r.seconds) in
    record {
      us-length = length-set us k q.u;
      vs-length = length-set vs k q.v;
      labels_length = put.length-kept;
      ends = λ ps e.
          record {
            pairs = omega (arith, e.pairs, length-append ps (p ∷ []));
            bytes = put.number ∙ omega (arith, e.bytes, ap length (bytes_append ps (p ∷ [])), length-append (label_bytes ps) (label_bytes (p ∷ [])), ap length (bytes_one label q));
          };
      then = λ ps us₀ vs₀ labels₀ e w.
          record {
            firsts = column (λ z. z.u) ps p us us₀ k w.firsts e.pairs hu;
            seconds = column (λ z. z.v) ps p vs vs₀ k w.seconds e.pairs hv;
            bytes = rw (bytes_append ps (p ∷ []), bytes_one label q) (put.then (label_bytes ps) labels₀ e.bytes w.bytes);
          };
    }

pub placed_omitted : (at : Filled) (us vs labels : List ℕ) → PairPlaced [] at at us us vs vs labels labels
placed_omitted at us vs labels =
    record {
      us-length = refl;
      vs-length = refl;
      labels_length = refl;
      ends = λ ps e. rw append-nil e;
      then = λ ps us₀ vs₀ labels₀ e w. rw append-nil w;
    }

-- ---- the loops over the candidates
module _ (w l : ℕ) where
  pub pairs-more : (i : ℕ) → pairs_below w l (i + 1) ≡ pairs_below w l i ++ pair_at w l i
  unfolding pairs_below
  pairs-more i = rw add-one

  pub no_ends : Ends (pairs_below w l 0) (record { pairs = 0; bytes = 0 })
  unfolding label_bytes pairs_below
  no_ends = record { pairs = refl; bytes = refl }

  counts : (i : ℕ) → (length (pairs_below w l (i + 1)) ≡ length (pairs_below w l i) + length (pair_at w l i))
      × (length (label_bytes (pairs_below w l (i + 1))) ≡ length (label_bytes (pairs_below w l i)) + length (label_bytes (pair_at w l i)))
  counts i = (
    rw pairs-more (length-append (pairs_below w l i) (pair_at w l i)),
    rw (pairs-more, bytes_append) (length-append (label_bytes (pairs_below w l i)) (label_bytes (pair_at w l i))),
  )

  -- a candidate was counted under its label
  pub count-ends : (i : ℕ) {at next : Filled} {p : Option Vertices} {name : List ℕ} → Ends (pairs_below w l i) at → Counted p (length name) at next
      → shown p (candidate_at w l i).label ≡ pair_at w l i → name ≡ (candidate_at w l i).label
      → Ends (pairs_below w l (i + 1)) next
  count-ends i {p = p} e c q t =
      let label = (candidate_at w l i).label in
      let n = counts i in
      let b = c.bytes label (sym (ap length t)) in
      let bl : length (label_bytes (shown p label)) ≡ length (label_bytes (pair_at w l i)) = rw q in
      let pl : length (shown p label) ≡ length (pair_at w l i) = rw q in
      record { pairs = omega (arith, c.pairs label, e.pairs); bytes = omega (arith, e.bytes) }

  -- and placed under it
  pub shown-at : (i : ℕ) (p : Option Vertices) (name : List ℕ) → shown p (candidate_at w l i).label ≡ pair_at w l i
      → name ≡ (candidate_at w l i).label → shown p name ≡ pair_at w l i
  shown-at i p name q t = rw t q

  grow : (i d : ℕ) → (length (pairs_below w l i) ≤ length (pairs_below w l (i + d))) × (length (label_bytes (pairs_below w l i)) ≤ length (label_bytes (pairs_below w l (i + d))))
  grow i zero = let e : i + 0 ≡ i = omega arith in rw e (omega arith, omega arith)
  grow i (suc d) =
      let e : i + suc d ≡ i + d + 1 = omega arith in
      let g = grow i d in
      let n = counts (i + d) in
      rw e (omega arith, omega arith)

  -- the pairs so far are among all
  pub below_all : (i : ℕ) → i ≤ 18 → (length (pairs_below w l i) ≤ length (pairs_below w l 18)) × (length (label_bytes (pairs_below w l i)) ≤ length (label_bytes (pairs_below w l 18)))
  below_all i h = let e : i + (18 - i) ≡ 18 = omega arith in rw e at (grow i (18 - i))

  module _ (i : ℕ) {at : Filled} {us₀ us vs₀ vs labels₀ labels : List ℕ} (e : Ends (pairs_below w l i) at)
      (W : PairsWritten (pairs_below w l i) us₀ us vs₀ vs labels₀ labels)
      (r : PairRoom (pairs_below w l 18) (record { pairs = 0; bytes = 0 }) us₀ vs₀ labels₀) where
    pub lengths : i ≤ 18 → (length us ≡ length us₀) × (length vs ≡ length vs₀) × (length labels ≡ length labels₀)
    lengths h =
        let ps = pairs_below w l i in
        let b = below_all i h in (
          ap length W.firsts ∙ over-length (firsts ps) us₀ (omega (arith, length-map ps (λ z. z.u), r.firsts)),
          ap length W.seconds ∙ over-length (seconds ps) vs₀ (omega (arith, length-map ps (λ z. z.v), r.seconds)),
          ap length W.bytes ∙ over-length (label_bytes ps) labels₀ (omega (arith, r.bytes)),
        )

    pub next-room : i < 18 → PairRoom (pair_at w l i) at us vs labels
    next-room h =
        let n = lengths (omega arith) in
        let b = below_all (i + 1) (omega arith) in
        let c = counts i in
        record {
          firsts = omega (arith, e.pairs, r.firsts);
          seconds = omega (arith, e.pairs, r.seconds);
          bytes = omega (arith, e.bytes, r.bytes);
        }

pub all-pairs : (w l i : ℕ) {us₀ us vs₀ vs labels₀ labels : List ℕ} → PairsWritten (pairs_below w l i) us₀ us vs₀ vs labels₀ labels
    → 18 ≤ i → i ≤ 18 → PairsWritten (pairs_below w l 18) us₀ us vs₀ vs labels₀ labels
all-pairs w l i W a b = let e : i ≡ 18 = omega arith in rw e at W

pub no_pairs_written : (w l : ℕ) (us vs labels : List ℕ) → PairsWritten (pairs_below w l 0) us us vs vs labels labels
unfolding pairs_below label_bytes
no_pairs_written w l us vs labels = record { firsts = refl; seconds = refl; bytes = refl }

-- the labels' buffer has room for a label and its zero byte
pub label-room : (q : Vertices) {us vs labels : List ℕ} (name : List ℕ) (at : Filled)
    → PairRoom (shown (Some q) name) at us vs labels → at.bytes + (length name + 1) ≤ length labels
label-room q name at r = omega (arith, r.bytes, ap length (bytes_one name q), length-append name (0 ∷ []))
