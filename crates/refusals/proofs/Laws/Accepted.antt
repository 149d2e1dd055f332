-- Laws of what specs/Accepted defines.
use Rattle.std.specs.Prelude.{◌≡◌, refl, Bool, cond, ◌||◌, eqb, ltb, Float, get_or}
use Rattle.std.proofs.Common.{sym, ◌∙◌, arith, eqb-true, ltb-false, leb-false}
use Rattle.std.proofs.Math.Bool.{true, false}
use mathlib.Core.List.{List, [], ◌∷◌, ◌++◌}
use Prim.Native.Nat.{ℕ, zero, suc, ◌≤◌, ◌<◌, min, max}
use Rattle.std.proofs.Math.Decide.{dec_lt}
use Rattle.std.specs.Float.{nan}
use Rattle.std.proofs.Math.ListN.{length, length-append, get_or-append, get_or-map}
use Rattle.std.proofs.lemmas.List.{get_or_at}
use Rattle.std.proofs.lemmas.Bool.{eqb-false, not-false}
use Rattle.limits.specs.Limits.{most_vertices, most_edges, most_pairs, most_betas}
use Rattle.list_laws.specs.Search.{some}
use Rattle.list_laws.proofs.Laws.Search.{or-false, none-at}
use Rattle.refusals.specs.Edges.{Kept, kept_at, kept_of, kept, is_zero, kept_early, kept_late}
use Rattle.refusals.specs.Request.{graph_request, job_request, bad_lists, bad_ends, some_oversized, joined_twice}
use Rattle.refusals.specs.Key.{Key}
use Rattle.refusals.specs.Refusal.{refusal, of_raw_graph, of_graph}
use Rattle.refusals.proofs.Laws.First.{passed-at}
use Rattle.refusals.proofs.Laws.Later.{or_else, both-passed, refusal_in_parts}
use Rattle.refusals.specs.Accepted.{Lengths, AcceptedBetas, Accepted}

-- an edge inside a graph of n vertices, smaller end first
pub record Inside (n : ℕ) (e : Kept) : Type 0 where
  pub ordered : e.early < e.late
  pub inside : e.late < n

-- a vertex count that check 1 passes
pub low_count : (n : ℕ) → (eqb n 0 || ltb most_vertices n) ≡ false → n ≤ most_vertices
low_count n h = ltb-false most_vertices n (or-false (eqb n 0) (ltb most_vertices n) h).1

pub some-count : (n : ℕ) → (eqb n 0 || ltb most_vertices n) ≡ false → 1 ≤ n
some-count n h = pos n (eqb-false n 0 (or-false (eqb n 0) (ltb most_vertices n) h).0)
  where
    pos : (n : ℕ) → (n ≡ 0 → ⊥) → 1 ≤ n
    pos zero f = absurd (f refl)
    pos (suc n) f = omega arith

-- what the checks pass that read the lists as they are lent
pub record AcceptedRaw (n : ℕ) (a b : List ℕ) (m : List Float) (us vs : List ℕ) (betas : List Float) : Type 0 where
  pub some-vertex : 1 ≤ n
  pub few-vertices : n ≤ most_vertices
  pub lists : Lengths a b m
  pub matched : length us ≡ length vs
  pub few-pairs : length us ≤ most_pairs
  pub edges : some (bad_ends n a b) (length a) ≡ false
  pub betas_pass : AcceptedBetas betas

module _ (n floor : ℕ) (a b : List ℕ) (m : List Float) (us vs : List ℕ) (betas : List Float) where
  -- the lists that check 2 passes
  pub accepted-lengths : bad_lists (job_request n floor a b m us vs betas) ≡ false
      → Lengths a b m × (length us ≡ length vs) × (length us ≤ most_pairs) × (length betas ≤ most_betas)
  accepted-lengths h =
      let all = or-false _ _ h in
      let many = or-false _ _ all.0 in
      let pairs = or-false _ _ many.0 in
      let edges = or-false _ _ pairs.0 in
      let ends = or-false _ _ edges.0 in (
        record {
          others = sym (eqb-true _ _ (not-false _ ends.0));
          magnitudes = sym (eqb-true _ _ (not-false _ ends.1));
          few-edges = ltb-false most_edges (length a) edges.1;
        },
        eqb-true _ _ (not-false _ pairs.1),
        ltb-false most_pairs (length us) many.1,
        ltb-false most_betas (length betas) all.1,
      )

  pub accepted-raw : refusal of_raw_graph (job_request n floor a b m us vs betas) ≡ 0 → AcceptedRaw n a b m us vs betas
  accepted-raw h =
      let q = job_request n floor a b m us vs betas in
      let vertices = passed-at of_raw_graph q h Key.vertex_count refl in
      let lists = accepted-lengths (passed-at of_raw_graph q h Key.list_lengths refl) in
      record {
        some-vertex = some-count n vertices;
        few-vertices = low_count n vertices;
        lists = lists.0;
        matched = lists.1;
        few-pairs = lists.2;
        edges = passed-at of_raw_graph q h Key.edge_ends refl;
        betas_pass = record {
          few = lists.3;
          sized = (or-false (some_oversized m) (some_oversized betas) (passed-at of_raw_graph q h Key.sizes refl)).1;
          rising = passed-at of_raw_graph q h Key.beta_order refl;
        };
      }

  -- the checks that read the lists, then those of the kept edges
  pub graph_in_parts : refusal of_graph (job_request n floor a b m us vs betas)
      ≡ or_else (refusal of_raw_graph (job_request n floor a b m us vs betas)) (cond (joined_twice (kept_early a b m) (kept_late a b m)) 5 0)
  graph_in_parts = refusal_in_parts of_raw_graph (Key.parallel_edges ∷ []) (job_request n floor a b m us vs betas) refl

  -- a graph with betas and pairs that 1 to 5 pass
  pub accepted-graph : refusal of_graph (job_request n floor a b m us vs betas) ≡ 0 → Accepted n a b m × AcceptedRaw n a b m us vs betas
  accepted-graph h =
      let raw = accepted-raw (both-passed _ _ (sym graph_in_parts ∙ h)).0 in (
        record {
          some-vertex = raw.some-vertex;
          few-vertices = raw.few-vertices;
          lists = raw.lists;
          edges = raw.edges;
          apart = passed-at of_graph (job_request n floor a b m us vs betas) h Key.parallel_edges refl;
        },
        raw,
      )

-- the same of a graph alone
pub accepted : (n : ℕ) (a b : List ℕ) (m : List Float) (misfit : Bool) → refusal of_graph (graph_request n a b m misfit) ≡ 0 → Accepted n a b m
accepted n a b m misfit h = (accepted-graph n 0 a b m [] [] [] h).0

-- ---- the kept edges lie inside the graph
module _ (n : ℕ) (a b : List ℕ) (m : List Float) (ok : some (bad_ends n a b) (length a) ≡ false) where
  kept-at : (i : ℕ) → i < length a → Inside n (kept_at a b m i)
  kept-at i h =
      let t = or-false _ _ (none-at (bad_ends n a b) (length a) i h ok) in
      let o = or-false _ _ t.1 in
      let x : get_or a i 0 < n = leb-false n (get_or a i 0) o.0 in
      let y : get_or b i 0 < n = leb-false n (get_or b i 0) o.1 in
      go (get_or a i 0) (get_or b i 0) (eqb-false _ _ t.0) x y (dec_lt (get_or a i 0) (get_or b i 0))
    where
      go : (x y : ℕ) → (x ≡ y → ⊥) → x < n → y < n → Dec (x < y) → Inside n (record { early = min x y; late = max x y; magnitude = get_or m i nan; place = (kept_at a b m i).place })
      go x y d p q (yes l) = record { ordered = omega arith; inside = omega arith }
      go x y d p q (no l) = record { ordered = omega arith; inside = omega arith }

  kept-each : (i : ℕ) → i ≤ length a → (z : Kept) (e : ℕ) → e < length (kept_of a b m i) → Inside n (get_or (kept_of a b m i) e z)
  unfolding kept_of
  kept-each zero h z e l = absurd (omega arith)
  kept-each (suc i) h z e l = go (is_zero (get_or m i nan)) (kept-each i (omega arith) z e) l
    where
      go : (b' : Bool) → (e < length (kept_of a b m i) → Inside n (get_or (kept_of a b m i) e z))
          → e < length (cond b' (kept_of a b m i) (kept_of a b m i ++ (kept_at a b m i ∷ [])))
          → Inside n (get_or (cond b' (kept_of a b m i) (kept_of a b m i ++ (kept_at a b m i ∷ []))) e z)
      go true ih l = ih l
      go false ih l = new (dec_lt e (length (kept_of a b m i))) l
        where
          new : Dec (e < length (kept_of a b m i)) → e < length (kept_of a b m i ++ (kept_at a b m i ∷ [])) → Inside n (get_or (kept_of a b m i ++ (kept_at a b m i ∷ [])) e z)
          new (yes k) l = rw (get_or-append (kept_of a b m i) (kept_at a b m i ∷ []) z e k) (ih k)
          new (no k) l =
              let q : length (kept_of a b m i) ≡ e = omega (arith, length-append (kept_of a b m i) (kept_at a b m i ∷ [])) in
              rw (get_or_at (kept_of a b m i) (kept_at a b m i) [] z e q) (kept-at i (omega arith))

  -- by their columns
  pub kept-inside : (e : ℕ) → e < length (kept a b m)
      → (get_or (kept_early a b m) e 0 < get_or (kept_late a b m) e 0) × (get_or (kept_late a b m) e 0 < n)
  kept-inside e h =
      let z : Kept = record { early = 0; late = 0; magnitude = nan; place = 0 } in
      let k = kept-each (length a) (omega arith) z e h in
      let x = get_or-map (λ u. u.early) (kept a b m) e z in
      let y = get_or-map (λ u. u.late) (kept a b m) e z in
      (omega (arith, k.ordered), omega (arith, k.inside))

-- there are no more of them than raw ones
pub kept-most : (a b : List ℕ) (m : List Float) (i : ℕ) → length (kept_of a b m i) ≤ i
unfolding kept_of
kept-most a b m zero = omega arith
kept-most a b m (suc i) = go (is_zero (get_or m i nan)) (kept-most a b m i)
  where
    go : (z : Bool) → length (kept_of a b m i) ≤ i → length (cond z (kept_of a b m i) (kept_of a b m i ++ (kept_at a b m i ∷ []))) ≤ suc i
    go true h = omega arith
    go false h = omega (arith, length-append (kept_of a b m i) (kept_at a b m i ∷ []))
