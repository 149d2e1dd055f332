-- The list that `diluted` wrote, and the graph of what is kept of it.
use mathlib.Core.Path.{◌≡◌, sym, ap, ap₂, ◌∙◌}
use mathlib.Core.Bool.{cond}
use mathlib.Core.List.{List}
use Prim.Native.Nat.{ℕ, ◌*◌, ◌≤◌}
use native.Mathlib.Omega.{arith}
use lib.Ieee.{Float}
use lib.ListN.{length, take, length-map, length-take}
use Rattle.list_laws.specs.Front.{over}
use Rattle.list_laws.proofs.Laws.Tabulate.{tabulate-length}
use Rattle.transfer_matrix.specs.Job.{window_of}
use Rattle.refusals.specs.Answers.{Answered, left}
use Rattle.refusals.specs.StripRequest.{Dilution}
use Rattle.refusals.specs.Edges.{Kept, kept}
use Rattle.refusals.proofs.Laws.Accepted.{kept-most}
use Rattle.std.specs.Prelude.{Result, Ok, Err}
use Rattle.refusals.specs.declared.Refusal.{Refusal}
use Rattle.refusals.specs.Numbers.{number}
use Rattle.refusals.proofs.Laws.Answers.{number-not_zero}
use Rattle.kept_edges.specs.Keep.{places_of, Placed, Ordered}
use Rattle.kept_edges.proofs.Laws.Places.{places-length}
use Rattle.graph_edges.specs.Graphs.{too_short, Set}
use Rattle.graph_edges.proofs.Laws.Setting.{refused-set}
use Rattle.graph_edges.specs.declared.Graph.{Graph}
use Rattle.strip.specs.declared.strip.Strip.{Strip}
use Rattle.strip_bonds.specs.Edges.{edges, early_ends, late_ends}
use Rattle.strip_dilution.specs.Diluted.{magnitude, state_at, magnitudes, diluted_refusal}
use Rattle.strip_window.specs.Window as Strips
use Rattle.strip_window.proofs.Laws.EdgeLaws.{few-edges}
use Rattle.strip_graph.specs.DilutedGraph.{diluted_edges, graph_refusal}
use Rattle.strip_graph.proofs.Laws.Accepted.{AcceptedStrip, list_accepted, list_refused}
use Rattle.strip_graph.proofs.Laws.Lists.{front, same_kept}
use Rattle.strip_graph.proofs.Laws.Window.{strip_ordered, strip_window}

-- ---- the kept edges are counted by their places

pub few-places : (a b : List ℕ) (m : List Float) → length m ≡ length a → length a ≤ 4096 → length (places_of m (length m)) ≤ 4096
few-places a b m e h = let l = kept-most a b m (length m) in omega (arith, places-length a b m (length m))

pub places-counted : (a b : List ℕ) (m : List Float) {k : ℕ} {raw raw' : List ℕ} → Placed m (length m) k raw raw' → length m ≡ length a → k ≡ length (kept a b m)
places-counted a b m P e = P.edges ∙ places-length a b m (length m) ∙ rw e

-- ---- the strip's list

-- `diluted` was accepted: the k edges of the strip stand at the fronts of the lists, and only short lists refuse the graph
pub record Drawn (s : Strip) (d : Dilution) (seed k : ℕ) (first second : List ℕ) (size : List Float) : Type 0 where
  pub accepted : AcceptedStrip s d
  pub number : k ≡ length (edges s)
  pub firsts : take k first ≡ early_ends (edges s)
  pub seconds : take k second ≡ late_ends (edges s)
  pub sizes : take k size ≡ magnitudes d seed (length (edges s))
  pub passed : (early late : List ℕ) (mag : List Float) (raw : List ℕ)
      → cond (too_short (length (diluted_edges s d seed)) early late mag raw) 12 0 ≡ graph_refusal s d seed early late mag raw

pub drawn : (s : Strip) (d : Dilution) (seed k : ℕ) (first second : List ℕ) (size : List Float) {first' second' : List ℕ} {size' : List Float}
    → Answered (diluted_refusal s d first second size) (length (edges s)) (Ok k)
    → first' ≡ left (diluted_refusal s d first second size) (over (early_ends (edges s)) first) first
    → second' ≡ left (diluted_refusal s d first second size) (over (late_ends (edges s)) second) second
    → size' ≡ left (diluted_refusal s d first second size) (over (magnitudes d seed (length (edges s))) size) size
    → Drawn s d seed k first' second' size'
drawn s d seed k first second size {first'} {second'} {size'} (z, n) a b c = record {
  accepted = (list_accepted s d seed first second size first second size first (sym z)).0;
  number = n;
  firsts = front (early_ends (edges s)) first first' k _ (length-map (edges s) _) n (rw (← z) at a);
  seconds = front (late_ends (edges s)) second second' k _ (length-map (edges s) _) n (rw (← z) at b);
  sizes =
      front (magnitudes d seed (length (edges s))) size size' k _ (tabulate-length (λ i. magnitude d (state_at seed i)) (length (edges s))) n
      (rw (← z) at c);
  passed = λ early late mag raw. (list_accepted s d seed first second size early late mag raw (sym z)).1;
}

module _ {s : Strip} {d : Dilution} {seed k : ℕ} {first second : List ℕ} {size : List Float} (D : Drawn s d seed k first second size) where
  -- its edges need no check
  pub drawn-ordered : Ordered (take k first) (take k second)
  drawn-ordered = rw (D.firsts, D.seconds) (strip_ordered s D.accepted.sides D.accepted.even)

  pub drawn-sizes : length (take k size) ≡ length (take k first)
  drawn-sizes =
      rw (D.firsts, D.sizes)
      (tabulate-length (λ i. magnitude d (state_at seed i)) (length (edges s)) ∙ sym (length-map (edges s) (λ e. e.early)))

  pub drawn-few : length (take k first) ≤ 4096
  drawn-few = rw D.firsts (let p = length-map (edges s) (λ e. e.early) in omega (arith, few-edges s D.accepted.sides))

  -- the fronts as parts of the lists
  front-part : {A : Type 0} (new l : List A) → length new ≡ length (edges s) → take k l ≡ new → k ≡ length (take k l)
  front-part new l p e = D.number ∙ sym p ∙ ap length (sym e)

  front_fits : {A : Type 0} (l : List A) → k ≡ length (take k l) → k ≤ length l
  front_fits l p = omega (arith, length-take k l)

  pub first_part : k ≡ length (take k first)
  first_part = front-part _ first (length-map (edges s) (λ e. e.early)) D.firsts

  pub second-part : k ≡ length (take k second)
  second-part = front-part _ second (length-map (edges s) (λ e. e.late)) D.seconds

  pub size-part : k ≡ length (take k size)
  size-part = front-part _ size (tabulate-length (λ i. magnitude d (state_at seed i)) (length (edges s))) D.sizes

  pub first_fits : k ≤ length first
  first_fits = front_fits first first_part

  pub second_fits : k ≤ length second
  second_fits = front_fits second second-part

  pub size_fits : k ≤ length size
  size_fits = front_fits size size-part

-- what is left by a call for a graph, whose refusal, vertices, floor and edges are known otherwise
moved : {K K' n n' floor floor' : ℕ} {es es' : List Kept} {r : Result Graph Refusal} {early early' late late' : List ℕ} {mag mag' : List Float} {raw raw' : List ℕ}
    → K ≡ K' → n ≡ n' → floor ≡ floor' → es ≡ es' → Set K n floor es r early early' late late' mag mag' raw raw'
    → Set K' n' floor' es' r early early' late late' mag mag' raw raw'
moved p q u v S = rw (← p, ← q, ← u, ← v) S

-- the graph of the list is the graph of the strip
pub drawn-set : {s : Strip} {d : Dilution} {seed k : ℕ} {first second : List ℕ} {size : List Float} (n : ℕ) {r : Result Graph Refusal} (early late : List ℕ) (mag : List Float) (raw : List ℕ)
    {early' late' : List ℕ} {mag' : List Float} {raw' : List ℕ} → Drawn s d seed k first second size → n ≡ s.w * s.l
    → Set (cond (too_short (length (kept (take k first) (take k second) (take k size))) early late mag raw) 12 0) n (window_of 0 (take k first) (take k second))
    (kept (take k first) (take k second) (take k size)) r early early' late late' mag mag' raw raw'
    → Set (graph_refusal s d seed early late mag raw) (s.w * s.l) (Strips.window_of s) (diluted_edges s d seed) r early early' late late' mag mag' raw raw'
drawn-set {s} n early late mag raw D v S =
    let same = same_kept D.firsts D.seconds D.sizes in
    moved (ap (λ es. cond (too_short (length es) early late mag raw) 12 0) same ∙ D.passed early late mag raw) v (ap₂ (window_of 0) D.firsts D.seconds ∙ strip_window s) same S

-- a refused list is a refused graph
pub refused-drawn : (s : Strip) (d : Dilution) (seed : ℕ) (e : Refusal) (first second : List ℕ) (size : List Float) (early late : List ℕ) (mag : List Float) (raw : List ℕ)
    → 4096 ≤ length first → 4096 ≤ length second → 4096 ≤ length size → number e ≡ diluted_refusal s d first second size
    → Set (graph_refusal s d seed early late mag raw) (s.w * s.l) (Strips.window_of s) (diluted_edges s d seed) (Err e) early early late late mag mag raw raw
refused-drawn s d seed e first second size early late mag raw x y z q =
    let found = list_refused s d seed first second size early late mag raw x y z (λ u. number-not_zero e (q ∙ u)) in
    refused-set _ _ _ _ e early late mag raw (q ∙ found)
