-- What an accepted call for the graph of a diluted strip says of raw places, of the window, and of a call for the graph of `diluted`'s list.
use Rattle.std.specs.Prelude.{◌≡◌, refl, Result, List, ℕ, ◌*◌, ◌<◌, min, max, Float, length, get_or, take}
use Rattle.std.proofs.Common.{sym, ap, ◌∙◌, subst, arith}
use Rattle.std.specs.Float.{nan}
use Rattle.std.proofs.lemmas.List.{length-map}
use Rattle.list_laws.specs.Front.{over}
use Rattle.list_laws.proofs.Laws.Tabulate.{tabulate-at, tabulate-length}
use Rattle.transfer_matrix.specs.Job.{window_of}
use Rattle.refusals.specs.Edges.{kept, kept_at, early_ends as kept_early_ends, late_ends as kept_late_ends}
use Rattle.refusals.specs.StripRequest.{Dilution}
use Rattle.refusals.proofs.Laws.Places.{kept_remember, agreeing_remember}
use Rattle.graph_edges.specs.Graphs.{Set}
use Rattle.graph_edges.specs.Places.{Remembered, remembered}
use Rattle.graph_edges.proofs.Laws.Setting.{alike}
use Rattle.graph_edges.specs.declared.Graph.{Graph}
use Rattle.refusals.specs.declared.Refusal.{Refusal}
use Rattle.strip.specs.declared.strip.Strip.{Strip}
use Rattle.strip_bonds.specs.Edges.{edges, early_ends, late_ends}
use Rattle.strip_dilution.specs.Diluted.{magnitude, state_at, magnitudes}
use Rattle.strip_window.specs.Window as Strips
use Rattle.strip_window.proofs.Laws.EdgeLaws.{ends-inside}
use Rattle.strip_graph.specs.DilutedGraph.{diluted_edges, drawn_edge, graph_refusal}
use Rattle.strip_graph.proofs.Laws.Accepted.{AcceptedStrip, accepted_strip}
use Rattle.strip_graph.proofs.Laws.Lists.{front, same_kept}
use Rattle.strip_graph.proofs.Laws.Window.{window_stays, strip_window, strip_ordered}

module _ (s : Strip) (d : Dilution) (seed : ℕ) {r : Result Graph Refusal} {early early' late late' : List ℕ} {mag mag' : List Float} {raw raw' : List ℕ}
    (S : Set (graph_refusal s d seed early late mag raw) (s.w * s.l) (Strips.window_of s) (diluted_edges s d seed) r early early' late late' mag mag' raw raw')
    (accepted : graph_refusal s d seed early late mag raw ≡ 0) where
  -- the edges are the strip's, each with the magnitude that was drawn for it
  pub diluted_remembered : Remembered (drawn_edge s d seed) (length (edges s)) (length (diluted_edges s d seed)) early' late' mag' raw'
  diluted_remembered =
      let a = early_ends (edges s) in
      let ok = accepted_strip s d seed early late mag raw accepted in
      let few = length-map (edges s) (λ e. e.early) in
      subst (λ n. Remembered (drawn_edge s d seed) n (length (diluted_edges s d seed)) early' late' mag' raw') few
      (remembered accepted
      (agreeing_remember (λ p h. drawn-at ok p (omega (arith, few))) (kept_remember a (late_ends (edges s)) (magnitudes d seed (length (edges s))) (length a))) S)
    where
      drawn-at : AcceptedStrip s d → (p : ℕ) → p < length (edges s)
          → kept_at (early_ends (edges s)) (late_ends (edges s)) (magnitudes d seed (length (edges s))) p ≡ drawn_edge s d seed p
      drawn-at ok p h =
          let o = (ends-inside s ok.sides ok.even p h).0 in
          let x : min (get_or (early_ends (edges s)) p 0) (get_or (late_ends (edges s)) p 0) ≡ get_or (early_ends (edges s)) p 0 = omega arith in
          let y : max (get_or (early_ends (edges s)) p 0) (get_or (late_ends (edges s)) p 0) ≡ get_or (late_ends (edges s)) p 0 = omega arith in
          rw (x, y, tabulate-at (λ i. magnitude d (state_at seed i)) (length (edges s)) p nan h)

  -- the window is the strip's
  pub window-whole : window_of (Strips.window_of s) (kept_early_ends (diluted_edges s d seed)) (kept_late_ends (diluted_edges s d seed)) ≡ Strips.window_of s
  window-whole =
      let ok = accepted_strip s d seed early late mag raw accepted in
      let a = early_ends (edges s) in
      let b = late_ends (edges s) in
      let w = strip_window s in
      ap (λ f. window_of f (kept_early_ends (diluted_edges s d seed)) (kept_late_ends (diluted_edges s d seed))) (sym w)
      ∙ sym (window_stays a b (magnitudes d seed (length (edges s))) (strip_ordered s ok.sides ok.even)) ∙ w

  -- A call for the graph of the list that `diluted` wrote, with the strip's window as floor, answers and leaves the same.
  pub graph_of_list : (first second : List ℕ) (size : List Float) {first' second' : List ℕ} {size' : List Float} {K : ℕ} {r'' : Result Graph Refusal}
      {early'' late'' : List ℕ} {mag'' : List Float} {raw'' : List ℕ}
      → first' ≡ over (early_ends (edges s)) first → second' ≡ over (late_ends (edges s)) second → size' ≡ over (magnitudes d seed (length (edges s))) size
      → let k = length (edges s) in
      Set K (s.w * s.l) (Strips.window_of s) (kept (take k first') (take k second') (take k size')) r'' early early'' late late'' mag mag'' raw raw'' → K ≡ 0
      → (r'' ≡ r) × (early'' ≡ early') × (late'' ≡ late') × (mag'' ≡ mag') × (raw'' ≡ raw')
  graph_of_list first second size {first'} {second'} {size'} {K} {r''} {early''} {late''} {mag''} {raw''} p q u T z =
      let k = length (edges s) in
      let x = front (early_ends (edges s)) first first' k k (length-map (edges s) _) refl p in
      let y = front (late_ends (edges s)) second second' k k (length-map (edges s) _) refl q in
      let w = front (magnitudes d seed k) size size' k k (tabulate-length (λ i. magnitude d (state_at seed i)) k) refl u in
      alike z accepted (subst (λ es. Set K (s.w * s.l) (Strips.window_of s) es r'' early early'' late late'' mag mag'' raw raw'') (same_kept x y w) T) S
