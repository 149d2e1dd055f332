-- Raw places in the lists that an accepted call leaves.
use Rattle.std.specs.Prelude.{◌≡◌, refl, Result, false, List, map, ℕ, ◌<◌, Float, length, get_or}
use Rattle.std.proofs.Common.{sym, ap, ◌∙◌, arith}
use Rattle.std.specs.Float.{nan}
use Rattle.std.proofs.lemmas.List.{length-map}
use Rattle.list_laws.specs.Front.{over}
use Rattle.list_laws.proofs.Laws.Front.{over-front}
use Rattle.refusals.specs.Edges.{Kept, kept_at, kept, is_zero, early_ends, late_ends, magnitudes, places}
use Rattle.refusals.specs.Places.{edge_of, Remembers}
use Rattle.refusals.proofs.Laws.Places.{column-at, kept_remember, changed_remember}
use Rattle.graph_edges.specs.Graphs.{Set, turned_edge, rotate}
use Rattle.graph_edges.specs.declared.Graph.{Graph}
use Rattle.refusals.specs.declared.Refusal.{Refusal}

-- The first k of four lists are edges of n raw ones, each of which is told by its place.
pub record Remembered (edge : ℕ → Kept) (n k : ℕ) (early late : List ℕ) (mag : List Float) (raw : List ℕ) : Type 0 where
  -- places rise strictly, below n
  pub rising : (i j : ℕ) → i < j → j < k → get_or raw i 0 < get_or raw j 0
  pub inside : (i : ℕ) → i < k → get_or raw i 0 < n
  -- each edge is the raw edge at its place, and its magnitude is not zero
  pub earlies : (i : ℕ) → i < k → get_or early i 0 ≡ (edge (get_or raw i 0)).early
  pub lates : (i : ℕ) → i < k → get_or late i 0 ≡ (edge (get_or raw i 0)).late
  pub mags : (i : ℕ) → i < k → get_or mag i nan ≡ (edge (get_or raw i 0)).magnitude
  pub not_zero : (i : ℕ) → i < k → is_zero (get_or mag i nan) ≡ false
  -- every raw edge whose magnitude is not zero is there
  pub whole : (p : ℕ) → p < n → is_zero (edge p).magnitude ≡ false → (i : ℕ) × (i < k) × (get_or raw i 0 ≡ p)

module _ {K v floor : ℕ} {r : Result Graph Refusal} {early early' late late' : List ℕ} {mag mag' : List Float} {raw raw' : List ℕ} (accepted : K ≡ 0) where
  -- edges that remember their places, in the lists
  pub remembered : {edge : ℕ → Kept} {n : ℕ} {es : List Kept} → Remembers edge n es → Set K v floor es r early early' late late' mag mag' raw raw'
      → Remembered edge n (length es) early' late' mag' raw'
  remembered {edge} {n} {es} R S =
      record {
        rising = λ i j l h. rw (place i (omega arith), place j h) (R.rising i j l h);
        inside = λ i h. rw (place i h) (R.inside i h);
        earlies = λ i h. written (λ e. e.early) 0 early columns.0 i h ∙ ap (λ e. e.early) (there i h);
        lates = λ i h. written (λ e. e.late) 0 late columns.1 i h ∙ ap (λ e. e.late) (there i h);
        mags = λ i h. magnitude i h ∙ ap (λ e. e.magnitude) (there i h);
        not_zero = λ i h. rw (magnitude i h) (R.not_zero i h);
        whole = λ p h k. let w = R.whole p h k in (w.0, w.1, place w.0 w.1 ∙ w.2);
      }
    where
      -- an accepted call writes the columns of its edges
      columns : (early' ≡ over (early_ends es) early) × (late' ≡ over (late_ends es) late) × (mag' ≡ over (magnitudes es) mag) × (raw' ≡ over (places es) raw)
      columns = (rw accepted at S.earlies, rw accepted at S.lates, rw accepted at S.mags, rw accepted at S.raws)

      written : {A : Type 0} (f : Kept → A) (z : A) {l : List A} (l₀ : List A) → l ≡ over (map f es) l₀ → (i : ℕ) → i < length es → get_or l i z ≡ f (edge_of es i)
      written f z l₀ e i h = ap (λ x. get_or x i z) e ∙ over-front (map f es) l₀ i z (rw (length-map es f) h) ∙ column-at f es i z h

      place : (i : ℕ) → i < length es → get_or raw' i 0 ≡ (edge_of es i).place
      place = written (λ e. e.place) 0 raw columns.3

      magnitude : (i : ℕ) → i < length es → get_or mag' i nan ≡ (edge_of es i).magnitude
      magnitude = written (λ e. e.magnitude) nan mag columns.2

      there : (i : ℕ) → i < length es → edge_of es i ≡ edge (get_or raw' i 0)
      there i h = R.edge i h ∙ ap edge (sym (place i h))

  -- of `Graph::new`: the raw edges, smaller end first
  pub new_remembered : (a b : List ℕ) (m : List Float) → Set K v floor (kept a b m) r early early' late late' mag mag' raw raw'
      → Remembered (kept_at a b m) (length a) (length (kept a b m)) early' late' mag' raw'
  new_remembered a b m S = remembered (kept_remember a b m (length a)) S

  -- of `Graph::rotated`: the raw edges, turned
  pub rotated_remembered : (a b : List ℕ) (m : List Float) → Set K v floor (rotate v (kept a b m)) r early early' late late' mag mag' raw raw'
      → Remembered (λ p. turned_edge v (kept_at a b m p)) (length a) (length (kept a b m)) early' late' mag' raw'
  rotated_remembered a b m S =
      rw (← (length-map (kept a b m) (turned_edge v)))
      (remembered (changed_remember (turned_edge v) (λ e. refl) (λ e. refl) (kept_remember a b m (length a))) S)
