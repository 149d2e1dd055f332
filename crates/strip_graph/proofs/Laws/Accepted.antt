-- The refusals of the graph of a diluted strip beside those of its list.
use Rattle.std.specs.Prelude.{◌≡◌, Bool, true, false, cond, ◌||◌, List, ℕ, ◌*◌, ◌≤◌, eqb, ltb, Float, length}
use Rattle.std.proofs.Math.Path.{refl}
use Rattle.std.proofs.Common.{sym, ◌∙◌, arith, le-ltb}
use Rattle.refusals.specs.StripRequest.{Dilution, bad_dilution}
use Rattle.refusals.proofs.Laws.First.{unless}
use Rattle.graph_edges.specs.Graphs.{too_short}
use Rattle.strip.specs.Requests.{odd_cylinder, diluted_request}
use Rattle.strip.specs.Sides.{Sides}
use Rattle.strip.proofs.Laws.Sides.{sides_passed}
use Rattle.strip.specs.declared.strip.Strip.{Strip}
use Rattle.strip_bonds.specs.Edges.{edges}
use Rattle.strip_edges.specs.Listing as Listing
use Rattle.strip_window.proofs.Laws.EdgeLaws.{few-edges}
use Rattle.strip_dilution.specs.Diluted.{diluted_refusal}
use Rattle.strip_graph.specs.DilutedGraph.{diluted_edges, graph_refusal}

-- the checks in order
abbrev checked : Bool → Bool → Bool → Bool → ℕ
checked sides odd numbers short = cond sides 15 (cond odd 16 (cond numbers 17 (cond short 12 0)))

module _ (s : Strip) (d : Dilution) where
  abbrev unsided : Bool
  unsided = eqb s.w 0 || eqb s.l 0 || ltb 1024 (s.w * s.l)

  abbrev unnumbered : Bool
  unnumbered = bad_dilution (diluted_request s d false)

  list_checked : (early late : List ℕ) (mag : List Float)
      → diluted_refusal s d early late mag ≡ checked unsided (odd_cylinder s) unnumbered (Listing.too_short (length (edges s)) early late mag)
  unfolding diluted_refusal
  list_checked early late mag = refl

  graph-checked : (seed : ℕ) (early late : List ℕ) (mag : List Float) (raw : List ℕ)
      → graph_refusal s d seed early late mag raw ≡ checked unsided (odd_cylinder s) unnumbered (too_short (length (diluted_edges s d seed)) early late mag raw)
  unfolding graph_refusal
  graph-checked seed early late mag raw = refl

  -- a strip that is not refused
  pub record AcceptedStrip : Type 0 where
    pub sides : Sides s.w s.l
    pub even : odd_cylinder s ≡ false

  accepted-checked : (short : Bool) → checked unsided (odd_cylinder s) unnumbered short ≡ 0 → AcceptedStrip × (unnumbered ≡ false) × (short ≡ false)
  accepted-checked short h =
      let a = unless unsided (omega arith) h in
      let b = unless (odd_cylinder s) (omega arith) a.1 in
      let c = unless unnumbered (omega arith) b.1 in
      let e = unless short (omega arith) c.1 in
      (record { sides = sides_passed s.w s.l a.0; even = b.0 }, c.0, e.0)

  pub accepted_strip : (seed : ℕ) (early late : List ℕ) (mag : List Float) (raw : List ℕ) → graph_refusal s d seed early late mag raw ≡ 0 → AcceptedStrip
  accepted_strip seed early late mag raw h = (accepted-checked (too_short (length (diluted_edges s d seed)) early late mag raw) (sym (graph-checked seed early late mag raw) ∙ h)).0

  -- lists that hold 4,096 edges
  module _ (seed : ℕ) (first second : List ℕ) (size : List Float) (early late : List ℕ) (mag : List Float) (raw : List ℕ) where
    -- where the strip's list is accepted, only short lists are refused
    pub list_accepted : diluted_refusal s d first second size ≡ 0
        → AcceptedStrip × (cond (too_short (length (diluted_edges s d seed)) early late mag raw) 12 0 ≡ graph_refusal s d seed early late mag raw)
    list_accepted h =
        let p = sym (list_checked first second size) ∙ h in
        let ok = accepted-checked (Listing.too_short (length (edges s)) first second size) p in
        let a = unless unsided (omega arith) p in
        (ok.0, sym (graph-checked seed early late mag raw ∙ rw (a.0, ok.0.even, ok.1)))

    -- where it is refused, so is the graph, by the same number
    pub list_refused : 4096 ≤ length first → 4096 ≤ length second → 4096 ≤ length size → (diluted_refusal s d first second size ≡ 0 → ⊥)
        → diluted_refusal s d first second size ≡ graph_refusal s d seed early late mag raw
    list_refused p q r n =
        list_checked first second size
        ∙ go unsided (odd_cylinder s) unnumbered (Listing.too_short (length (edges s)) first second size) (too_short (length (diluted_edges s d seed)) early late mag raw) holds (λ z. n (list_checked first second size ∙ z))
        ∙ sym (graph-checked seed early late mag raw)
      where
        holds : unsided ≡ false → Listing.too_short (length (edges s)) first second size ≡ false
        holds u =
            let few = few-edges s (sides_passed s.w s.l u) in
            rw (le-ltb (length first) (length (edges s)) (omega arith), le-ltb (length second) (length (edges s)) (omega arith), le-ltb (length size) (length (edges s)) (omega arith))

        go : (a b c x y : Bool) → (a ≡ false → x ≡ false) → (checked a b c x ≡ 0 → ⊥) → checked a b c x ≡ checked a b c y
        go true b c x y f g = refl
        go false true c x y f g = refl
        go false false true x y f g = refl
        go false false false x y f g = absurd (g (rw (f refl)))
