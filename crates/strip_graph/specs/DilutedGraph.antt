-- The graph of a diluted strip: of the strip's edge list with drawn magnitudes.
use Rattle.std.specs.Prelude.{List, ℕ, Float, length, get_or}
use Rattle.refusals.specs.Edges.{Kept, kept}
use Rattle.refusals.specs.StripRequest.{Dilution, strip_refusal, of_diluted}
use Rattle.graph_edges.specs.Graphs.{too_short}
use Rattle.strip.specs.Requests.{diluted_request}
use Rattle.strip.specs.declared.strip.Strip.{Strip}
use Rattle.strip_bonds.specs.Edges.{edges, early_ends, late_ends}
use Rattle.strip_dilution.specs.Diluted.{magnitude, state_at, magnitudes}

-- what is kept of the list that `diluted` writes: places are those in the strip's edge list
abbrev pub diluted_edges : Strip → Dilution → ℕ → List Kept
diluted_edges s d seed = kept (early_ends (edges s)) (late_ends (edges s)) (magnitudes d seed (length (edges s)))

-- the strip's edge at a place, with the magnitude that is drawn for it
abbrev pub drawn_edge : Strip → Dilution → ℕ → ℕ → Kept
drawn_edge s d seed p =
    record {
      early = get_or (early_ends (edges s)) p 0;
      late = get_or (late_ends (edges s)) p 0;
      magnitude = magnitude d (state_at seed p);
      place = p;
    }

-- what refuses a call for the graph: the lists are to hold the kept edges
unfoldable pub graph_refusal : Strip → Dilution → ℕ → List ℕ → List ℕ → List Float → List ℕ → ℕ
graph_refusal s d seed early late mag raw = strip_refusal of_diluted (diluted_request s d (too_short (length (diluted_edges s d seed)) early late mag raw))
