-- What refuses a call for the edge list.
use Rattle.std.specs.Prelude.{List, ℕ, Float, length}
use Rattle.refusals.specs.StripRequest.{strip_refusal, of_raw_edges}
use Rattle.strip.specs.Requests.{strip_request}
use Rattle.strip.specs.declared.strip.Strip.{Strip}
use Rattle.strip_bonds.specs.Edges.{edges_below, edges}
use Rattle.strip_edges.specs.Listing.{too_short}

unfoldable pub raw_refusal : Strip → List ℕ → List ℕ → List Float → ℕ
unfolding edges_below
raw_refusal s early late mag = strip_refusal of_raw_edges (strip_request s (too_short (length (edges s)) early late mag))
