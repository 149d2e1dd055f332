-- The rules' edges are counted one by one.
use native.Mathlib.Omega.{arith}
use Rattle.strip_edges.proofs.listing.count_site.Goals as goal

pub returns : goal.returns
returns c = (cc, omega arith)
