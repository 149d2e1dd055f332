-- The pair set on its way into three buffers.
use Rattle.std.specs.Prelude.{◌≡◌, Option, Some, None, List, [], ◌∷◌, ◌++◌, ℕ, ◌+◌, ◌≤◌, length}
use Rattle.list_laws.specs.Front.{over}
use Rattle.strip_pairs.specs.PairSet.{Pair, firsts, seconds, label_bytes}
use Rattle.strip_pairs.specs.declared.standard.Vertices.{Vertices}
use Rattle.strip_pairs.specs.declared.standard.Filled.{Filled}

-- the pair that was picked, under its label
abbrev pub shown : Option Vertices → List ℕ → List Pair
shown (Some p) label = record { label = label; u = p.u; v = p.v } ∷ []
shown None label = []

-- a pair under a label of len bytes was counted, or none
pub record Counted (p : Option Vertices) (len : ℕ) (at next : Filled) : Type 0 where
  pub pairs : (label : List ℕ) → next.pairs ≡ at.pairs + length (shown p label)
  pub bytes : (label : List ℕ) → length label ≡ len → next.bytes ≡ at.bytes + length (label_bytes (shown p label))
  pub pairs-most : next.pairs ≤ at.pairs + 1
  pub bytes_most : next.bytes ≤ at.bytes + 17

-- bytes more behind those that stand at the front, whatever these are
pub record Put (more : List ℕ) (at next : ℕ) (labels labels' : List ℕ) : Type 0 where
  pub number : next ≡ at + length more
  pub length-kept : length labels' ≡ length labels
  pub then : (front labels₀ : List ℕ) → at ≡ length front → labels ≡ over front labels₀ → labels' ≡ over (front ++ more) labels₀

-- the buffers hold some pairs more
pub record PairRoom (more : List Pair) (at : Filled) (us vs labels : List ℕ) : Type 0 where
  pub firsts : at.pairs + length more ≤ length us
  pub seconds : at.pairs + length more ≤ length vs
  pub bytes : at.bytes + length (label_bytes more) ≤ length labels

-- pairs were written to the fronts of three buffers; what lies past them stayed
pub record PairsWritten (ps : List Pair) (us us' vs vs' labels labels' : List ℕ) : Type 0 where
  pub firsts : us' ≡ over (firsts ps) us
  pub seconds : vs' ≡ over (seconds ps) vs
  pub bytes : labels' ≡ over (label_bytes ps) labels

-- where the pairs written so far end
pub record Ends (ps : List Pair) (at : Filled) : Type 0 where
  pub pairs : at.pairs ≡ length ps
  pub bytes : at.bytes ≡ length (label_bytes ps)

-- pairs more behind those that stand at the fronts, whatever these are
pub record PairPlaced (more : List Pair) (at next : Filled) (us us' vs vs' labels labels' : List ℕ) : Type 0 where
  pub us-length : length us' ≡ length us
  pub vs-length : length vs' ≡ length vs
  pub labels_length : length labels' ≡ length labels
  pub ends : (ps : List Pair) → Ends ps at → Ends (ps ++ more) next
  pub then : (ps : List Pair) (us₀ vs₀ labels₀ : List ℕ) → Ends ps at
      → PairsWritten ps us₀ us vs₀ vs labels₀ labels → PairsWritten (ps ++ more) us₀ us' vs₀ vs' labels₀ labels'
