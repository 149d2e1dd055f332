-- The free edges, which are no tree edges, and the bit that each has of a configuration's number: bits run from 0 in edge order without gaps.
use Rattle.std.specs.Prelude.{◌≡◌, true, false, cond, not, List, ℕ, ◌+◌, ◌-◌, ◌<◌, length, get_or}
use Rattle.edge_bits.specs.Having.{tree, has_bit}
use Rattle.list_laws.specs.Count.{count}
use Rattle.list_laws.specs.Tabulate.{tabulate}
use Rattle.forest.specs.Paths.{Closes}
use Rattle.forest.specs.Labels.{is_tree}
use Rattle.forest.specs.Components.{component_count}

-- how many free edges stand before edge e
unfoldable pub free_before : List ℕ → List ℕ → ℕ → ℕ
free_before early late e = count (λ i. not (is_tree early late i)) e

-- how many edges are free
unfoldable pub free_count : List ℕ → List ℕ → ℕ
free_count early late = free_before early late (length early)

-- the bit of a free edge is the number of free edges before it; a tree edge has none
unfoldable pub bit_of : List ℕ → List ℕ → ℕ → ℕ
bit_of early late e = cond (is_tree early late e) tree (free_before early late e)

-- the bits of all edges
unfoldable pub bits_of : List ℕ → List ℕ → List ℕ
bits_of early late = tabulate (bit_of early late) (length early)

-- what a list has for edge e
abbrev pub at : List ℕ → ℕ → ℕ
at bits e = get_or bits e 0

-- the cyclomatic count of a graph of n vertices: edges and components, less the vertices
abbrev pub cycles : ℕ → List ℕ → List ℕ → ℕ
cycles n early late = length early + component_count n early late - n

-- What the list of bits says of a graph's edges:
pub record ForestBits (n : ℕ) (early late bits : List ℕ) : Type 0 where
  -- there is one entry for each edge;
  pub each : length bits ≡ length early
  -- an edge has no bit exactly where no path of the edges before it joins its ends;
  pub tree-edge : (e : ℕ) → e < length early → has_bit (at bits e) ≡ false → Closes early late e → ⊥
  pub free-edge : (e : ℕ) → e < length early → has_bit (at bits e) ≡ true → Closes early late e
  -- a bit is its edge's position among the edges that have one;
  pub position : (e : ℕ) → e < length early → has_bit (at bits e) ≡ true → at bits e ≡ count (λ i. has_bit (at bits i)) e
  -- and every number below the cyclomatic count, and no other, is some edge's bit, and one edge's only.
  pub below : (e : ℕ) → e < length early → has_bit (at bits e) ≡ true → at bits e < cycles n early late
  pub some-edge : (b : ℕ) → b < cycles n early late → (e : ℕ) × (e < length early) × (has_bit (at bits e) ≡ true) × (at bits e ≡ b)
  pub one-edge : (d e : ℕ) → d < length early → e < length early → has_bit (at bits d) ≡ true → at bits d ≡ at bits e → d ≡ e
