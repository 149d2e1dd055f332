-- The edges of a strip, defined by site: at each site, in the order of the vertices, each local rule gives an edge or none.
use Rattle.std.specs.Prelude.{Bool, cond, not, ◌||◌, ◌&&◌, List, [], ◌∷◌, ◌++◌, map, ℕ, zero, suc, ◌+◌, ◌*◌, ◌/◌, ◌%◌, eqb, ltb, Float}
use Rattle.std.specs.Float.{binary64}
use Rattle.std.specs.Float.Ieee.{of_bits}
use Rattle.strip.specs.Kinds.{is_honey, is_tri, is_eight}
use Rattle.strip.specs.declared.kinds.Kind.{Kind}
use Rattle.strip.specs.Vertices.{vertex}
use Rattle.strip.specs.declared.strip.Strip.{Strip}
use Rattle.strip_bonds.specs.declared.Edge.{Edge}

abbrev pub edge : ℕ → ℕ → Edge
edge a b = record { early = a; late = b }

-- the edge where the test holds
abbrev pub given : Bool → Edge → List Edge
given test e = cond test (e ∷ []) []

-- A honeycomb is drawn as a brick wall: it has every other edge across.
abbrev pub brick : Kind → ℕ → ℕ → Bool
brick k x y = not (is_honey k) || eqb ((x + y) % 2) 0

-- A triangular cylinder has the rising diagonals, a free triangular strip the falling ones, the strip of eight neighbours both.
abbrev pub rises : Strip → Bool
rises s = is_eight s.kind || (is_tri s.kind && s.periodic)

abbrev pub falls : Strip → Bool
falls s = is_eight s.kind || (is_tri s.kind && not s.periodic)

-- There is a vertex at y + 1: round a cylinder wider than 2 it is the first.
abbrev pub has_next : Strip → ℕ → Bool
has_next s y = ltb (y + 1) s.w || (s.periodic && ltb 2 s.w)

-- ---- the local rules: what a strip has at (x, y)
abbrev pub Rule : Type 0
Rule = Strip → ℕ → ℕ → List Edge

-- to the next vertex across
unfoldable pub across : Rule
across s x y = given (ltb (y + 1) s.w && brick s.kind x y) (edge (vertex s.w x y) (vertex s.w x (y + 1)))

-- round a cylinder wider than 2, from its last vertex across to its first
unfoldable pub wrap : Rule
wrap s x y =
    given (s.periodic && eqb (y + 1) s.w && ltb 2 s.w && brick s.kind x y) (edge (vertex s.w x 0) (vertex s.w x y))

-- to the next vertex along
unfoldable pub along : Rule
along s x y = given (ltb (x + 1) s.l) (edge (vertex s.w x y) (vertex s.w (x + 1) y))

-- the diagonal from (x, y) to (x + 1, y + 1)
unfoldable pub rising : Rule
rising s x y = given (rises s && ltb (x + 1) s.l && has_next s y) (edge (vertex s.w x y) (vertex s.w (x + 1) ((y + 1) % s.w)))

-- the diagonal from (x, y + 1) to (x + 1, y)
unfoldable pub falling : Rule
falling s x y = given (falls s && ltb (x + 1) s.l && has_next s y) (edge (vertex s.w x ((y + 1) % s.w)) (vertex s.w (x + 1) y))

abbrev pub rules : List Rule
rules = across ∷ wrap ∷ along ∷ rising ∷ falling ∷ []

-- ---- the list
-- what the rules add at a site, one after the other
abbrev pub added : List Rule → Strip → ℕ → ℕ → List Edge → List Edge
added [] s x y es = es
added (r ∷ rs) s x y es = added rs s x y (es ++ r s x y)

-- the edges of the first v sites; site v is at x = v / w, y = v % w
unfoldable pub edges_below : Strip → ℕ → List Edge
edges_below s zero = []
edges_below s (suc v) = added rules s (v / s.w) (v % s.w) (edges_below s v)

abbrev pub edges : Strip → List Edge
edges s = edges_below s (s.w * s.l)

abbrev pub early_ends : List Edge → List ℕ
early_ends es = map (λ e. e.early) es

abbrev pub late_ends : List Edge → List ℕ
late_ends es = map (λ e. e.late) es

-- every magnitude is 1.0
abbrev pub one : Float
one = of_bits binary64 0x3ff0_0000_0000_0000

abbrev pub unit_magnitudes : List Edge → List Float
unit_magnitudes es = map (λ e. one) es
