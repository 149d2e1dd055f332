-- The edges of a strip on their way into three buffers.
use Rattle.std.specs.Prelude.{◌≡◌, Bool, ◌||◌, List, ◌++◌, ℕ, ◌+◌, ◌≤◌, ltb, Float, length}
use Rattle.list_laws.specs.Front.{over}
use Rattle.strip.specs.declared.strip.Strip.{Strip}
use Rattle.strip_bonds.specs.declared.Edge.{Edge}
use Rattle.strip_bonds.specs.Edges.{rules, added, early_ends, late_ends, unit_magnitudes}

-- k edges were written to the fronts of three buffers; what lies past them stayed
pub record Written (es : List Edge) (k : ℕ) (early early' late late' : List ℕ) (mag mag' : List Float) : Type 0 where
  pub number : k ≡ length es
  pub earlies : early' ≡ over (early_ends es) early
  pub lates : late' ≡ over (late_ends es) late
  pub mags : mag' ≡ over (unit_magnitudes es) mag

-- three buffers kept their lengths
pub record Sized (early early' late late' : List ℕ) (mag mag' : List Float) : Type 0 where
  pub earlies : length early' ≡ length early
  pub lates : length late' ≡ length late
  pub mags : length mag' ≡ length mag

-- edges more behind the first k, whatever these are
pub record Placed (more : List Edge) (k k' : ℕ) (early early' late late' : List ℕ) (mag mag' : List Float) : Type 0 where
  pub number : k' ≡ k + length more
  pub sized : Sized early early' late late' mag mag'
  pub then : (es : List Edge) (early₀ late₀ : List ℕ) (mag₀ : List Float)
      → Written es k early₀ early late₀ late mag₀ mag → Written (es ++ more) k' early₀ early' late₀ late' mag₀ mag'

-- and those of a site
abbrev pub Placing : Strip → ℕ → ℕ → ℕ → ℕ → List ℕ → List ℕ → List ℕ → List ℕ → List Float → List Float → Type 0
Placing s x y k k' early early' late late' mag mag' =
    (es : List Edge) (early₀ late₀ : List ℕ) (mag₀ : List Float)
    → Written es k early₀ early late₀ late mag₀ mag → Written (added rules s x y es) k' early₀ early' late₀ late' mag₀ mag'

-- the buffers hold at least k
pub record Holds (k : ℕ) (early late : List ℕ) (mag : List Float) : Type 0 where
  pub earlies : k ≤ length early
  pub lates : k ≤ length late
  pub mags : k ≤ length mag

-- k edges do not fit into three buffers
abbrev pub too_short : ℕ → List ℕ → List ℕ → List Float → Bool
too_short k early late mag = ltb (length early) k || ltb (length late) k || ltb (length mag) k
