-- Records one after another, and what stands at a place of some bytes.
use Rattle.std.specs.Prelude.{◌≡◌, List, [], ◌++◌, ℕ, zero, suc, length}
use Rattle.list_laws.specs.Part.{part}

-- the bytes of the records 0 to n - 1, one after another
unfoldable pub rows : (record' : ℕ → List ℕ) → (n : ℕ) → List ℕ
rows f zero = []
rows f (suc n) = rows f n ++ f n

-- these bytes stand at a place
pub record Stand (bytes : List ℕ) (place : ℕ) (these : List ℕ) : Type 0 where
  pub there : part bytes place (length these) ≡ these
