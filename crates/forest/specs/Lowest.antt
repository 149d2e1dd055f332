-- The lowest vertex of each component: by paths, by labels of which the lower stays, and as one bit of sixteen words.
use Rattle.std.specs.Prelude.{◌≡◌, Bool, true, false, cond, ◌&&◌, List, ℕ, zero, suc, ◌+◌, ◌*◌, ◌/◌, ◌%◌, ◌^◌, ◌≤◌, ◌<◌, eqb, ltb, length, get_or}
use Rattle.list_laws.specs.Tabulate.{tabulate}
use Rattle.limits.specs.Limits.{most_vertices}
use Rattle.union_find.specs.Merging.{merge_lower}
use Rattle.forest.specs.Paths.{end, Joined}

-- the lowest vertex that the first i edges join with v
unfoldable pub lowest : List ℕ → List ℕ → ℕ → ℕ → ℕ
lowest early late zero v = v
lowest early late (suc i) v = merge_lower (lowest early late i) (end early i) (end late i) v

-- whether v is one of n vertices and the lowest of its component
abbrev pub is_lowest : ℕ → List ℕ → List ℕ → ℕ → Bool
is_lowest n early late v = ltb v n && eqb (lowest early late (length early) v) v

-- the number whose j bits are the tests from v on, the lowest bit first
unfoldable pub bits : (ℕ → Bool) → ℕ → ℕ → ℕ
bits test v zero = 0
bits test v (suc j) = cond (test v) 1 0 + 2 * bits test (v + 1) j

-- sixteen words: vertex v is bit v mod 64 of word v / 64
abbrev pub lowest_marks : ℕ → List ℕ → List ℕ → List ℕ
lowest_marks n early late = tabulate (λ k. bits (is_lowest n early late) (64 * k) 64) 16

-- whether the bit of v is set
abbrev pub marked : List ℕ → ℕ → Bool
marked words v = eqb ((get_or words (v / 64) 0 / 2 ^ (v % 64)) % 2) 1

-- A bit is set exactly where no path joins its vertex with a lower one; past the last vertex none is set.
pub record MarksLowest (n : ℕ) (early late words : List ℕ) : Type 0 where
  pub sixteen : length words ≡ 16
  pub set : (v : ℕ) → v < n → marked words v ≡ true → (u : ℕ) → u < v → Joined early late (length early) u v → ⊥
  pub clear : (v : ℕ) → v < n → marked words v ≡ false → (u : ℕ) × (u < v) × Joined early late (length early) u v
  pub past : (v : ℕ) → n ≤ v → v < most_vertices → marked words v ≡ false
