-- A part that a loop fills from both ends towards the middle.
use Rattle.std.specs.Prelude.{List, ℕ, ◌-◌}
use Rattle.list_laws.specs.Tabulate.{tabulate}
use Rattle.list_laws.specs.Part.{put}

-- the first n entries of f, the last one first
unfoldable pub reversed : {A : Type 0} → ℕ → (ℕ → A) → ℕ → A
reversed n f i = f (n - 1 - i)

-- d, with n elements of f from lo up, and n of g from below hi down
abbrev pub ends : {A : Type 0} (d : List A) (lo hi : ℕ) (f g : ℕ → A) → ℕ → List A
ends d lo hi f g n = put (put d lo (tabulate f n)) (hi - n) (tabulate (reversed n g) n)
