-- Labels of the vertices, of which two are merged: those of the vertices a and b.
use Rattle.std.specs.Prelude.{cond, ℕ, eqb, ltb}

-- the vertices with a's label take b's
abbrev pub merge : (ℕ → ℕ) → ℕ → ℕ → ℕ → ℕ
merge f a b v = cond (eqb (f v) (f a)) (f b) (f v)

-- of the labels of a and b the lower stays: the vertices with the higher one take it
abbrev pub merge_lower : (ℕ → ℕ) → ℕ → ℕ → ℕ → ℕ
merge_lower f a b v = cond (ltb (f a) (f b)) (merge f b a v) (merge f a b v)
