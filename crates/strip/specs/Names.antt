-- The names of kinds and boundaries.
use Rattle.std.specs.Prelude.{Option, Some, None, Bool, true, false, cond, ◌||◌, ◌&&◌, List, [], ◌∷◌, ◌++◌, ℕ, eqb, take, replicate}
use Prim.Native.String.{String}
use Rattle.strip.specs.Spelling.{spelled}
use Rattle.strip.specs.declared.kinds.Kind.{Kind}
use Rattle.strip.specs.declared.kinds.Kind.TheVariants.{Square, Tri, Honey, Eight}

-- whether two lists are one
abbrev pub same : List ℕ → List ℕ → Bool
same [] [] = true
same [] (y ∷ ys) = false
same (x ∷ xs) [] = false
same (x ∷ xs) (y ∷ ys) = eqb x y && same xs ys

abbrev pub is_word : List ℕ → String → Bool
is_word name word = same name (spelled word)

unfoldable pub parsed : List ℕ → Option Kind
parsed name =
    cond (is_word name "square" || is_word name "sq") (Some Square)
    (cond (is_word name "tri" || is_word name "triangular") (Some Tri)
    (cond (is_word name "honey" || is_word name "honeycomb" || is_word name "hex") (Some Honey)
    (cond (is_word name "eight") (Some Eight)
    None)))

abbrev pub name_of : Kind → List ℕ
name_of Square = spelled "square"
name_of Tri = spelled "tri"
name_of Honey = spelled "honey"
name_of Eight = spelled "eight"

abbrev pub boundary_of : Bool → List ℕ
boundary_of true = spelled "cyl"
boundary_of false = spelled "free"

-- a word in six bytes
abbrev pub padded : List ℕ → List ℕ
padded word = take 6 (word ++ replicate 6 0)
