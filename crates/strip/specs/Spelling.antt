-- Words as their bytes.
use Rattle.std.specs.Prelude.{List, [] as none, ◌∷◌ as ◌then◌, ℕ}
use Prim.Native.Char.{code}
use Prim.Native.String.{String, [], ◌∷◌}

-- the bytes of a word in plain letters
abbrev pub spelled : String → List ℕ
spelled [] = none
spelled (c ∷ word) = code c then spelled word
