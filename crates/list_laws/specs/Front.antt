-- A buffer with a list written to its front: what lies past the list stays.
use Rattle.std.specs.Prelude.{List, ◌++◌, length, drop}

module _ {A : Type 0} where
  abbrev pub over : List A → List A → List A
  over front buffer = front ++ drop (length front) buffer
