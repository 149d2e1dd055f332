-- The kind that the number names, with the other numbers.
use mathlib.Core.Path.{refl}
use borrow.Author.Rules.{rules}
use Rattle.c_values.proofs.kinds.strip_numbered.Goals as goal

pub kind_numbered-requires : goal.kind_numbered-requires
kind_numbered-requires c = search rules

pub returns : goal.returns
returns c = rw c.kind_numbered.ensures refl
