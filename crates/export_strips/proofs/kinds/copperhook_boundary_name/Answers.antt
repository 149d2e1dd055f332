-- The boundary of a strip is named by whether it is periodic alone.
use borrow.Author.Rules.{rules}
use Rattle.export_strips.proofs.kinds.copperhook_boundary_name.Goals as goal

pub strip_numbered-s-requires : goal.strip_numbered-s-requires
strip_numbered-s-requires c = search rules

pub bc-word-requires : goal.bc-word-requires
bc-word-requires c = search rules

pub returns : goal.returns
returns c = let e = rw c.strip_numbered-s.ensures at c.bc-word.ensures in (e.1, e.0)
