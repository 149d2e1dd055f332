use Rattle.totals_chunks.proofs.Adding.{size-some}
use borrow.Author.Rules.{rules}
use Rattle.totals_chunks.proofs.all_chunks.Goals as goal

pub pow2-all-requires : goal.pow2-all-requires
pow2-all-requires c = search rules

pub chunk_size-size-requires : goal.chunk_size-size-requires
chunk_size-size-requires c = search rules

pub nonzero_div-result : goal.nonzero_div-result
nonzero_div-result c = rw (c.chunk_size-size.ensures, c.pow2-all.ensures) (size-some _)

pub returns : goal.returns
returns c = rw (c.chunk_size-size.ensures, c.pow2-all.ensures)
