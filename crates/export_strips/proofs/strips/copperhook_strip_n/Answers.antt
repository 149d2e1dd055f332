-- What the answer that was told says, for the strip that the numbers name.
use Rattle.c_answers.proofs.Laws.Numbers.{told}
use borrow.Author.Rules.{rules}
use Rattle.export_strips.proofs.strips.copperhook_strip_n.Goals as goal

pub strip_numbered-s-requires : goal.strip_numbered-s-requires
strip_numbered-s-requires c = search rules

pub n-answer-requires : goal.n-answer-requires
n-answer-requires c = search rules

pub tell_number-requires : goal.tell_number-requires
tell_number-requires c = search rules

pub returns : goal.returns
returns c = let both = (told _ _ (rw c.strip_numbered-s.ensures at c.n-answer.ensures) c.tell_number.ensures) in record { value = both.0; n_after = both.1 }
