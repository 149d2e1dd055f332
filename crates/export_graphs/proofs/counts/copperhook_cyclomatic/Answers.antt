-- What the answer that was told says.
use Rattle.c_answers.proofs.Laws.Numbers.{told}
use borrow.Author.Rules.{rules}
use Rattle.export_graphs.proofs.counts.copperhook_cyclomatic.Goals as goal

pub cyclomatic-answer-requires : goal.cyclomatic-answer-requires
cyclomatic-answer-requires c = search rules

pub tell_number-requires : goal.tell_number-requires
tell_number-requires c = search rules

pub returns : goal.returns
returns c = let both = (told _ _ c.cyclomatic-answer.ensures c.tell_number.ensures) in record { value = both.0; free_after = both.1 }
