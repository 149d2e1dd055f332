-- What the answer that was told says, for the strip that the numbers name.
use Rattle.c_answers.proofs.Laws.Numbers.{told}
use borrow.Author.Rules.{rules}
use Rattle.export_strips.proofs.strips.copperhook_strip_window.Goals as goal

pub strip_numbered-requires : goal.strip_numbered-requires
strip_numbered-requires c = search rules

pub window-answer-requires : goal.window-answer-requires
window-answer-requires c = search rules

pub tell_number-requires : goal.tell_number-requires
tell_number-requires c = search rules

pub returns : goal.returns
returns c = let both = (told _ _ (rw c.strip_numbered.ensures at c.window-answer.ensures) c.tell_number.ensures) in record { value = both.0; window_after = both.1 }
