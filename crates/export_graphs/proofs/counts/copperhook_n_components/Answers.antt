-- What the answer that was told says.
use Rattle.c_answers.proofs.Laws.Numbers.{told}
use borrow.Author.Rules.{rules}
use Rattle.export_graphs.proofs.counts.copperhook_n_components.Goals as goal

pub n_components-answer-requires : goal.n_components-answer-requires
n_components-answer-requires c = search rules

pub tell_number-requires : goal.tell_number-requires
tell_number-requires c = search rules

pub returns : goal.returns
returns c =
    let answered = c.n_components-answer.ensures in
    let t = told _ _ answered.value c.tell_number.ensures in
    record { value = t.0; count_after = t.1; component_marks = rw t.0 answered.component_marks }
