-- What the answer that was told says, for the strip that the numbers name.
use Rattle.export_strips.proofs.Told.{vertex-told}
use borrow.Author.Rules.{rules}
use Rattle.c_answers.proofs.Laws.Found.{vertex as told-vertex}
use Rattle.export_strips.proofs.strips.copperhook_strip_vid.Goals as goal

pub strip_numbered-s-requires : goal.strip_numbered-s-requires
strip_numbered-s-requires c = search rules

pub vid-answer-requires : goal.vid-answer-requires
vid-answer-requires c = search rules

pub tell_found-requires : goal.tell_found-requires
tell_found-requires c = search rules

pub returns : goal.returns
returns c =
    let e = rw c.strip_numbered-s.ensures at c.vid-answer.ensures in
    let t = vertex-told _ _ e (told-vertex c.tell_found.ensures) in
    record { value = t.0; inside_after = t.1; vertex_after = t.2 }
