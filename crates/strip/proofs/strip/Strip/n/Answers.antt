use Rattle.std.proofs.lemmas.Result.{err_from_is_err_and}
use Rattle.strip.proofs.strip.Strip.n.Goals as goal

pub returns-in_err-check_sides : goal.returns-in_err-check_sides
returns-in_err-check_sides c =
    let p = err_from_is_err_and c.from_residual.result c.from_residual.ensures.1 in
    rw (p.1, p.2) (c.in_err-check_sides.ensures.refusal, tt)

pub vertex_count-requires : goal.vertex_count-requires
vertex_count-requires c = c.in_ok-check_sides.ensures.sides.few

pub returns : goal.returns
returns c = (c.in_ok-check_sides.ensures.refusal, c.vertex_count.ensures)
