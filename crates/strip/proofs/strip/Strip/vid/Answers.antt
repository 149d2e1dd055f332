use Rattle.std.proofs.lemmas.Result.{err_from_is_err_and}
use native.Mathlib.Omega.{arith}
use Rattle.strip.proofs.Siting.{beyond, beside, within, small}
use Rattle.strip.proofs.strip.Strip.vid.Goals as goal

pub returns-in_err-check_sides : goal.returns-in_err-check_sides
returns-in_err-check_sides c =
    let p = err_from_is_err_and c.from_residual.result c.from_residual.ensures.1 in
    rw (p.1, p.2) (c.in_err-check_sides.ensures.refusal, tt)

pub returns-then-self-x : goal.returns-then-self-x
returns-then-self-x c = (c.in_ok-check_sides.ensures.refusal, beyond c.args.self _ _ (omega arith))

pub returns-then-self-y : goal.returns-then-self-y
returns-then-self-y c = (c.in_ok-check_sides.ensures.refusal, beside c.args.self _ _ (omega arith))

pub vertex_at-requires : goal.vertex_at-requires
vertex_at-requires c =
    let a = c.args in
    small a.self a.x a.y c.in_ok-check_sides.ensures.sides (omega arith) (omega arith)

pub returns : goal.returns
returns c = (c.in_ok-check_sides.ensures.refusal, within c.args.self _ _ _ (omega arith) (omega arith) c.vertex_at.ensures)
