-- The marks, and how many are set.
use mathlib.Core.Bool.{false}
use native.Mathlib.Omega.{arith}
use lib.ListN.{get_or}
use Rattle.list_laws.proofs.Laws.Count.{count_most}
use Rattle.pair_places.proofs.Laws.Places.{pairs_wider}
use Rattle.pair_places.proofs.Numbers.{marks-count}
use Rattle.pair_places.proofs.Marks.{unmarked}
use Rattle.pair_places.proofs.kept.count_places.Goals as goal

pub mark_forward-requires : goal.mark_forward-requires
mark_forward-requires c =
    let s = c in
    (pairs_wider _ _ _ _ s.requires.1 s.requires.0, unmarked 1024)

pub mark_backward-requires : goal.mark_backward-requires
mark_backward-requires c =
    let s = c in
    (pairs_wider _ _ _ _ s.requires.1 s.requires.0, unmarked 1024)

pub overflow_add-result : goal.overflow_add-result
overflow_add-result c =
    let mark-forward = c.mark_forward in
    let s = c in
    omega (arith, c.count_marks.ensures, s.requires.1, count_most (λ t. get_or mark-forward.new.marks t false) s.args.n)

pub overflow_add-result-2 : goal.overflow_add-result-2
overflow_add-result-2 c =
    let f = c.mark_forward.new.marks in
    let b = c.mark_backward.new.marks in
    let s = c in
    let f-most = count_most (λ t. get_or f t false) s.args.n in
    let b-most = count_most (λ t. get_or b t false) s.args.n in
    omega (arith, c.count_marks-2.ensures, c.count_marks.ensures, s.requires.1)

pub returns : goal.returns
returns c =
    let count-marks = c.count_marks in
    let s = c in
    let f = marks-count _ _ c.mark_forward.ensures s.args.n in
    let b = marks-count _ _ c.mark_backward.ensures s.args.n in
    omega (arith, count-marks.ensures, c.count_marks-2.ensures)
