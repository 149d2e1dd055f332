-- The tests, one after the other, at the window that was found.
use Rattle.job_checks.proofs.Checking.{edges-of, kept-refused, kept-passed}
use Rattle.refusals.proofs.Laws.First.{here, past, told}
use Rattle.limits.specs.Limits.{most_window}
use Rattle.refusals.specs.declared.Refusal.TheVariants as R
use borrow.Author.Tests.{lt-ltb, le-ltb}
use mathlib.Core.Path.{refl}
use Rattle.job_checks.proofs.job.check_kept.Goals as goal

pub returns-then-window-gt-WINDOW : goal.returns-then-window-gt-WINDOW
returns-then-window-gt-WINDOW c =
    let found = c.window_of-window.ensures in
    kept-refused R.Window _ found (here _ _ _ (lt-ltb most_window _ c.if-window-gt-WINDOW.true))

pub returns-then-over_limit : goal.returns-then-over_limit
returns-then-over_limit c =
    let narrow = c in
    kept-refused R.TesterLimit _ narrow.window_of-window.ensures
    (past _ _ _ _ (le-ltb most_window _ narrow.if-window-gt-WINDOW.false) (here _ _ _ (told c.over_limit.ensures c.if-over_limit.true)))

pub too_many_near-requires : goal.too_many_near-requires
too_many_near-requires c =
    let narrow = c in
    let start = narrow in
    edges-of _ _ _ _ _ start.requires.0 narrow.window_of-window.ensures narrow.if-window-gt-WINDOW.false

pub returns-then-too_many_near : goal.returns-then-too_many_near
returns-then-too_many_near c =
    let within = c in
    let narrow = within in
    kept-refused R.BackEdges _ narrow.window_of-window.ensures
    (past _ _ _ _ (le-ltb most_window _ narrow.if-window-gt-WINDOW.false)
    (past _ _ _ _ (told within.over_limit.ensures within.if-over_limit.false)
    (here _ _ _ (told c.too_many_near.ensures c.if-too_many_near.true))))

pub returns-then-bad_edges : goal.returns-then-bad_edges
returns-then-bad_edges c =
    let near = c in
    let within = near in
    let narrow = within in
    kept-refused R.PairEnds _ narrow.window_of-window.ensures
    (past _ _ _ _ (le-ltb most_window _ narrow.if-window-gt-WINDOW.false)
    (past _ _ _ _ (told within.over_limit.ensures within.if-over_limit.false)
    (past _ _ _ _ (told near.too_many_near.ensures near.if-too_many_near.false)
    (here _ _ _ (told c.bad_edges.ensures c.if-bad_edges.true)))))

pub returns : goal.returns
returns c =
    let near = c in
    let within = near in
    let narrow = within in
    kept-passed narrow.window_of-window.ensures
    (past _ _ _ _ (le-ltb most_window _ narrow.if-window-gt-WINDOW.false)
    (past _ _ _ _ (told within.over_limit.ensures within.if-over_limit.false)
    (past _ _ _ _ (told near.too_many_near.ensures near.if-too_many_near.false)
    (past _ _ _ _ (told c.bad_edges.ensures c.if-bad_edges.false) refl))))
