-- The pairs are answered; then the room is cleared, and the results where a Z is not sound.
use mathlib.Core.Path.{ap, ◌∙◌}
use Rattle.job_run.specs.Zeros.{zeros}
use Rattle.job_run.proofs.Running.{all_sound, one-unsound}
use Rattle.job_run.proofs.planned.run.Goals as goal

pub returns-then-not-sound : goal.returns-then-not-sound
returns-then-not-sound c =
    let s = c in
    let a = c.sweep_and_answer-sound in
    let room = c.clear.ensures ∙ ap zeros a.ensures.same_from.same in
    let z = c.clear-then-not-sound.ensures ∙ ap zeros (a.auto.results ∙ s.requires.4) in
    record { room_after = room; value = one-unsound s.args.plan.now s.args.us.now s.args.vs.now s.args.room.now _ _ _ _ _ _ _ a.ensures.outcome _ _ c.if-not-sound.true z }

pub returns-else-not-sound : goal.returns-else-not-sound
returns-else-not-sound c =
    let s = c in
    let a = c.sweep_and_answer-sound in
    let room = c.clear.ensures ∙ ap zeros a.ensures.same_from.same in
    record { room_after = room; value = all_sound s.args.plan.now s.args.us.now s.args.vs.now s.args.room.now _ _ _ _ _ _ _ a.ensures.outcome _ c.if-not-sound.false }
