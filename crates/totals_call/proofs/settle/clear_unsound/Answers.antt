use mathlib.Core.Path.{refl}
use borrow.Author.Tests.{not-true, not-false}
use borrow.Author.Rules.{rules}
use Rattle.totals_call.proofs.settle.clear_unsound.Goals as goal

pub clear-requires : goal.clear-requires
clear-requires c = search rules

pub returns-then-not-sound : goal.returns-then-not-sound
returns-then-not-sound c = rw (not-true c.args.sound c.if-not-sound.true-raw) c.clear.ensures

pub returns-else-not-sound : goal.returns-else-not-sound
returns-else-not-sound c = rw (not-false c.args.sound c.if-not-sound.false-raw) refl
