-- The first i entries are loaded.
use Rattle.std.proofs.Common.{◌≡◌, ◌≤◌, length}
use Rattle.replay_format.specs.Words.{word_at, place_at}
use Rattle.list_laws.specs.Front.{over}
use Rattle.list_laws.specs.Tabulate.{tabulate}
use Rattle.replay_format.proofs.words.load_numbers.Given as goal

abbrev pub invariant-loop-i : goal.invariant-loop-i
invariant-loop-i l = (l.out ≡ over (tabulate (λ j. word_at l.list (place_at l.start j)) l.i) l.initial.out) × (l.i ≤ length l.initial.out) × (length l.out ≡ length l.initial.out)
