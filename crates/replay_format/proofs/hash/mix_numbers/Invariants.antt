-- The first i words are mixed in.
use Rattle.std.proofs.Common.{◌≡◌, ◌≤◌, length, get_or}
use Rattle.replay_format.specs.Words.{mixed_all}
use Rattle.replay_format.proofs.hash.mix_numbers.Given as goal

abbrev pub invariant-loop-x : goal.invariant-loop-x
invariant-loop-x l = (l.h ≡ mixed_all l.hash (λ j. get_or l.xs j 0) l.x-index) × (l.x-index ≤ length l.xs)
