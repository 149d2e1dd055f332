-- The first i words are mixed in.
use Rattle.std.proofs.Common.{◌≡◌, ◌≤◌, length, get_or}
use lib.Ieee.{binary64, to_bits, nan}
use Rattle.replay_format.specs.Words.{mixed_all}
use Rattle.replay_format.proofs.hash.mix_doubles.Given as goal

abbrev pub invariant-loop-x : goal.invariant-loop-x
invariant-loop-x l = (l.h ≡ mixed_all l.hash (λ j. to_bits binary64 (get_or l.xs j nan)) l.x-index) × (l.x-index ≤ length l.xs)
