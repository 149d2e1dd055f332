-- The first i doubles were compared.
use Rattle.std.proofs.Common.{◌≡◌, ◌≤◌, eqb, length, get_or}
use lib.Ieee.{binary64, to_bits, nan}
use Rattle.replay_format.specs.Words.{word_at, place_at, every}
use Rattle.replay_format.proofs.words.are_stored.Given as goal

abbrev pub invariant-loop-i : goal.invariant-loop-i
invariant-loop-i l = (l.same ≡ every (λ j. eqb (to_bits binary64 (get_or l.xs j nan)) (word_at l.list (place_at l.start j))) l.i) × (l.i ≤ length l.xs)
