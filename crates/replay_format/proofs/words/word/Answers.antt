-- The bytes, where they all lie in the list.
use Rattle.std.proofs.Common.{◌≡◌, ℕ, ◌+◌, ◌-◌, ◌≤◌, List, length, get_or, le-ltb, lt-ltb}
use lib.Bits.{bit_or}
use Rattle.rng.specs.Word.{shl}
use Rattle.replay_format.specs.Words.{word_at}
use Rattle.replay_format.proofs.words.word.Goals as goal

whole_word : (list : List ℕ) (at : ℕ) {a b c d e f g h : ℕ} → 8 ≤ length list → at ≤ length list - 8
    → a ≡ get_or list at 0 → b ≡ get_or list (at + 1) 0 → c ≡ get_or list (at + 2) 0 → d ≡ get_or list (at + 3) 0
    → e ≡ get_or list (at + 4) 0 → f ≡ get_or list (at + 5) 0 → g ≡ get_or list (at + 6) 0 → h ≡ get_or list (at + 7) 0
    → bit_or (bit_or (bit_or (bit_or (bit_or (bit_or (bit_or a (shl b 8)) (shl c 16)) (shl d 24)) (shl e 32)) (shl f 40)) (shl g 48)) (shl h 56) ≡ word_at list at
unfolding word_at
whole_word list at p q a b c d e f g h = rw (le-ltb _ _ p, le-ltb _ _ q, a, b, c, d, e, f, g, h)

pub returns-then-list-lt8 : goal.returns-then-list-lt8
unfolding word_at
returns-then-list-lt8 c = rw (lt-ltb _ _ c.if-list-lt8.true)

pub returns-then-list-at : goal.returns-then-list-at
unfolding word_at
returns-then-list-at c = rw (le-ltb _ _ c.if-list-lt8.false, lt-ltb _ _ c.if-list-at.true)

pub returns : goal.returns
returns c = whole_word _ _ c.if-list-lt8.false c.if-list-at.false c.wide.ensures c.wide-2.ensures c.wide-3.ensures c.wide-4.ensures c.wide-5.ensures c.wide-6.ensures c.wide-7.ensures c.wide-8.ensures
