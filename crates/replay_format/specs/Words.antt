-- The words of a stored list, and how words are mixed into one.
use Rattle.std.specs.Prelude.{ℕ, zero, suc, ◌+◌, ◌-◌, ◌*◌, Bool, true, cond, ◌&&◌, ◌||◌, List, length, bit_or, bit_xor, nat_lt, slice_index}
use Rattle.rng.specs.Word.{plus, times, shl}

-- the word whose bytes begin at a place, the lowest first; 0 where they do not all lie in the list
unfoldable pub word_at : List ℕ → ℕ → ℕ
word_at list at =
    cond (nat_lt (length list) 8 || nat_lt (length list - 8) at) 0
    (bit_or (bit_or (bit_or (bit_or (bit_or (bit_or (bit_or (slice_index list at) (shl (slice_index list (at + 1)) 8)) (shl (slice_index list (at + 2)) 16)) (shl (slice_index list (at + 3)) 24))
    (shl (slice_index list (at + 4)) 32)) (shl (slice_index list (at + 5)) 40)) (shl (slice_index list (at + 6)) 48)) (shl (slice_index list (at + 7)) 56))

-- the place some words on; no list of a record is longer than 65,536
abbrev pub place_at : ℕ → ℕ → ℕ
place_at start words = cond (nat_lt 65536 words) start (plus start (words * 8))

-- FNV-1a, a word at a time
unfoldable pub mixed : ℕ → ℕ → ℕ
mixed hash word = times (bit_xor hash word) 0x100_0000_01b3

-- the first n of some words, one after the other
unfoldable pub mixed_all : ℕ → (ℕ → ℕ) → ℕ → ℕ
mixed_all hash word zero = hash
mixed_all hash word (suc n) = mixed (mixed_all hash word n) (word n)

-- the first n tests hold
unfoldable pub every : (ℕ → Bool) → ℕ → Bool
every test zero = true
every test (suc n) = every test n && test n
