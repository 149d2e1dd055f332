-- Computed facts that rule out wrong readings: where a factor is lent, the rooms of two pairs, the chunks of a total, and the words of a sample.
use Rattle.std.specs.Prelude.{◌≡◌, refl, true, false, cond, [], ◌∷◌, ℕ, ◌+◌, ◌^◌, eqb, pos, negsuc, Float}
use Rattle.std.specs.Float.{fin, binary64}
use Rattle.std.specs.Float.Ieee.{round, add, mul, of_bits}
use Rattle.rng.specs.Xoshiro.{output, next, streamed}
use Rattle.list_laws.specs.Bits.{bit}
use Rattle.transfer_matrix.specs.Room.{room, keep_all, less_room}
use Rattle.transfer_matrix.specs.Configuration.{lent_at, sampled_minus}
use Rattle.transfer_matrix.specs.Totals.{chunk_size, chunk_count, chunked, fourth, sampled_count}
use Rattle.transfer_matrix.specs.Rounded.{ieee}

-- At beta 1 the last of four kept edges has factor 14 for sign plus, and next to it the one for minus.
pub minus-next-to-plus : (lent_at 4 1 3 false ≡ 14) × (lent_at 4 1 3 true ≡ 15)
minus-next-to-plus = (refl, refl)

-- Four vertices, window 2, three kept edges, pairs 3-0 (propagated) and 0-1 (direct): two vectors move, forward vectors are kept at 0, 1 and 3, backward ones at 1 and 3.
pub room-of-two-pairs : room keep_all 4 2 3 (3 ∷ 0 ∷ []) (0 ∷ 1 ∷ []) ≡ 35
unfolding room
room-of-two-pairs = refl

-- In less room the same job keeps a backward vector at 3 alone.
pub less_room_of_two_pairs : room less_room 4 2 3 (3 ∷ 0 ∷ []) (0 ∷ 1 ∷ []) ≡ 31
unfolding room
less_room_of_two_pairs = refl

-- Chunks of 1,024 configurations, or all if fewer.
pub small_chunk : (chunk_size 3 ≡ 8) × (chunk_count 3 ≡ 1)
small_chunk = (refl, refl)

pub large_chunks : (chunk_size 12 ≡ 1024) × (chunk_count 12 ≡ 4)
large_chunks = (refl, refl)

-- 1 in the first of two chunks, 2 ^ -53 twice in the second. Chunk by chunk the second's sum counts; in one run each would be rounded away.
abbrev terms : ℕ → ℕ → Float
terms i j = cond (eqb i 1) (fin false 1 (negsuc 52)) (cond (eqb j 0) (fin false 1 (pos 0)) (fin false 0 (pos 0)))

pub chunk_by_chunk : chunked ieee 2 2 terms ≡ round binary64 false (2 ^ 52 + 1) (2 ^ 52)
unfolding chunked add round
chunk_by_chunk = refl

-- The fourth power of 0.1 is the square's square, rounded at every product; by three products in a row the last bit is another.
pub square-of-square : fourth ieee (of_bits binary64 0x3fb9_9999_9999_999a) ≡ of_bits binary64 0x3f1a_36e2_eb1c_4330
unfolding mul round of_bits
square-of-square = refl

-- No chunk where the end isn't above the start.
pub no_chunk : (sampled_count 7 7 100 ≡ 0) × (sampled_count 9 7 100 ≡ 0)
no_chunk = (refl, refl)

-- 65 kept edges take two words a sample: edge 64 of sample 1 is the lowest bit of the fourth word of the chunk's stream.
pub fourth-word : sampled_minus 5 65 6 1 64 ≡ bit 0 (output (next (next (next (streamed 5 6)))))
unfolding sampled_minus
fourth-word = refl
