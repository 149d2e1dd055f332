-- xoshiro256++, from Blackman and Vigna's published description, seeded by splitmix64 as they advise. The state is a list of four words.
use Rattle.std.specs.Prelude.{ℕ, List, [], ◌∷◌, bit_xor, slice_index}
use Rattle.rng.specs.Word.{plus, times, shl, rotl}
use Rattle.rng.specs.SplitMix.{advance, mix}

-- s[i]
abbrev pub word : List ℕ → ℕ → ℕ
word s i = slice_index s i

-- output = rotl(s[0] + s[3], 23) + s[0]
abbrev pub output : List ℕ → ℕ
output s = plus (rotl (plus (word s 0) (word s 3)) 23) (word s 0)

-- t = s[1] << 17; s[2] ^= s[0]; s[3] ^= s[1]; s[1] ^= s[2]; s[0] ^= s[3]; s[2] ^= t; s[3] = rotl(s[3], 45)
abbrev pub next : List ℕ → List ℕ
next s =
    let t = shl (word s 1) 17 in
    let s2 = bit_xor (word s 2) (word s 0) in
    let s3 = bit_xor (word s 3) (word s 1) in
    let s1 = bit_xor (word s 1) s2 in
    let s0 = bit_xor (word s 0) s3 in
    s0 ∷ s1 ∷ bit_xor s2 t ∷ rotl s3 45 ∷ []

-- the state of a seed: the next four words of splitmix64
unfoldable pub seeded : ℕ → List ℕ
seeded seed =
    let a = advance seed in
    let b = advance a in
    let c = advance b in
    let d = advance c in
    mix a ∷ mix b ∷ mix c ∷ mix d ∷ []

-- the state of the stream (seed, index): the second word of splitmix64 from seed ^ index * 0xd1b54a32d192ed03, xor the index, is its seed
unfoldable pub streamed : ℕ → ℕ → List ℕ
unfolding seeded
streamed seed index = seeded (bit_xor (mix (advance (advance (bit_xor seed (times index 0xd1b54a32d192ed03))))) index)
