-- splitmix64, from Vigna's published description: the state grows by a constant, and each state is mixed into a word.
use Rattle.std.specs.Prelude.{ℕ, bit_xor}
use Rattle.rng.specs.Word.{plus, times, shr}

-- x += 0x9e3779b97f4a7c15
unfoldable pub advance : ℕ → ℕ
advance x = plus x 0x9e3779b97f4a7c15

-- z = (z ^ (z >> 30)) * 0xbf58476d1ce4e5b9; z = (z ^ (z >> 27)) * 0x94d049bb133111eb; z ^ (z >> 31)
unfoldable pub mix : ℕ → ℕ
mix z =
    let z = times (bit_xor z (shr z 30)) 0xbf58476d1ce4e5b9 in
    let z = times (bit_xor z (shr z 27)) 0x94d049bb133111eb in
    bit_xor z (shr z 31)
