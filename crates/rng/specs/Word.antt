-- Words of 64 bits, as numbers below 2 ^ 64: the operations that the published generators are written in.
use Rattle.std.specs.Prelude.{ℕ, ◌+◌, ◌-◌, ◌*◌, ◌/◌, ◌%◌, ◌^◌, bit_or}

-- a + b, which wraps at 64 bits
abbrev pub plus : ℕ → ℕ → ℕ
plus a b = (a + b) % 2 ^ 64

-- a * b, which wraps at 64 bits
abbrev pub times : ℕ → ℕ → ℕ
times a b = (a * b) % 2 ^ 64

-- x << k
abbrev pub shl : ℕ → ℕ → ℕ
shl x k = (x * 2 ^ k) % 2 ^ 64

-- x >> k
abbrev pub shr : ℕ → ℕ → ℕ
shr x k = x / 2 ^ k

-- rotl(x, k): (x << k) | (x >> (64 - k))
abbrev pub rotl : ℕ → ℕ → ℕ
rotl x k = bit_or (shl x k) (shr x (64 - k))
