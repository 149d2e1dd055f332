-- A double above zero by the fields of its bit pattern, and where the digits of its root start.
use Rattle.std.specs.Prelude.{◌≡◌, ℕ, zero, suc, ◌+◌, ◌*◌, ◌^◌, ◌≤◌, ◌<◌}
use Rattle.std.specs.Float.{binary64}
use Rattle.sqrt.specs.Sqrt.{doubled_square}

-- the exponent's field and the digits below the leading one, of a finite number above zero
pub record Fields (exponent digits : ℕ) : Type 0 where
  pub finite : exponent < 2047
  pub short : digits < 2 ^ 52
  pub above : 0 < exponent + digits

-- how many of the smallest values they stand for
abbrev pub magnitude : ℕ → ℕ → ℕ
magnitude zero digits = digits
magnitude (suc exponent) digits = (2 ^ 52 + digits) * 2 ^ exponent

-- x is n smallest values, and √x is √(m * 2 ^ 54) halves of 2 ^ k of them
pub record Placed (n m k : ℕ) : Type 0 where
  pub some : 0 < n
  pub same : m * 2 ^ 54 * (2 ^ k * 2 ^ k) ≡ doubled_square binary64 n
  pub small : m + 2 ≤ 2 ^ 54
  pub positive : 0 < m
  pub low : k ≤ 1533
