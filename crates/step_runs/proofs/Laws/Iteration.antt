-- The indexes of an iteration of a run: within the slice, and held by a machine word with the bytes before them.
use Rattle.std.specs.Prelude.{◌≡◌, ℕ, ◌+◌, ◌*◌, ◌-◌, ◌%◌, ◌^◌, ◌≤◌, ◌<◌}
use Rattle.std.proofs.Common.{arith, Fits}
use Rattle.std.specs.Int.{w64}

-- x and the next are indexes of a slice of len numbers
pub record Pair (len x : ℕ) : Type 0 where
  pub at : x < len
  pub next : x + 1 < len

-- and so are eight from x on
pub record Eight (len x : ℕ) : Type 0 where
  pub at-0 : x < len
  pub at_1 : x + 1 < len
  pub at-2 : x + 2 < len
  pub at-3 : x + 3 < len
  pub at-4 : x + 4 < len
  pub at_5 : x + 5 < len
  pub at-6 : x + 6 < len
  pub at_7 : x + 7 < len

-- an iteration at place i: two places of the parts at a, b, c and d, and their eight entries at o
pub record Iteration (len a b c d o i : ℕ) : Type 0 where
  pub bytes : len * 8 < 2 ^ 63
  pub times : 4 * i < len
  pub after : i + 2 < len
  pub first : Pair len (a + i)
  pub second : Pair len (b + i)
  pub third : Pair len (c + i)
  pub fourth : Pair len (d + i)
  pub eight : Eight len (o + 4 * i)

pair_of : (len a i n : ℕ) → i + 1 < n → a + n ≤ len → Pair len (a + i)
pair_of len a i n h p = record { at = omega arith; next = omega arith }

eight-of : (len o i n : ℕ) → i + 1 < n → o + 4 * n ≤ len → Eight len (o + 4 * i)
eight-of len o i n h p =
    record {
      at-0 = omega arith;
      at_1 = omega arith;
      at-2 = omega arith;
      at-3 = omega arith;
      at-4 = omega arith;
      at_5 = omega arith;
      at-6 = omega arith;
      at_7 = omega arith;
    }

pub iteration_of : (len a b c d o i n : ℕ) → i + 1 < n → a + n ≤ len → b + n ≤ len → c + n ≤ len → d + n ≤ len → o + 4 * n ≤ len → len * 8 < 2 ^ 63
    → Iteration len a b c d o i
iteration_of len a b c d o i n h pa pb pc pd po room =
    record {
      bytes = room;
      times = omega arith;
      after = omega arith;
      first = pair_of len a i n h pa;
      second = pair_of len b i n h pb;
      third = pair_of len c i n h pc;
      fourth = pair_of len d i n h pd;
      eight = eight-of len o i n h po;
    }

-- an index is held by a machine word
pub word : {x len : ℕ} → x < len → len * 8 < 2 ^ 63 → Fits w64 x
word h b = record { fits = omega arith }

-- a loop that takes two places an iteration, of an even number
pub less_by_two : (n i : ℕ) → i + 1 < n → n - (i + 2) < n - i
less_by_two n i h = omega arith

pub even_next : (i : ℕ) → i % 2 ≡ 0 → (i + 2) % 2 ≡ 0
even_next i h = omega arith

pub two-more : (n i : ℕ) → i + 1 < n → i + 2 ≤ n
two-more n i h = omega arith
