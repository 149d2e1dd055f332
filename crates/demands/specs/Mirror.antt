-- The mirror rule: where every spin is flipped, index k becomes 2^window - 1 - k. What it says of the vectors of one job and its pairs; and of the halves in
-- the room, which stand for these vectors and for no others.
use Rattle.std.specs.Prelude.{◌≡◌, List, ℕ, ◌+◌, ◌*◌, ◌-◌, ◌^◌, ◌≤◌, ◌<◌, T, Float, length, get_or}
use Rattle.std.specs.Float.{nan}
use Rattle.std.specs.Float.Ieee.{neg, eq}
use Rattle.rounding.specs.Alike.{Alike}
use Rattle.transfer_matrix.specs.Job.{Job}
use Rattle.transfer_matrix.specs.Room.{earlier, later}
use Rattle.transfer_matrix.specs.Rounded.{ieee}
use Rattle.transfer_matrix.specs.Sweep as S

-- The index of window w with every spin flipped.
abbrev pub mirror : ℕ → ℕ → ℕ
mirror w k = 2 ^ w - 1 - k

-- Of the definition with each operation rounded. `eq` compares as numbers: zeros of either sign are equal, and a NaN equals nothing.
pub record Mirrored (J : Job Float) (us vs : List ℕ) : Type 0 where
  -- Each forward vector up to a pair's later vertex, so each that is kept or used for a pair, has equal entries at k and at its mirror,
  pub forward : (i : ℕ) → i < length us → (t k : ℕ) → t ≤ later us vs i → k < 2 ^ J.window
      → T (eq (S.at ieee (S.forward ieee J t) k) (S.at ieee (S.forward ieee J t) (mirror J.window k)))
  -- so has the backward vector at the later vertex, kept or used in passing,
  pub backward : (i : ℕ) → i < length us → (k : ℕ) → k < 2 ^ J.window
      → T (eq (S.at ieee (S.backward ieee J (later us vs i)) k) (S.at ieee (S.backward ieee J (later us vs i)) (mirror J.window k)))
  -- and each propagated vector, from the earlier vertex on up to its last pair, has opposite ones.
  pub propagated : (i : ℕ) → i < length us → (t k : ℕ) → earlier us vs i + t ≤ later us vs i → k < 2 ^ J.window
      → T (eq (S.at ieee (S.propagated ieee J (earlier us vs i) t) k) (neg (S.at ieee (S.propagated ieee J (earlier us vs i) t) (mirror J.window k))))
  -- At every vertex, whatever overflows: forward and backward entries are the same bits,
  pub forward-same : (t k : ℕ) → k < 2 ^ J.window → S.at ieee (S.forward ieee J t) k ≡ S.at ieee (S.forward ieee J t) (mirror J.window k)
  pub backward-same : (t k : ℕ) → k < 2 ^ J.window → S.at ieee (S.backward ieee J t) k ≡ S.at ieee (S.backward ieee J t) (mirror J.window k)
  -- and propagated ones the negated bits, but for the signs of zeros.
  pub propagated_alike : (u t k : ℕ) → k < 2 ^ J.window
      → Alike (S.at ieee (S.propagated ieee J u t) k) (neg (S.at ieee (S.propagated ieee J u t) (mirror J.window k)))

-- What lies at place p is the lower half of the vector v, bit for bit, and so is v's upper half from its end.
pub record LowerHalf (r : List Float) (w p : ℕ) (v : List Float) : Type 0 where
  pub low : (j : ℕ) → j < 2 ^ (w - 1) → get_or r (p * 2 ^ w + j) nan ≡ S.at ieee v j
  pub high : (j : ℕ) → j < 2 ^ (w - 1) → get_or r (p * 2 ^ w + j) nan ≡ S.at ieee v (mirror w j)

-- What lies at place p is, but for the signs of zeros, the lower half of the vector v, and v's upper half from its end is the negative of it.
pub record LowerHalfAlike (r : List Float) (w p : ℕ) (v : List Float) : Type 0 where
  pub low : (j : ℕ) → j < 2 ^ (w - 1) → Alike (get_or r (p * 2 ^ w + j) nan) (S.at ieee v j)
  pub high : (j : ℕ) → j < 2 ^ (w - 1) → Alike (get_or r (p * 2 ^ w + j) nan) (neg (S.at ieee v (mirror w j)))
