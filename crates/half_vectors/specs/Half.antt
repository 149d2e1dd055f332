-- The rules by which the steps and the sums go over the lower half h of a vector, in a window w.
use Rattle.std.specs.Prelude.{Bool, cond, ℕ, ◌+◌, ◌*◌, ◌-◌, ◌/◌, ◌^◌, min, ltb, Float}
use Rattle.std.specs.Float.Ieee.{neg}
use Rattle.list_laws.specs.Bits.{bit}
use Rattle.transfer_matrix.specs.Job.{Step}
use Rattle.transfer_matrix.specs.Rounded.{ieee}
use Rattle.transfer_matrix.specs.Sweep as S
use Rattle.half_vectors.specs.Entries.{ups, downs, blend, mix}

-- the half there and back: entries 0, 1, .., 2 ^ (w - 1) - 1, and then down to 0 again
abbrev pub there_and_back : {A : Type 0} → ℕ → (ℕ → A) → ℕ → A
there_and_back w h j = h (min j (2 ^ w - 1 - j))

-- Forward, with a from the half's front and b from its end: entry 2k is (ep a + em b) up, entry 2k + 1 is (em a + ep b) down. The coefficients
-- of b are as they are in a symmetric half, and negated in an antisymmetric one.
unfoldable pub forward_half : ℕ → Step Float → Float → (Float → Float) → (ℕ → Float) → ℕ → Float
forward_half w s sc sign h j =
    let k = j / 2 in
    let a = h k in
    let b = h (2 ^ (w - 1) - 1 - k) in
    cond (bit 0 j)
    (blend (S.em ieee s.left) (sign (S.ep ieee s.left)) (downs s sc k) a b)
    (blend (S.ep ieee s.left) (sign (S.em ieee s.left)) (ups s sc k) a b)

-- the sign of a symmetric half's coefficients, and of an antisymmetric one's
abbrev pub negated_if : Bool → Float → Float
negated_if antisymmetric x = cond antisymmetric (neg x) x

-- Backward, for a window of 2 or more, from entries 2k and 2k + 1: x and y are those times up and down; entry k is ep x + em y, and entry
-- 2 ^ (w - 1) - 1 - k is em x + ep y.
unfoldable pub backward_half : ℕ → Step Float → Float → (ℕ → Float) → ℕ → Float
backward_half w s sc h j =
    let k = min j (2 ^ (w - 1) - 1 - j) in
    cond (ltb j (2 ^ (w - 2)))
    (mix (S.ep ieee s.left) (S.em ieee s.left) (ups s sc k) (downs s sc k) (h (2 * k)) (h (2 * k + 1)))
    (mix (S.em ieee s.left) (S.ep ieee s.left) (ups s sc k) (downs s sc k) (h (2 * k)) (h (2 * k + 1)))
