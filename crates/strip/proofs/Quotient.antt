-- A product compared by a quotient.
use mathlib.Core.Path.{◌≡◌, sym, ◌∙◌}
use Prim.Native.Nat.{ℕ, ◌*◌, ◌/◌, ◌≤◌, ◌<◌}
use native.Mathlib.Nat.{div-lt_iff_lt-mul, le-div_iff_mul-le, mul_comm}
use native.Mathlib.Decide.{dec_lt}
use native.Mathlib.Omega.{arith}
use lib.Dec.{ltb}
use borrow.Author.Tests.{lt-ltb, le-ltb}

pub quotient_test : (w l : ℕ) → 0 < w → ltb (1024 / w) l ≡ ltb 1024 (w * l)
quotient_test w l p = go (dec_lt (1024 / w) l)
  where
    go : Dec (1024 / w < l) → ltb (1024 / w) l ≡ ltb 1024 (w * l)
    go (yes h) = lt-ltb _ _ h ∙ sym (lt-ltb 1024 (w * l) (rw mul_comm ((div-lt_iff_lt-mul p).0 h)))
    go (no h) =
        let b : l ≤ 1024 / w = omega arith in
        le-ltb _ _ b ∙ sym (le-ltb 1024 (w * l) (rw mul_comm ((le-div_iff_mul-le p).0 b)))
