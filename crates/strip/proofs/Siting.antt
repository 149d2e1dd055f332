-- What a caller is told of a site, from what was found.
use mathlib.Core.Path.{◌≡◌, refl, ap}
use mathlib.Core.Bool.{Bool, true, false, ◌&&◌}
use Prim.Native.Nat.{ℕ, ◌+◌, ◌*◌, ◌≤◌, ◌<◌}
use native.Mathlib.Nat.{mul-le-mul_right, mul_comm}
use native.Mathlib.Omega.{arith}
use lib.Dec.{ltb}
use borrow.Author.Tests.{le-ltb, lt-ltb}
use Rattle.strip.specs.Vertices.{vertex, sited}
use Rattle.strip.specs.Sides.{Sides}
use Rattle.strip.specs.declared.strip.Strip.{Strip}
use Rattle.std.specs.Prelude.{Some, None}

module _ (s : Strip) (x y : ℕ) where
  pub beyond : s.l ≤ x → None ≡ sited s x y
  beyond h = rw (le-ltb x s.l h)

  pub beside : s.w ≤ y → None ≡ sited s x y
  beside h = rw (le-ltb y s.w h, off (ltb x s.l))
    where
      off : (b : Bool) → (b && false) ≡ false
      off true = refl
      off false = refl

  pub within : (v : ℕ) → x < s.l → y < s.w → v ≡ vertex s.w x y → Some v ≡ sited s x y
  within v a b q = rw (lt-ltb x s.l a, lt-ltb y s.w b) (ap Some q)

  -- a vertex of a strip that passes check 15
  pub small : Sides s.w s.l → x < s.l → y < s.w → x * s.w + y ≤ 4096
  small g a b = omega (arith, g.few, mul-le-mul_right s.w a, mul_comm s.l s.w)
