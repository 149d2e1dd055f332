-- A double that equals itself is no NaN, so it has bits.
use mathlib.Core.Path.{◌≡◌, refl, sym, subst}
use mathlib.Core.Bool.{Bool, false, not}
use Prim.Native.Nat.{ℕ}
use lib.Dec.{T}
use lib.Ieee.{Float, nan, inf, fin, eq, ne, is_nan, binary64, to_bits}
use lib.Ieee.Compare.{differs_from_itself}
use denote.Floats.{passes}
use Rattle.little_endian.proofs.doubles.bits_of.Goals as goal

not_nan : (x : Float) → T (eq x x) → T (not (is_nan x))
unfolding eq is_nan
not_nan nan e = e
not_nan (inf s) e = tt
not_nan (fin s m k) e = tt

differs : (x : Float) → eq x x ≡ false → T (ne x x)
unfolding ne
differs x e = subst (λ (b : Bool). T (not b)) (sym e) tt

nan_bits : (x : Float) → x ≡ nan → ◌≡◌ {A = ℕ} 0x7ff8_0000_0000_0000 (to_bits binary64 x)
unfolding to_bits
nan_bits x e = subst (λ (y : Float). ◌≡◌ {A = ℕ} 0x7ff8_0000_0000_0000 (to_bits binary64 y)) (sym e) refl

pub float_to_bits-result : goal.float_to_bits-result
float_to_bits-result c = not_nan c.args.x (passes _ c.if-x.true)

pub returns : goal.returns
returns c = nan_bits c.args.x (differs_from_itself c.args.x (differs c.args.x c.if-x.false))
