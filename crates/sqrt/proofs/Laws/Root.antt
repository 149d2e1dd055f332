-- What the theorems of `sqrt` rest on: the root of a value's units, and what two nearest values would be.
use Rattle.std.specs.Prelude.{◌≡◌, ℕ, zero, suc, ◌+◌, ◌*◌, ◌/◌, ◌^◌, ◌≤◌, ◌<◌, Bool, true, false, cond, T, ltb, Float}
use Rattle.std.proofs.Common.{sym, ap, ◌∙◌, subst, pow-suc, lt_irrefl, lt_trans, lt_of_le_of_lt, mul_comm, add_comm, mul-div_cancel, arith, lt→ltb, ltb→lt}
use Rattle.std.proofs.Math.Pow.{pow-lt}
use Rattle.std.specs.Float.{nan, inf, fin, Format}
use Rattle.std.specs.Float.Ieee.{prec, emax, low, down, odd, units, fits, lt}
use Rattle.std.specs.Float.Ieee.Bits.{is_true}
use Rattle.std.specs.Float.Ieee.Exact.{units_val}
use Rattle.std.specs.Float.Ieee.Fits.{down_pos, odd-fits}
use Rattle.std.specs.Float.Ieee.Positive.{num, den, positive}
use Rattle.nearest.proofs.Laws.Smallest.{Smallest}
use Rattle.nearest.proofs.Laws.Values.{nonnegative-of, cross→lt}
use Rattle.sqrt.specs.Nearest.{NearestRoot}
use Rattle.sqrt.specs.Sqrt.{sqrt, root_of, halves, dropped, places}
use Rattle.sqrt.proofs.Laws.Halves.{Halves, halves_are}
use Rattle.sqrt.proofs.Laws.Middles.{root-bounded, places-nearest}

-- ---- it is the nearest
units-fits : (f : Format) (q k : ℕ) → q ≤ 2 ^ prec f → q * 2 ^ k < 2 ^ (low f + suc (emax f)) → T (fits f (units f false q k))
unfolding units
units-fits f q k a b =
    subst (λ (t : Bool). T (fits f (cond t (odd (suc (prec f)) false q k (low f)) (inf false))))
    (sym (is_true (ltb (q * 2 ^ k) (2 ^ (low f + suc (emax f)))) (lt→ltb (q * 2 ^ k) (2 ^ (low f + suc (emax f))) b)))
    (odd-fits f (suc (prec f)) false q k (lt_of_le_of_lt a (pow-lt (omega arith))) a b)

pub sqrt-is : (f : Format) (x : Float) (n : ℕ) → T (positive x) → num x * 2 ^ low f ≡ n * den x → sqrt f x ≡ root_of f n
unfolding sqrt
sqrt-is f nan n p e = absurd p
sqrt-is f (inf s) n p e = absurd p
sqrt-is f (fin true m d) n p e = absurd p
sqrt-is f (fin false zero d) n p e = absurd (lt_irrefl 0 (ltb→lt 0 0 p))
sqrt-is f (fin false (suc m) d) n p e = ap (root_of f) (ap (λ (z : ℕ). z / down d) e ∙ mul-div_cancel n (down_pos d))

pub root-nearest : (f : Format) (x : Float) (m i : ℕ) → 0 < m → Smallest f x m i → NearestRoot f x (root_of f (m * 2 ^ i))
unfolding root_of
root-nearest f x m i M u =
    let n = m * 2 ^ i in
    let h = halves f n in
    let k = dropped f n in
    let r : Halves f n h k = halves_are f m i M u.short in
    let b = root-bounded f n h k r u.bounded in
    let q : places h ≤ 2 ^ prec f = omega (arith, r.short, pow-suc 2 (prec f)) in
    places-nearest f x (units f false (places h) k) n h k u.same r (units-fits f (places h) k q b) (units_val f false (places h) k b)

-- ---- it is the only one
-- the middle of two nearest values would be both below and above the root
pub clash : (f : Format) (x r s : Float) → NearestRoot f x r → NearestRoot f x s → num r * den s < num s * den r → ⊥
clash f x r s R S h =
    let t : T (lt r s) = cross→lt r s R.above S.above h in
    let a = R.larger s S.held (nonnegative-of s S.above) t in
    let b = S.smaller r R.held (nonnegative-of r R.above) t in
    go (num r * den s) (num s * den r) (den r * den s) (den s * den r) (den x) (4 * num x) (mul_comm (den r) (den s)) a b
  where
    go : (a b d d' c n : ℕ) → d ≡ d' → n * (d' * d') < (b + a) * (b + a) * c → (a + b) * (a + b) * c < n * (d * d) → ⊥
    go a b d d' c n e u v = lt_irrefl (n * (d * d)) (lt_trans (rw (e, add_comm a b) u) v)
