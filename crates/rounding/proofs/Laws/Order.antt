-- The order of the floats is transitive: of all of them, infinities too. A NaN is below nothing, and nothing is below it.
use Rattle.std.specs.Prelude.{◌≡◌, refl, Bool, true, false, ℕ, zero, suc, ◌+◌, ◌*◌, ◌<◌, T, ltb, Float}
use Rattle.std.proofs.Common.{sym, subst, mul-pos, mul_right_comm, mul-le-mul_right, mul-lt-mul_of_pos_right, lt_of_mul-lt-mul_right, lt_of_le_of_lt, le_of_lt, zero-mul, arith, ltb-true, lt-ltb}
use Rattle.std.specs.Float.{nan, inf, fin}
use Rattle.std.specs.Float.Ieee.{lt, up, down}
use Rattle.std.specs.Float.Ieee.Fits.{down_pos}

differ : {A : Type 0} → false ≡ true → A
differ e = absurd (subst (λ (b : Bool). T b) (sym e) tt)

-- a / q < b / r and b / r < c / s: a / q < c / s, with products for quotients
between : (a b c q r s : ℕ) → 0 < q → a * r < b * q → b * s < c * r → a * s < c * q
between a b c q r s p h k =
    lt_of_mul-lt-mul_right r
    (rw (mul_right_comm a s r, mul_right_comm c q r)
    (lt_of_le_of_lt (mul-le-mul_right s (le_of_lt h)) (rw (mul_right_comm b q s) (mul-lt-mul_of_pos_right {m = b * s} {n = c * r} {k = q} k p))))

-- a product above another is above zero, and so is its first factor's product with any number above zero
lifted : (x c r q : ℕ) → 0 < q → x < c * r → 0 < c * q
lifted x zero r q p h = absurd (omega (arith, zero-mul r))
lifted x (suc c) r q p h = mul-pos {m = suc c} {n = q} (omega arith) p

pub lt_trans : (x y z : Float) → lt x y ≡ true → lt y z ≡ true → lt x z ≡ true
unfolding lt
lt_trans nan y z h k = differ h
lt_trans (inf s) nan z h k = differ h
lt_trans (inf false) (inf t) z h k = differ h
lt_trans (inf true) (inf true) z h k = differ h
lt_trans (inf true) (inf false) nan h k = differ k
lt_trans (inf true) (inf false) (inf u) h k = differ k
lt_trans (inf true) (inf false) (fin u p g) h k = differ k
lt_trans (inf false) (fin t n d) z h k = differ h
lt_trans (inf true) (fin t n d) nan h k = differ k
lt_trans (inf true) (fin t n d) (inf true) h k = differ k
lt_trans (inf true) (fin t n d) (inf false) h k = refl
lt_trans (inf true) (fin t n d) (fin u p g) h k = refl
lt_trans (fin s m e) nan z h k = differ h
lt_trans (fin s m e) (inf true) z h k = differ h
lt_trans (fin s m e) (inf false) nan h k = differ k
lt_trans (fin s m e) (inf false) (inf u) h k = differ k
lt_trans (fin s m e) (inf false) (fin u p g) h k = differ k
lt_trans (fin s m e) (fin t n d) nan h k = differ k
lt_trans (fin s m e) (fin t n d) (inf u) h k = k
lt_trans (fin false m e) (fin true n d) (fin u p g) h k = differ h
lt_trans (fin s m e) (fin false n d) (fin true p g) h k = differ k
lt_trans (fin false m e) (fin false n d) (fin false p g) h k =
    lt-ltb (m * up e * down g) (p * up g * down e)
    (between (m * up e) (n * up d) (p * up g) (down e) (down d) (down g) (down_pos e) (ltb-true _ _ h) (ltb-true _ _ k))
lt_trans (fin true m e) (fin true n d) (fin true p g) h k =
    lt-ltb (p * up g * down e) (m * up e * down g)
    (between (p * up g) (n * up d) (m * up e) (down g) (down d) (down e) (down_pos g) (ltb-true _ _ k) (ltb-true _ _ h))
lt_trans (fin true m e) (fin false n d) (fin false p g) h k =
    let c = lifted (n * up d * down g) (p * up g) (down d) (down e) (down_pos e) (ltb-true _ _ k) in
    lt-ltb 0 (m * up e * down g + p * up g * down e) (omega arith)
lt_trans (fin true m e) (fin true n d) (fin false p g) h k =
    let c = lifted (n * up d * down e) (m * up e) (down d) (down g) (down_pos g) (ltb-true _ _ h) in
    lt-ltb 0 (m * up e * down g + p * up g * down e) (omega arith)
