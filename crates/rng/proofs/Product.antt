-- The wrapping product by halves of 32 bits, as a law on numbers.
use Rattle.std.proofs.Common.{◌≡◌, ℕ, ◌+◌, ◌*◌, ◌/◌, ◌%◌, ◌^◌, ◌<◌, sym, ap, ◌∙◌, ap₂, add_assoc, mul_assoc, add-mul, mul-le-mul, add_comm, div-add-mod', mul-add, mul_right_comm, arith}
use native.Mathlib.Nat.{mul-mul-mul_comm, le-pred_of_lt, add-mod, add-mod-mod, mul-add-mod_self_right}

-- the base of the two digits that a word is written in
abbrev half : ℕ
half = 4294967296

-- the product of two numbers of two digits in base b
expand : (b x y u v : ℕ) → (x * b + y) * (u * b + v) ≡ x * u * (b * b) + (x * v * b + y * u * b) + y * v
expand b x y u v =
    rw (add-mul, mul-add (x * b) (u * b) v, mul-add y (u * b) v, mul-mul-mul_comm x b u b, mul_right_comm x b v, ← mul_assoc y u b)
    (omega arith)

pub digits_fit : {x y : ℕ} → x < 2 ^ 32 → y < 2 ^ 32 → x * y < 2 ^ 64
digits_fit {x} {y} p q = omega (arith, mul-le-mul (le-pred_of_lt p) (le-pred_of_lt q))

raised : (m : ℕ) → m % half * half ≡ (m * half) % 2 ^ 64
raised m = omega arith

-- p the product of the low digits, q and r the crossed ones, s that of the high digits, which falls away
fold : (p q r s : ℕ) → (p + (q % half + r % half) % half * half) % 2 ^ 64 ≡ (s * 2 ^ 64 + (q * half + r * half) + p) % 2 ^ 64
fold p q r s =
    rw (← add-mod q r half, raised (q + r), add-mod-mod p ((q + r) * half) (2 ^ 64), add-mul q r half, add_assoc (s * 2 ^ 64) (q * half + r * half) p, mul-add-mod_self_right s (2 ^ 64) (q * half + r * half + p), add_comm p (q * half + r * half))

pub by_halves : (a b : ℕ)
    → (a % half * (b % half) + (a / half * (b % half) % half + a % half * (b / half) % half) % half * half) % 2 ^ 64 ≡ (a * b) % 2 ^ 64
by_halves a b =
    fold (a % half * (b % half)) (a / half * (b % half)) (a % half * (b / half)) (a / half * (b / half))
    ∙ ap (λ (n : ℕ). n % 2 ^ 64)
    (sym (expand half (a / half) (a % half) (b / half) (b % half)) ∙ ap₂ (λ (x y : ℕ). x * y) (div-add-mod' a half) (div-add-mod' b half))
