-- The reduced fraction is the one in lowest terms.
use Rattle.std.specs.Prelude.{◌≡◌, ℕ, zero, suc, ◌*◌, ◌/◌, ◌<◌}
use Rattle.std.proofs.Common.{sym, ◌∙◌, one-mul, zero-mul, arith}
use Rattle.std.proofs.Math.Path.{ap}
use Rattle.std.specs.Int.{◌∣◌}
use Rattle.std.proofs.Math.Nat.{dvd-mul_left, dvd-mul_right, dvd_antisymm, div-mul_cancel, mul-dvd-mul_right, pos_of_dvd_of_pos, eq_of_mul-eq-mul_right, eq-one_of_dvd-one, dvd_of_mul-dvd-mul_right}
use Rattle.euclid.specs.declared.Fraction.{Fraction}
use Rattle.euclid.specs.Euclid.{gcd, reduced, LowestTerms}
use Rattle.euclid.proofs.Laws.Turns.{gcd-greatest, gcd-scaled}

positive-left : (x y : ℕ) → 0 < x * y → 0 < x
positive-left zero y h = absurd (omega (arith, zero-mul y))
positive-left (suc x) y h = omega arith

-- of 1 and a divisor: whatever divides both
coprime : (a b : ℕ) → ((k : ℕ) → k ∣ a → k ∣ b → k ≡ 1) → gcd a b ≡ 1
coprime a b h = let g = gcd-greatest a b in h (gcd a b) g.first g.second

-- a number that has no divisor in common with a and divides a * s divides s
rest_divides : (a b s : ℕ) → ((k : ℕ) → k ∣ a → k ∣ b → k ≡ 1) → b ∣ a * s → b ∣ s
rest_divides a b s h d =
    let e : gcd a b * s ≡ s = ap (λ (x : ℕ). x * s) (coprime a b h) ∙ one-mul s in
    rw e at ((gcd-scaled a b s).every b d (dvd-mul_right b s))

-- equal cross products with one fraction: equal cross products
cross : (p q r s top bottom : ℕ) → 0 < bottom → p * bottom ≡ top * q → r * bottom ≡ top * s → p * s ≡ r * q
cross p q r s top bottom h e f =
    eq_of_mul-eq-mul_right bottom h (p * s) (r * q)
    (let x = ap (λ (z : ℕ). z * s) e in let y = ap (λ (z : ℕ). z * q) f in omega arith)

by_parts : (t t' b b' : ℕ) → t ≡ t' → b ≡ b' → ◌≡◌ {A = Fraction} (record { top = t; bottom = b }) (record { top = t'; bottom = b' })
by_parts t t' b b' p q = cc

module _ (top bottom : ℕ) (h : 0 < bottom) where
  -- of two in lowest terms, the bottom of one divides that of the other
  divides : (f f' : Fraction) → LowestTerms top bottom f → LowestTerms top bottom f' → f.bottom ∣ f'.bottom
  divides f f' l l' =
      rest_divides f.top f.bottom f'.bottom l.lowest
      (rw (cross f.top f.bottom f'.top f'.bottom top bottom h l.same l'.same) (dvd-mul_left f.bottom f'.top))

  pub one-lowest : (f f' : Fraction) → LowestTerms top bottom f → LowestTerms top bottom f' → f ≡ f'
  one-lowest f f' l l' =
      let b : f.bottom ≡ f'.bottom = dvd_antisymm (divides f f' l l') (divides f' f l' l) in
      let t : f.top ≡ f'.top = eq_of_mul-eq-mul_right bottom h f.top f'.top (l.same ∙ ap (λ (x : ℕ). top * x) b ∙ sym l'.same) in
      by_parts f.top f'.top f.bottom f'.bottom t b

  pub reduced-lowest : LowestTerms top bottom (reduced top bottom)
  unfolding reduced
  reduced-lowest =
      let g = gcd-greatest top bottom in
      let d = gcd top bottom in
      let t : top / d * d ≡ top = div-mul_cancel d g.first in
      let b : bottom / d * d ≡ bottom = div-mul_cancel d g.second in
      record {
        some = positive-left (bottom / d) d (omega arith);
        same = ap (λ (x : ℕ). top / d * x) (sym b) ∙ (omega arith) ∙ ap (λ (x : ℕ). x * (bottom / d)) t;
        lowest = λ k p q.
            eq-one_of_dvd-one (dvd_of_mul-dvd-mul_right {k = d} k (pos_of_dvd_of_pos g.second h)
            (rw (one-mul d) (g.every (k * d) (rw t at (mul-dvd-mul_right k p d)) (rw b at (mul-dvd-mul_right k q d)))));
      }
