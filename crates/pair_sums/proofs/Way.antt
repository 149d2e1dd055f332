-- What an iteration adds to the sums of a pair, on the way there and on the way back.
use mathlib.Core.Path.{◌≡◌, refl, sym, ◌∙◌}
use mathlib.Core.Bool.{Bool, true, false, not, cond}
use mathlib.Core.List.{List}
use mathlib.Core.Logic.{dite}
use Prim.Native.Nat.{ℕ, suc, ◌+◌, ◌*◌, ◌-◌, ◌/◌, ◌%◌, ◌^◌, ◌≤◌, ◌<◌, min}
use native.Mathlib.Nat.{min-eq_left, min-eq_right, zero-div}
use native.Mathlib.Decide.{dec_lt}
use native.Mathlib.Omega.{arith}
use lib.Dec.{eqb}
use lib.ListN.{get_or}
use lib.Pow.{shr-shr}
use lib.Ieee.{Float, nan, binary64, add, sub, mul}
use Rattle.list_laws.proofs.Laws.Power.{pow_double}
use Rattle.transfer_matrix.specs.Arithmetic.{sum, signed_sum}
use Rattle.transfer_matrix.specs.Rounded.{ieee}
use Rattle.step_tables.specs.Rule.{entries}
use Rattle.half_vectors.specs.Half.{negated_if}
use Rattle.rounding.proofs.Laws.Negation.{add_neg, sub_neg}
use Rattle.half_vectors.specs.Sums.{differ}
use Rattle.pair_sums.specs.declared.sums.Source.{Source}
use Rattle.pair_sums.specs.declared.sums.Sums.{Sums}
use Rattle.pair_sums.specs.Terms.{terms, signs}
use Rattle.pair_sums.specs.Pair.{Within, Summed, Sourced, Begun, SumsOf}

-- ---- two terms more

sum_iteration : (f : ℕ → Float) (i : ℕ) (z p q : Float) → z ≡ sum ieee i f → p ≡ f i → q ≡ f (i + 1)
    → add binary64 (add binary64 z p) q ≡ sum ieee (i + 2) f
unfolding sum
sum_iteration f i z p q e ep eq =
    let n : i + 2 ≡ suc (suc i) = omega arith in
    let m : suc i ≡ i + 1 = omega arith in
    rw (n, e, ep, eq, m)

-- a term with its sign negated-if
added : (m : Bool) (a x : Float) → add binary64 a (negated_if m x) ≡ cond m (sub binary64 a x) (add binary64 a x)
added true a x = add_neg binary64 a x
added false a x = refl

taken : (m : Bool) (a x : Float) → sub binary64 a (negated_if m x) ≡ cond (not m) (sub binary64 a x) (add binary64 a x)
taken true a x = sub_neg binary64 a x
taken false a x = refl

-- of two terms with unlike signs, the first subtracted where m is, or the second
module _ (minus : ℕ → Bool) (f : ℕ → Float) (i : ℕ) (m : Bool) (z p q : Float) (ez : z ≡ signed_sum ieee i minus f) (ep : p ≡ f i)
    (eq : q ≡ f (i + 1)) where
  signed-there : minus i ≡ m → minus (i + 1) ≡ not m → sub binary64 (add binary64 z (negated_if m p)) (negated_if m q) ≡ signed_sum ieee (i + 2) minus f
  unfolding signed_sum
  signed-there a b =
      let n : i + 2 ≡ suc (suc i) = omega arith in
      let k : suc i ≡ i + 1 = omega arith in
      taken m _ q ∙ rw (n, k, a, b, ← ez, ← ep, ← eq, added m z p)

  signed_back : minus i ≡ not m → minus (i + 1) ≡ m → add binary64 (sub binary64 z (negated_if m p)) (negated_if m q) ≡ signed_sum ieee (i + 2) minus f
  unfolding signed_sum
  signed_back a b =
      let n : i + 2 ≡ suc (suc i) = omega arith in
      let k : suc i ≡ i + 1 = omega arith in
      added m _ q ∙ rw (n, k, a, b, ← ez, ← ep, ← eq, taken m z p)

-- ---- the signs of two neighbours

-- the index after an even one has the same bit d
same_bit : (i d : ℕ) → 1 ≤ d → i % 2 ≡ 0 → (i + 1) / 2 ^ d ≡ i / 2 ^ d
same_bit i d h e =
    let t : 1 + (d - 1) ≡ d = omega arith in
    let g : (i + 1) / 2 ^ 1 ≡ i / 2 ^ 1 = omega arith in
    rw (← t, ← shr-shr (i + 1) 1 (d - 1), ← shr-shr i 1 (d - 1), g)

-- at an even index bits 0 and d differ where bit d is set
differ_even : (d i : ℕ) → i % 2 ≡ 0 → differ d i ≡ eqb (i / 2 ^ d % 2) 1
differ_even d i e =
    let e' : i / 1 % 2 ≡ 0 = omega arith in
    dite (dec_lt (i / 2 ^ d % 2) 1)
    (λ l. let s : i / 2 ^ d % 2 ≡ 0 = omega arith in rw (e', s))
    (λ l. let s : i / 2 ^ d % 2 ≡ 1 = omega arith in rw (e', s))

-- and at the index after it where bit d is clear
differ-odd : (d i : ℕ) → 1 ≤ d → i % 2 ≡ 0 → differ d (i + 1) ≡ not (eqb (i / 2 ^ d % 2) 1)
differ-odd d i h e =
    let o : (i + 1) / 1 % 2 ≡ 1 = omega arith in
    dite (dec_lt (i / 2 ^ d % 2) 1)
    (λ l. let s : i / 2 ^ d % 2 ≡ 0 = omega arith in rw (o, same_bit i d h e, s))
    (λ l. let s : i / 2 ^ d % 2 ≡ 1 = omega arith in rw (o, same_bit i d h e, s))

-- ---- the iterations

pub less_within : (len k : ℕ) (at : Source) → Within len k at → (j : ℕ) → j ≤ k → Within len j at
less_within len k at g j l =
    record {
      forward = omega (arith, g.forward);
      other = omega (arith, g.other);
      backward = omega (arith, g.backward);
      some = g.some;
      small = g.small;
    }

pub summed-none : (v : List Float) (at : Source) (w : ℕ) (s : Sums) → s.z ≡ ieee.𝟘 → s.n ≡ ieee.𝟘 → Summed v at w 0 s
unfolding sum signed_sum
summed-none v at w s ez en = record { z_is = ez; n-is = en }

-- the first k entries of a place lie where it begins
pub begun-within : (len w k : ℕ) (s x : Source) → Sourced len w s → Begun w s x → k ≤ 2 ^ w → Within len k x
begun-within len w k s x g b l =
    record {
      forward = rw b.forward (omega (arith, g.forward.inside));
      other = rw b.other (omega (arith, g.other.inside));
      backward = rw b.backward (omega (arith, g.backward.inside));
      some = rw b.bit g.some;
      small = rw b.bit g.small;
    }

pub begun-sums : (v : List Float) (w : ℕ) (s x : Source) (t : Sums) → Begun w s x → Summed v x w (2 ^ w) t → SumsOf v w s t
begun-sums v w s x t b g =
    record { z_is = rw (b.forward, b.backward) at g.z_is; n-is = rw (b.other, b.backward, b.bit) at g.n-is }

-- halves of one entry
pub one-done : (v : List Float) (at : Source) (w : ℕ) (s : Sums) (p q : Float) → w ≡ 1
    → p ≡ mul binary64 (get_or v at.f nan) (get_or v at.b nan) → q ≡ mul binary64 (get_or v at.g nan) (get_or v at.b nan)
    → s.z ≡ add binary64 (add binary64 ieee.𝟘 p) p → s.n ≡ add binary64 (add binary64 ieee.𝟘 q) q → Summed v at w (2 ^ w) s
unfolding sum signed_sum
one-done v at w s p q one ep eq ez en =
    let e : 0 / 2 ^ at.d % 2 ≡ 0 = omega (arith, zero-div (2 ^ at.d)) in
    let f' : at.f + 0 ≡ at.f = omega arith in
    let g' : at.g + 0 ≡ at.g = omega arith in
    let b' : at.b + 0 ≡ at.b = omega arith in
    rw one (record { z_is = ez ∙ rw (ep, f', b'); n-is = en ∙ rw (eq, g', b', e) })

module _ (v : List Float) (at : Source) (i : ℕ) (even : i % 2 ≡ 0) (some : 1 ≤ at.d) where
  -- the products that an iteration reads
  abbrev read : ℕ → ℕ → Float
  read a j = mul binary64 (get_or v (a + j) nan) (get_or v (at.b + j) nan)

  -- whether bit d of the iteration's indexes is set
  abbrev minus : Bool
  minus = eqb (i / 2 ^ at.d % 2) 1

  module _ (w : ℕ) (wide : 1 ≤ w) (inside : i + 2 ≤ 2 ^ (w - 1)) (s r : Sums) where
    whole : 2 ^ w ≡ 2 * 2 ^ (w - 1)
    whole = pow_double w wide

    on-there : (j : ℕ) → j < 2 ^ (w - 1) → min j (2 ^ w - 1 - j) ≡ j
    on-there j l = min-eq_left (omega (arith, whole))

    on-back : (k j : ℕ) → k + j + 1 ≡ 2 ^ w → j < 2 ^ (w - 1) → min k (2 ^ w - 1 - k) ≡ j
    on-back k j e l = let i : 2 ^ w - 1 - k ≡ j = omega arith in rw i (min-eq_right (omega (arith, whole)))

    pub there_iteration : (x y : Float) → x ≡ negated_if minus (read at.g i) → y ≡ negated_if minus (read at.g (i + 1))
        → r.z ≡ add binary64 (add binary64 s.z (read at.f i)) (read at.f (i + 1)) → r.n ≡ sub binary64 (add binary64 s.n x) y
        → Summed v at w i s → Summed v at w (i + 2) r
    there_iteration x y ex ey ez en g =
        let first = on-there i (omega arith) in
        let second = on-there (i + 1) (omega arith) in
        record {
          z_is = ez ∙ sum_iteration (terms w (entries v at.f) (entries v at.b)) i s.z _ _ g.z_is (rw first) (rw second);
          n-is = en ∙ rw (ex, ey) (signed-there (signs w at.d) (terms w (entries v at.g) (entries v at.b)) i minus s.n _ _ g.n-is (rw first) (rw second)
              (rw first (differ_even at.d i even)) (rw second (differ-odd at.d i some even)));
        }

    pub back_iteration : (x y : Float) → x ≡ negated_if minus (read at.g (i + 1)) → y ≡ negated_if minus (read at.g i)
        → r.z ≡ add binary64 (add binary64 s.z (read at.f (i + 1))) (read at.f i) → r.n ≡ add binary64 (sub binary64 s.n x) y
        → Summed v at w (2 ^ w - (i + 2)) s → Summed v at w (2 ^ w - i) r
    back_iteration x y ex ey ez en g =
        let k = 2 ^ w - (i + 2) in
        let e : 2 ^ w - i ≡ k + 2 = omega (arith, whole) in
        let first = on-back k (i + 1) (omega (arith, whole)) (omega arith) in
        let second = on-back (k + 1) i (omega (arith, whole)) (omega arith) in
        rw e (record {
          z_is = ez ∙ sum_iteration (terms w (entries v at.f) (entries v at.b)) k s.z _ _ g.z_is (rw first) (rw second);
          n-is = en ∙ rw (ex, ey) (signed_back (signs w at.d) (terms w (entries v at.g) (entries v at.b)) k minus s.n _ _ g.n-is (rw first) (rw second)
              (rw first (differ-odd at.d i some even)) (rw second (differ_even at.d i even)));
        })

-- ---- two entries an iteration

-- a half has two entries for each of 2 to the w - 2 iterations
pub two_each : (w : ℕ) → 2 ≤ w → 2 * 2 ^ (w - 2) ≡ 2 ^ (w - 1)
two_each w h = let e : w - 1 - 1 ≡ w - 2 = omega arith in sym (rw e at (pow_double (w - 1) (omega arith)))
