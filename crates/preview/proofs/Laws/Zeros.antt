-- A magnitude that is zero already: to set it to zero keeps the same edges, and no check of its size fits either way.
use Rattle.std.specs.Prelude.{◌≡◌, Bool, true, false, List, T, ℤ, pos, Float, length, get_or}
use Rattle.std.proofs.Math.Path.{refl}
use Rattle.std.proofs.Common.{sym, ap, ◌∙◌, subst, mul-pos, zero-mul, arith, eqb-true, lt-ltb}
use Prim.Native.Nat.{ℕ, zero, suc, ◌+◌, ◌*◌, ◌<◌}
use Rattle.std.proofs.Math.Decide.{ℕ_discrete}
use Rattle.std.specs.Float.{nan, inf, fin, binary64}
use Rattle.std.specs.Float.Ieee.{le, lt, eq, neg, of_bits, up, down}
use Rattle.std.specs.Float.Ieee.Fits.{up_pos, down_pos}
use Rattle.list_laws.specs.Search.{some}
use Rattle.plan_steps.proofs.Laws.Listed.{some_ext}
use Rattle.refusals.specs.Edges.{is_zero, kept_of, dropping}
use Rattle.refusals.specs.Request.{oversized, some_oversized}
use Rattle.refusals.proofs.Laws.Dropping.{dropping-at, dropping_beside, dropping-length}
use Rattle.refusals.proofs.Laws.Later.{and-true}

differ : {A : Type 0} → false ≡ true → A
differ e = absurd (subst (λ (b : Bool). T b) (sym e) tt)

-- a product of numbers above zero is zero only where its first factor is
only_zero : (m : ℕ) (e d : ℤ) (b : ℕ) → m * up e * down d ≡ b → b ≡ 0 → m ≡ 0
only_zero zero e d b h z = refl
only_zero (suc m) e d b h z =
    absurd (omega (arith, mul-pos {m = suc m * up e} {n = down d} (mul-pos {m = suc m} {n = up e} (omega arith) (up_pos e)) (down_pos d)))

-- a zero of either sign and any exponent is within the limit
zero_sized : (s : Bool) (e : ℤ) → oversized (fin s 0 e) ≡ false
unfolding le lt eq neg of_bits
zero_sized true e =
    rw (
      lt-ltb (0 * up e * 1) (1024 * down e) (omega (arith, zero-mul (up e), down_pos e)),
      lt-ltb 0 (0 * up e * 1 + 1024 * down e) (omega (arith, down_pos e)),
    )
zero_sized false e =
    rw (
      lt-ltb (0 * up e * 1) (1024 * down e) (omega (arith, zero-mul (up e), down_pos e)),
      lt-ltb 0 (1024 * down e + 0 * up e * 1) (omega (arith, down_pos e)),
    )

pub sized : (x : Float) → is_zero x ≡ true → oversized x ≡ false
unfolding eq of_bits
sized nan h = differ h
sized (inf s) h = differ h
sized (fin s m e) h =
    let z : m ≡ 0 = only_zero m e (pos 0) _ (eqb-true _ _ (and-true _ _ h).0) (zero-mul _) in
    rw z (zero_sized s e)

zero_itself : is_zero (of_bits binary64 0) ≡ true
unfolding eq of_bits
zero_itself = refl

module _ (m : List Float) (place : ℕ) (h : place < length m) (z : is_zero (get_or m place nan) ≡ true) where
  -- both lists have a zero there
  zero_in_copy : (i : ℕ) → i ≡ place → is_zero (get_or (dropping place m) i nan) ≡ true
  zero_in_copy i e = ap is_zero (sym (dropping-at m place i e (omega arith))) ∙ zero_itself

  zero_before : (i : ℕ) → i ≡ place → is_zero (get_or m i nan) ≡ true
  zero_before i e = rw e z

  -- the same edges are kept
  pub same_kept : (a b : List ℕ) (i : ℕ) → kept_of a b (dropping place m) i ≡ kept_of a b m i
  unfolding kept_of
  same_kept a b zero = refl
  same_kept a b (suc i) = go (ℕ_discrete i place) (same_kept a b i)
    where
      go : Dec (i ≡ place) → kept_of a b (dropping place m) i ≡ kept_of a b m i → kept_of a b (dropping place m) (suc i) ≡ kept_of a b m (suc i)
      go (yes e) s = rw (zero_in_copy i e, zero_before i e) s
      go (no n) s = rw (s, ← (dropping_beside m place i n))

  -- and none is too large, or both are
  pub same-sized : some_oversized (dropping place m) ≡ some_oversized m
  same-sized =
      ap (some (λ i. oversized (get_or (dropping place m) i nan))) (dropping-length place m)
      ∙ some_ext (λ i. oversized (get_or (dropping place m) i nan)) (λ i. oversized (get_or m i nan)) (length m) (λ i l. at i l (ℕ_discrete i place))
    where
      at : (i : ℕ) → i < length m → Dec (i ≡ place) → oversized (get_or (dropping place m) i nan) ≡ oversized (get_or m i nan)
      at i l (yes e) = sized _ (zero_in_copy i e) ∙ sym (sized _ (zero_before i e))
      at i l (no n) = ap oversized (sym (dropping_beside m place i n))
