-- The sign of a root: it is a number, and not below zero.
use Rattle.std.specs.Prelude.{◌≡◌, refl, Bool, true, false, cond, ℕ, zero, suc, ◌+◌, ◌*◌, ◌/◌, ◌^◌, T, ltb, Float}
use Rattle.std.specs.Float.{nan, inf, fin, binary64}
use Rattle.std.specs.Float.Ieee.{prec, emax, low, up, down, odd, units, lt, le, eq}
use Rattle.rounding.specs.Under.{nought}
use Rattle.estimate.specs.Estimates.{+0·0, at_least_zero}
use Rattle.sqrt.specs.Sqrt.{sqrt, root_of, places, halves, dropped}
use Rattle.estimate_complete.proofs.Laws.Order.{at-least-nought, zero_is}

odd_sign : (d q k l : ℕ) → T (le nought (odd d false q k l))
unfolding odd le lt eq
odd_sign d zero k l = tt
odd_sign d (suc q) k l = at-least-nought (odd d false (suc q) k l) tt tt

cond_sign : (b : Bool) (x y : Float) → T (le nought x) → T (le nought y) → T (le nought (cond b x y))
cond_sign true x y h l = h
cond_sign false x y h l = l

units-sign : (q k : ℕ) → T (le nought (units binary64 false q k))
unfolding units le lt
units-sign q k = cond_sign (ltb (q * 2 ^ k) (2 ^ (low binary64 + suc (emax binary64)))) (odd (suc (prec binary64)) false q k (low binary64)) (inf false) (odd_sign (suc (prec binary64)) q k (low binary64)) tt

root-of-sign : (n : ℕ) → T (le nought (root_of binary64 n))
unfolding root_of
root-of-sign n = units-sign (places (halves binary64 n)) (dropped binary64 n)

pub root-sign : (x : Float) → T (lt nought x) → T (le nought (sqrt binary64 x))
unfolding lt le sqrt
root-sign nan h = absurd h
root-sign (inf true) h = absurd h
root-sign (inf false) h = tt
root-sign (fin true m e) h = absurd h
root-sign (fin false zero e) h = at-least-nought (fin false zero e) tt tt
root-sign (fin false (suc m) e) h = root-of-sign (suc m * up e * 2 ^ low binary64 / down e)

zero_root : T (le nought (sqrt binary64 nought))
unfolding sqrt le lt eq
zero_root = tt

pub spread_least : (v : Float) → T (le nought (sqrt binary64 (at_least_zero v)))
spread_least v = go (lt +0·0 v) refl
  where
    go : (b : Bool) → lt +0·0 v ≡ b → T (le nought (sqrt binary64 (cond b v +0·0)))
    go true h = root-sign v (rw (← zero_is, h) tt)
    go false h = rw zero_is zero_root
