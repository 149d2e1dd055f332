-- A pair set has at most 18 pairs.
use Rattle.std.specs.Prelude.{Bool, true, false, cond, [], ◌∷◌, ℕ, zero, suc, ◌≤◌, length}
use Rattle.std.proofs.Common.{arith, length-append}
use Rattle.strip_candidates.specs.Candidates.{candidate_at}
use Rattle.strip_pairs.specs.PairSet.{Pair, taken, pair_of, pair_at, pairs_below, pair_set}
use Rattle.strip.specs.declared.strip.Strip.{Strip}

one-most : (t : Bool) (p : Pair) → length (cond t (p ∷ []) []) ≤ 1
one-most true p = omega arith
one-most false p = omega arith

at-most : (w l i : ℕ) → length (pair_at w l i) ≤ 1
unfolding pair_at
at-most w l i = one-most (taken w l (candidate_at w l i).sites) (pair_of w (candidate_at w l i))

below-most : (w l i : ℕ) → length (pairs_below w l i) ≤ i
unfolding pairs_below
below-most w l zero = omega arith
below-most w l (suc i) = omega (arith, length-append (pairs_below w l i) (pair_at w l i), below-most w l i, at-most w l i)

pub few-pairs : (s : Strip) → length (pair_set s) ≤ 18
few-pairs s = below-most s.w s.l 18
