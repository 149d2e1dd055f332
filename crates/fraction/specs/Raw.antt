-- A fraction as it is written: (plus - minus) / (below + 1), all natural numbers, so that no bottom is zero.
-- Two stand for the same number, `x ~ y`, where their cross products are equal. All that is done with fractions respects this.
-- In the lemmas named -poly the fractions are (p - m) / D, (q - n) / E and (r - o) / F.
use Rattle.std.specs.Prelude.{Bool, cond, ℕ, suc, ◌+◌, ◌*◌, ◌-◌, ltb}

pub record Raw : Type 0 where
  pub plus : ℕ
  pub minus : ℕ
  pub below : ℕ

abbrev pub raw : ℕ → ℕ → ℕ → Raw
raw p m d = record { plus = p; minus = m; below = d }

abbrev pub bottom : Raw → ℕ
bottom x = suc x.below

-- ---- sum, product and negative

-- the product of two bottoms, all written less one
unfoldable pub bottoms : ℕ → ℕ → ℕ
bottoms d e = d * e + d + e

abbrev pub add_r : Raw → Raw → Raw
add_r x y = raw (x.plus * bottom y + y.plus * bottom x) (x.minus * bottom y + y.minus * bottom x) (bottoms x.below y.below)

abbrev pub mul_r : Raw → Raw → Raw
mul_r x y = raw (x.plus * y.plus + x.minus * y.minus) (x.plus * y.minus + x.minus * y.plus) (bottoms x.below y.below)

abbrev pub neg_r : Raw → Raw
neg_r x = raw x.minus x.plus x.below

-- ---- the sign, and the inverse: one over zero counts as zero

abbrev pub pos_r : Raw → Bool
pos_r x = ltb x.minus x.plus

abbrev pub inv_r : Raw → Raw
inv_r x =
    cond (pos_r x) (raw (bottom x) 0 (x.plus - suc x.minus))
    (cond (pos_r (neg_r x)) (raw 0 (bottom x) (x.minus - suc x.plus)) (raw 0 0 0))
