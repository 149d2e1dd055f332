-- The table's rule at each entry, read off the one test of the whole table.
use Rattle.std.specs.Prelude.{◌≡◌, refl, false, ℕ, zero, suc, ◌*◌, ◌^◌, ◌≤◌, ◌<◌, T, ℤ, pos, negsuc, Float}
use Rattle.std.proofs.Math.Path.{sym, ap}
use Rattle.std.proofs.Common.{◌∙◌, subst, zero-mul, add-one, arith, ltb→lt}
use Rattle.std.proofs.Math.Decide.{ℕ_discrete}
use Rattle.std.specs.Float.{binary64}
use Rattle.std.specs.Float.Ieee.{round, lt, of_bits}
use Rattle.std.specs.Float.Ieee.Positive.{positive}
use Rattle.std.specs.Float.Ieee.Bits.{is_true}
use Rattle.rounding.proofs.Laws.Order.{lt_trans}
use Rattle.nearest.specs.Nearest.{NearestTo}
use Rattle.nearest.proofs.Theorems.{round_nearest, nearest-only}
use Rattle.house_table.specs.Series.{bottom, through}
use Rattle.house_table.specs.Exact.{over, seriesℚ}
use Rattle.house_table.specs.House.{natural, series_top, series_bottom, house, entry_at}
use Rattle.house_table.proofs.Laws.Exact.{series_is}
use Rattle.house_table.proofs.Laws.Tested.{ruled-at}

bottom_pos : 0 < series_bottom
unfolding series_bottom
bottom_pos = ltb→lt 0 _ tt

house-is : (i : ℤ) → house i ≡ round binary64 false (series_top i) series_bottom
unfolding house
house-is i = refl

top-is : (i : ℤ) → series_top i ≡ natural (through i 40)
unfolding series_top
top-is i = refl

above : (z : ℤ) (t w : ℕ) → t ≡ natural z → 2 ^ 52 * series_bottom ≤ t * w → z ≡ pos t
above (pos n) t w e h = ap pos (sym e)
above (negsuc n) t w e h = let z : t * w ≡ 0 = rw e (zero-mul w) in let b = bottom_pos in absurd (omega arith)

module _ (p : ℕ) (h : p < 1025) where
  -- the series is above zero
  pub series_above : through (entry_at p) 40 ≡ pos (series_top (entry_at p))
  series_above = above (through (entry_at p) 40) (series_top (entry_at p)) (2 ^ 1074) (top-is (entry_at p)) (ruled-at p h).normal

  -- what an entry is nearest to is the series as an exact fraction
  pub entry_series : seriesℚ (over (entry_at p) 128) 40 ≡ over (pos (series_top (entry_at p))) series_bottom
  unfolding series_bottom
  entry_series = sym (series_is (entry_at p) 40) ∙ ap (λ (z : ℤ). over z (bottom 40)) series_above

  -- each entry is the double nearest the series
  pub house-nearest : NearestTo binary64 (series_top (entry_at p)) series_bottom (house (entry_at p))
  house-nearest =
      let c = ruled-at p h in
      subst (NearestTo binary64 (series_top (entry_at p)) series_bottom) (sym (house-is (entry_at p)))
      (round_nearest binary64 (series_top (entry_at p)) series_bottom bottom_pos c.normal c.bounded c.no_tie)

  -- and no other double is
  pub house-only : (r : Float) → NearestTo binary64 (series_top (entry_at p)) series_bottom r → r ≡ house (entry_at p)
  house-only r R = nearest-only binary64 (series_top (entry_at p)) series_bottom r (house (entry_at p)) R house-nearest

  -- so it is finite and above zero
  pub house-positive : T (positive (house (entry_at p)))
  house-positive = house-nearest.above

-- ---- the entries rise strictly
pub house-rises : (p q : ℕ) → p < q → q < 1025 → T (lt (house (entry_at p)) (house (entry_at q)))
house-rises p zero h l = absurd (omega arith)
house-rises p (suc q) h l = go (ℕ_discrete p q) (λ s. house-rises p q s (omega arith))
  where
    step : T (lt (house (entry_at q)) (house (entry_at (suc q))))
    step = subst (λ (k : ℕ). T (lt (house (entry_at q)) (house (entry_at k)))) (add-one q) (ruled-at q (omega arith)).next

    go : Dec (p ≡ q) → (p < q → T (lt (house (entry_at p)) (house (entry_at q)))) → T (lt (house (entry_at p)) (house (entry_at (suc q))))
    go (yes e) r = subst (λ (k : ℕ). T (lt (house (entry_at k)) (house (entry_at (suc q))))) (sym e) step
    go (no n) r =
        subst T
        (sym (lt_trans (house (entry_at p)) (house (entry_at q)) (house (entry_at (suc q))) (is_true _ (r (omega (arith, n)))) (is_true _ step)))
        tt

-- ---- entry 0 is 1.0
pub house_zero : house (pos 0) ≡ of_bits binary64 0x3ff0_0000_0000_0000
unfolding house of_bits
house_zero = refl
