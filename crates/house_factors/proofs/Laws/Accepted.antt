-- Check 10 passes house factors: each list has its length, and its entries are finite and above zero.
use Rattle.std.specs.Prelude.{◌≡◌, Bool, false, not, List, ℕ, ◌*◌, ◌/◌, ◌%◌, ◌<◌, T, eqb, length, get_or, Float}
use Rattle.std.proofs.Common.{sym, subst, arith, eq-eqb}
use Rattle.std.specs.Float.{nan, inf}
use Rattle.std.specs.Float.Ieee.{lt, of_bits}
use Rattle.std.specs.Float.Ieee.Bits.{is_true}
use Rattle.std.specs.Float.Ieee.Positive.{positive}
use Rattle.list_laws.proofs.Laws.Search.{none-at, none_of}
use Rattle.rounding.specs.Under.{nought}
use Rattle.rounding.proofs.Laws.Under.{positive_tests}
use Rattle.coupling_grid.specs.Grid.{off_grid, some_off_grid}
use Rattle.refusals.specs.Request.{passes, bad_factor_list}
use Rattle.house_factors.specs.Factors.{factor_of, single_factors, paired_factors}
use Rattle.house_factors.proofs.Laws.Entries.{factor-positive}
use Rattle.house_factors.proofs.Laws.Factors.{single-length, single-at, paired-length, paired_in}

positive-passes : (x : Float) → T (positive x) → not (passes x) ≡ false
unfolding of_bits
positive-passes x h = let (a, b) = positive_tests x h in rw (is_true (lt nought x) a, is_true (lt x (inf false)) b)

passing : (f : List Float) (n : ℕ) → length f ≡ n → ((k : ℕ) → k < n → T (positive (get_or f k nan))) → bad_factor_list f n ≡ false
passing f n e h =
    rw (eq-eqb (length f) n e)
    (none_of (λ k. not (passes (get_or f k nan))) (length f) (λ k l. positive-passes (get_or f k nan) (h k (omega arith))))

module _ (l : List Float) (on : some_off_grid l ≡ false) where
  factor-at : (e : ℕ) (minus : Bool) → e < length l → T (positive (factor_of (get_or l e nan) minus))
  factor-at e minus h = factor-positive (get_or l e nan) minus (none-at (λ i. off_grid (get_or l i nan)) (length l) e h on)

  pub single-accepted : bad_factor_list (single_factors l) (length l) ≡ false
  single-accepted =
      passing (single_factors l) (length l) (single-length l)
      (λ k h. subst (λ (x : Float). T (positive x)) (sym (single-at l k h)) (factor-at k false h))

  pub paired-accepted : bad_factor_list (paired_factors l) (2 * length l) ≡ false
  paired-accepted =
      passing (paired_factors l) (2 * length l) (paired-length l)
      (λ k h. subst (λ (x : Float). T (positive x)) (sym (paired_in l k h)) (factor-at (k / 2) (eqb (k % 2) 1) (omega arith)))
