-- The refusal by the tests that the code makes, in their order.
use mathlib.Core.Path.{◌≡◌}
use mathlib.Core.Bool.{true, false}
use mathlib.Core.List.{List}
use Prim.Native.Nat.{ℕ}
use lib.Ieee.{Float}
use lib.ListN.{length}
use borrow.Author.Tests.{eq-eqb, ne_eqb}
use Rattle.estimate_complete.specs.Complete.{is_complete}
use Rattle.estimates.specs.Columns.{bad_sums}
use Rattle.estimates_complete.specs.Columns.{refusal_of}

module _ (count : ℕ) (squares fourths : List Float) (means errors spreads : ℕ) where
  pub sums_apart : (length squares ≡ length fourths → ⊥) → 2 ≡ refusal_of count squares fourths means errors spreads
  sums_apart h = rw (ne_eqb (length squares) (length fourths) h)

  module _ (h : length squares ≡ length fourths) where
    pub means-misfit : (means ≡ length squares → ⊥) → 12 ≡ refusal_of count squares fourths means errors spreads
    means-misfit m = rw (eq-eqb (length squares) (length fourths) h, ne_eqb means (length squares) m)

    module _ (m : means ≡ length squares) where
      pub errors-misfit : (errors ≡ length squares → ⊥) → 12 ≡ refusal_of count squares fourths means errors spreads
      errors-misfit e =
          rw (eq-eqb (length squares) (length fourths) h, eq-eqb means (length squares) m, ne_eqb errors (length squares) e)

      module _ (e : errors ≡ length squares) where
        pub spreads-misfit : (spreads ≡ length squares → ⊥) → 12 ≡ refusal_of count squares fourths means errors spreads
        spreads-misfit s =
            rw (eq-eqb (length squares) (length fourths) h, eq-eqb means (length squares) m, eq-eqb errors (length squares) e, ne_eqb spreads (length squares) s)

        -- where every length fits, the count and the sums are left
        module _ (s : spreads ≡ length squares) where
          pub incomplete : is_complete count ≡ false → 18 ≡ refusal_of count squares fourths means errors spreads
          incomplete b =
              rw (eq-eqb (length squares) (length fourths) h, eq-eqb means (length squares) m, eq-eqb errors (length squares) e, eq-eqb spreads (length squares) s, b)

          pub sums-bad : is_complete count ≡ true → bad_sums count squares fourths ≡ true → 18 ≡ refusal_of count squares fourths means errors spreads
          sums-bad c b =
              rw (eq-eqb (length squares) (length fourths) h, eq-eqb means (length squares) m, eq-eqb errors (length squares) e, eq-eqb spreads (length squares) s, c, b)

          pub accepted : is_complete count ≡ true → bad_sums count squares fourths ≡ false → 0 ≡ refusal_of count squares fourths means errors spreads
          accepted c b =
              rw (eq-eqb (length squares) (length fourths) h, eq-eqb means (length squares) m, eq-eqb errors (length squares) e, eq-eqb spreads (length squares) s, c, b)
