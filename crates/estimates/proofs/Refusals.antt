-- The refusal by the tests that the code makes, in their order.
use mathlib.Core.Path.{◌≡◌}
use mathlib.Core.Bool.{true, false}
use mathlib.Core.List.{List}
use Prim.Native.Nat.{ℕ}
use lib.Ieee.{Float}
use lib.ListN.{length}
use borrow.Author.Tests.{eq-eqb, ne_eqb}
use Rattle.estimates.specs.Columns.{bad_sums, refusal_of}

module _ (count : ℕ) (squares fourths : List Float) (means errors : ℕ) where
  pub sums_apart : (length squares ≡ length fourths → ⊥) → 2 ≡ refusal_of count squares fourths means errors
  sums_apart h = rw (ne_eqb (length squares) (length fourths) h)

  module _ (h : length squares ≡ length fourths) where
    pub means-misfit : (means ≡ length squares → ⊥) → 12 ≡ refusal_of count squares fourths means errors
    means-misfit m = rw (eq-eqb (length squares) (length fourths) h, ne_eqb means (length squares) m)

    module _ (m : means ≡ length squares) where
      pub errors-misfit : (errors ≡ length squares → ⊥) → 12 ≡ refusal_of count squares fourths means errors
      errors-misfit e =
          rw (eq-eqb (length squares) (length fourths) h, eq-eqb means (length squares) m, ne_eqb errors (length squares) e)

      module _ (e : errors ≡ length squares) where
        pub sums-bad : bad_sums count squares fourths ≡ true → 18 ≡ refusal_of count squares fourths means errors
        sums-bad b =
            rw (eq-eqb (length squares) (length fourths) h, eq-eqb means (length squares) m, eq-eqb errors (length squares) e, b)

        pub accepted : bad_sums count squares fourths ≡ false → 0 ≡ refusal_of count squares fourths means errors
        accepted b =
            rw (eq-eqb (length squares) (length fourths) h, eq-eqb means (length squares) m, eq-eqb errors (length squares) e, b)
