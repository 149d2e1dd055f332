-- The estimate's case is the definition's; what is not written is stored as it was.
use mathlib.Core.Path.{refl, sym}
use lib.Seq.{set-get_or}
use Rattle.estimates.proofs.table.put_estimate.Goals as goal

pub returns-in-Ok-Estimated : goal.returns-in-Ok-Estimated
returns-in-Ok-Estimated c =
    let at = c.in-Ok-Estimated in
    let put = c.put_row.ensures in
    rw (at.is, rw at.is at at.field-0-is) record { means_after = put.means_after; errors_after = put.errors_after }

pub returns-in-Ok-TooFew : goal.returns-in-Ok-TooFew
returns-in-Ok-TooFew c =
    let at = c.in-Ok-TooFew in
    rw (at.is, rw at.is at at.field-0-is) record { means_after = refl; errors_after = sym (set-get_or _ _ _) }

pub returns-in-Ok-Complete : goal.returns-in-Ok-Complete
returns-in-Ok-Complete c =
    let at = c.in-Ok-Complete in
    rw (at.is, rw at.is at at.field-0-is) record { means_after = refl; errors_after = refl }

pub returns-in-Err : goal.returns-in-Err
returns-in-Err c = rw c.in-Err.is record { means_after = sym (set-get_or _ _ _); errors_after = sym (set-get_or _ _ _) }
