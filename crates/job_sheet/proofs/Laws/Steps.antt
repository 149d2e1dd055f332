-- A reading behind a record of each kind.
use Rattle.std.specs.Prelude.{◌≡◌, refl, ℕ, ◌+◌}
use Rattle.std.proofs.Math.Nat.{add-zero}
use Rattle.job_sheet.specs.Records.{record_length}
use Rattle.job_sheet.specs.Counts.{start, behind}
use Rattle.job_sheet.specs.declared.counts.Reading.{Reading}

-- the reading that has come to these numbers
abbrev pub reading : (place last edges betas pairs : ℕ) → Reading
reading place last edges betas pairs = record { place = place; last = last; edges = edges; betas = betas; pairs = pairs }

pub behind-1 : behind start 1 ≡ reading 4 1 0 0 0
unfolding behind record_length
behind-1 = refl

module _ (at : Reading) where
  pub behind-2 : behind at 2 ≡ reading (at.place + 13) 2 (at.edges + 1) at.betas at.pairs
  unfolding behind record_length
  behind-2 = rw (add-zero at.betas, add-zero at.pairs)

  pub behind-3 : behind at 3 ≡ reading (at.place + 9) 3 at.edges (at.betas + 1) at.pairs
  unfolding behind record_length
  behind-3 = rw (add-zero at.edges, add-zero at.pairs)

  pub behind-4 : behind at 4 ≡ reading (at.place + 5) 4 at.edges at.betas (at.pairs + 1)
  unfolding behind record_length
  behind-4 = rw (add-zero at.edges, add-zero at.betas)
