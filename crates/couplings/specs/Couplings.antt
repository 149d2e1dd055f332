-- What `couplings` answers and leaves in the results.
use Rattle.std.specs.Prelude.{◌≡◌, not, List, ℕ, ◌*◌, eqb, Float, length}
use Rattle.refusals.specs.Edges.{kept, kept_magnitudes}
pub use Rattle.refusals.specs.Couplings.{coupling_at, all_couplings}
use Rattle.refusals.specs.Request.{coupling_request}
use Rattle.refusals.specs.Refusal.{refusal, of_couplings}
use Rattle.refusals.specs.Answers.{left}

-- The answer r of a call, and the results after it.
pub record Coupled (n : ℕ) (a b : List ℕ) (m betas : List Float) (r : ℕ) (results results' : List Float) : Type 0 where
  pub answer : r ≡ refusal of_couplings (coupling_request n a b m betas (not (eqb (length results) (length betas * length (kept a b m)))))
  pub coupled : results' ≡ left r (all_couplings betas (kept_magnitudes a b m)) results
