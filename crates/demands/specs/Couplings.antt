-- What holds of an accepted call of `couplings`: its betas rise strictly.
use Rattle.std.specs.Prelude.{refl, not, List, ℕ, ◌*◌, eqb, Float, length}
use Rattle.std.proofs.Common.{sym}
use Rattle.refusals.specs.Edges.{kept}
use Rattle.refusals.specs.Key.{Key}
use Rattle.refusals.specs.Request.{coupling_request}
use Rattle.refusals.specs.Refusal.{of_couplings}
use Rattle.refusals.specs.Accepted.{Rising}
use Rattle.refusals.proofs.Laws.First.{passed-at}
use Rattle.refusals.proofs.Laws.Rising.{rising}
use Rattle.couplings.specs.Couplings.{Coupled}

pub couplings-rising : {n : ℕ} {a b : List ℕ} {m betas results results' : List Float} → Coupled n a b m betas 0 results results' → Rising betas
couplings-rising {n} {a} {b} {m} {betas} {results} call =
    rising betas
    (passed-at of_couplings (coupling_request n a b m betas (not (eqb (length results) (length betas * length (kept a b m))))) (sym call.answer) Key.beta_order
    refl)
