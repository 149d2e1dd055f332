-- Couplings that the checks passed, and the factors that are laid for them.
use mathlib.Core.Path.{◌≡◌, sym, ap, ◌∙◌}
use mathlib.Core.Bool.{false, not}
use mathlib.Core.List.{List}
use Prim.Native.Nat.{ℕ, ◌≤◌}
use native.Mathlib.Omega.{arith}
use lib.Dec.{eqb}
use lib.Ieee.{Float}
use lib.ListN.{length, take}
use borrow.Author.Tests.{eqb-true, not-false}
use Rattle.coupling_grid.specs.Grid.{some_off_grid}
use Rattle.house_factors.specs.Factors.{single_factors}
use Rattle.house_factors.proofs.Laws.Factors.{single-length}
use Rattle.list_laws.proofs.Laws.Search.{or-false}
use Rattle.transfer_matrix.specs.Room as Room
use Rattle.refusals.specs.Request.{house, bad_coupling_list}
use Rattle.refusals.proofs.Laws.First.{unless}
use Rattle.refusals.specs.AcceptedJob.{lists_refusal}
use Rattle.refusals.proofs.Laws.AcceptedJob.{accepted-buffers}
use Rattle.kept_edges.proofs.Laws.Fronts.{front-early}
use Rattle.job_checks.specs.Checked.{ReadyJob}
use Rattle.job_checks.proofs.Laws.Plannable.{edge_count, plannable}
use Rattle.job_run.specs.Passed.{JobPassed}

-- what 23, 12 and 13 pass
pub record Housed (arrangement : Room.Arrangement) (n w edges : ℕ) (us vs : List ℕ) (couplings : List Float) (results work : ℕ) : Type 0 where
  pub count : length couplings ≡ edges
  pub on_grid : some_off_grid couplings ≡ false
  pub fitting : results ≡ length us
  pub enough : Room.room arrangement n w edges us vs ≤ work

pub housed-of : (A : Room.Arrangement) (n w edges : ℕ) (us vs : List ℕ) (couplings : List Float) (results work : ℕ)
    → lists_refusal house A n w edges us vs couplings results work ≡ 0 → Housed A n w edges us vs couplings results work
housed-of A n w edges us vs couplings results work h =
    let t23 = unless (bad_coupling_list couplings edges) {k = 23} (omega arith) h in
    let f = or-false (not (eqb (length couplings) edges)) (some_off_grid couplings) t23.0 in
    let buffers = accepted-buffers A n w edges us vs (not (eqb results (length us))) work t23.1 in
    record {
      count = eqb-true _ _ (not-false _ f.0);
      on_grid = f.1;
      fitting = eqb-true _ _ (not-false _ buffers.0);
      enough = buffers.1;
    }

module _ {n floor : ℕ} {a b : List ℕ} {m : List Float} {us vs : List ℕ} {k w : ℕ} {early early' late late' : List ℕ} {mag mag' : List Float}
    (g : ReadyJob n floor a b m us vs k w early early' late late' mag mag') where
  -- a job with these factors
  pub job-passed : (A : Room.Arrangement) (factors couplings : List Float) (results work : ℕ) → factors ≡ single_factors couplings
      → Housed A n w k us vs couplings results work → JobPassed A n w (take k early') (take k late') us vs factors results work
  job-passed A factors couplings results work e h =
      rw (front-early g.written)
      record {
        job = rw (← front-early g.written) (plannable g A work h.enough);
        factored = ap length e ∙ single-length couplings ∙ h.count ∙ g.written.edges ∙ sym (edge_count g);
        fitting = h.fitting;
      }
