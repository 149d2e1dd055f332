-- What a job comes to, from what its checks and the counts of its kept edges gave.
use Rattle.std.specs.Prelude.{◌≡◌, Ok, List, ℕ, ◌≤◌, Float, length, take}
use Rattle.std.proofs.Common.{sym, arith}
use Rattle.limits.specs.declared.Caller.TheVariants.{Desk}
use Rattle.limits.specs.Limits.{most_edges}
use Rattle.transfer_matrix.specs.Room as Room
use Rattle.forest.specs.Paths as Paths
use Rattle.forest.specs.FreeEdges.{free_count}
use Rattle.kept_edges.proofs.Laws.Fronts.{front-early, front-late, early-part, of-kept}
use Rattle.job_checks.specs.declared.job.Job.{Job}
use Rattle.job_checks.specs.Checked.{ReadyJob, CheckedJob}
use Rattle.preview.specs.declared.answer.Figures.{Figures}
use Rattle.preview.specs.Previewed.{Costs, cost_of}

-- figures are equal where each is
each : {w w' f f' r r' : ℕ} → w ≡ w' → f ≡ f' → r ≡ r'
    → ◌≡◌ {A = Figures} (record { window = w; free = f; room = r }) (record { window = w'; free = f'; room = r' })
each p q s = rw (p, q, s)

module _ {n floor : ℕ} {a b : List ℕ} {m : List Float} {us vs : List ℕ} {k w : ℕ} {early early' late late' : List ℕ} {mag mag' : List Float}
    (g : ReadyJob n floor a b m us vs k w early early' late late' mag mag') where
  -- the fronts of the lists are edges that a forest spans
  pub joined : Paths.Edges n (take k early') (take k late')
  joined =
      let E = g.edges in
      rw (front-early g.written, front-late g.written)
      record {
        paired = sym E.matched;
        early-below = λ e l. omega (arith, E.ordered e l, E.inside e l);
        late_below = λ e l. E.inside e l;
      }

  pub few_fronts : length (take k early') ≤ most_edges
  few_fronts = omega (arith, early-part g.written, g.few-edges)

pub costed : {n floor : ℕ} {job : Job} {a b : List ℕ} {m : List Float} {us vs : List ℕ} {betas : List Float} {early early' late late' : List ℕ} {mag mag' : List Float}
    → CheckedJob Desk n floor a b m us vs betas (Ok job) early early' late late' mag mag' → (A B : Room.Arrangement) → A ≡ B → (free room : ℕ)
    → free ≡ free_count (take job.edges early') (take job.edges late') → room ≡ Room.room A n job.window job.edges us vs
    → Costs (cost_of B n floor a b m us vs betas) (Ok (record { window = job.window; free = free; room = room }))
costed checked A B same free room f r =
    let g = checked.ready in
    (checked.refusal, each g.window (of-kept g.written free_count f) (rw (same, g.window, g.written.edges) at r))
