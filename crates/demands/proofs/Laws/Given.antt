-- The job of a call that passes its checks is what the theorems of the definition ask for.
use Rattle.std.specs.Prelude.{◌≡◌, Bool, true, false, cond, List, ℕ, ◌+◌, ◌-◌, ◌*◌, ◌≤◌, ◌<◌, Float}
use Rattle.std.proofs.Common.{sym, ◌∙◌, mul-le-mul_right, arith, eq-eqb}
use Rattle.std.proofs.Math.Dec.{T}
use Rattle.std.specs.Float.{nan}
use Rattle.std.specs.Float.Ieee.Positive.{positive}
use Rattle.std.proofs.Math.ListN.{length, get_or, length-map}
use Rattle.transfer_matrix.specs.Room as Room
use Rattle.list_laws.specs.Search.{some}
use Rattle.list_laws.proofs.Laws.Search.{none-at}
use Rattle.list_laws.proofs.Laws.Most.{most-above}
use Rattle.transfer_matrix.specs.Job.{Edge, Manner, Job, longest, window_of}
use Rattle.transfer_matrix.specs.Configuration.{lent_at, edges_with, configured}
use Rattle.transfer_matrix.specs.Checked.{Kept, Checked}
use Rattle.refusals.specs.Edges.{kept, window_from, kept_early, kept_late}
use Rattle.refusals.specs.Request.{same_ends, joined_twice, signed_factors}
use Rattle.refusals.proofs.Laws.Accepted.{kept-inside}
use Rattle.refusals.specs.AcceptedJob.{AcceptedJob, AcceptedCorrelations}
use Rattle.refusals.proofs.Laws.AcceptedJob.{passes-positive}
use Rattle.refusals.specs.AcceptedTotals.{AcceptedTotals}
use Rattle.entry_correlations.specs.Correlations.{manner_of, job_given}
use Rattle.entry_correlations.specs.declared.Manner as Given
use Rattle.totals_call.specs.Jobs.{job_signed}
use Rattle.demands.proofs.Laws.Lists.{all_made, apart-made}

-- no edge is longer than the window
reaches : (floor : ℕ) (early late : List ℕ) (e : ℕ) → e < length early → get_or late e 0 - get_or early e 0 ≤ window_of floor early late
unfolding window_of longest
reaches floor early late e l = omega (arith, most-above (λ i. get_or late i 0 - get_or early i 0) (length early) e l)

-- edges that check 5 passes
ends-differ : (early late : List ℕ) → joined_twice early late ≡ false → (i j : ℕ) → i < j → j < length early
    → get_or early i 0 ≡ get_or early j 0 → get_or late i 0 ≡ get_or late j 0 → ⊥
ends-differ early late h i j a b p q =
    let twice = none-at (λ e. some (same_ends early late e) e) (length early) j b h in
    let t = none-at (same_ends early late j) j i a twice in
    let u : true ≡ false = sym (rw (eq-eqb _ _ p, eq-eqb _ _ q)) ∙ t in
    (let z : ◌≡◌ {A = ℕ} 0 1 = cc in omega arith)

-- the kept edges with a factor each that is finite and above zero
module _ (n floor : ℕ) (a b : List ℕ) (m : List Float) (us vs : List ℕ) (manner : Manner) (ok : AcceptedJob n floor a b m us vs) (factor : ℕ → Float)
    (sound : (e : ℕ) → e < length (kept a b m) → T (positive (factor e))) where
  abbrev early : List ℕ
  early = kept_early a b m

  abbrev late : List ℕ
  late = kept_late a b m

  abbrev pub job_made : Job Float
  job_made = record { last = n - 1; window = window_from floor a b m; edges = edges_with early late factor; manner = manner }

  abbrev edge_at : ℕ → Edge Float
  edge_at e = record { early = get_or early e 0; late = get_or late e 0; factor = factor e }

  edge_kept : (e : ℕ) → e < length early → Kept (λ x. T (positive x)) job_made (edge_at e)
  edge_kept e l =
      let k : e < length (kept a b m) = omega (arith, length-map (kept a b m) (λ x. x.early)) in
      let i = kept-inside n a b m ok.graph.edges e k in
      record { ordered = i.0; inside = omega (arith, i.1); reached = omega (arith, reaches floor early late e l); passed = sound e k }

  pub checked-made : Checked (λ x. T (positive x)) job_made
  unfolding edges_with
  checked-made = record {
    window = ok.wide;
    edges = all_made (Kept (λ x. T (positive x)) job_made) edge_at (length early) edge_kept;
    apart = apart-made edge_at (length early) (λ i j p q s. ends-differ early late ok.graph.apart i j p q s.0 s.1);
  }

-- of `correlations`: one factor for each kept edge
pub checked-given : (n floor : ℕ) (a b : List ℕ) (m : List Float) (us vs : List ℕ) (factors : List Float) (results work : ℕ) (manner : Given.Manner)
    → {A : Room.Arrangement} → AcceptedCorrelations A n floor a b m us vs factors results work → Checked (λ x. T (positive x)) (job_given n floor a b m factors manner)
checked-given n floor a b m us vs factors results work manner ok =
    checked-made n floor a b m us vs (manner_of manner) ok.job (λ e. get_or factors e nan) (λ e l. passes-positive (get_or factors e nan) (ok.lists.factors_pass e l))

-- of totals: two factors for each beta and kept edge
module _ (n floor : ℕ) (a b : List ℕ) (m : List Float) (us vs : List ℕ) (betas factors : List Float) (misfit : Bool) (work : ℕ) (manner : Given.Manner)
    {A : Room.Arrangement} (ok : AcceptedTotals A n floor a b m us vs betas factors misfit work) where
  pub lent-inside : (edges b e : ℕ) (minus : Bool) → e < edges → b < length betas → lent_at edges b e minus < signed_factors (length betas) edges
  lent-inside edges b e minus l k =
      let h : (b + 1) * edges ≤ length betas * edges = mul-le-mul_right edges (omega arith) in
      let s = sign_small minus in
      omega arith
    where
      sign_small : (s : Bool) → cond s 1 0 ≤ 1
      sign_small true = omega arith
      sign_small false = omega arith

  pub checked-signed : (minus : ℕ → Bool) (beta : ℕ) → beta < length betas
      → Checked (λ x. T (positive x)) (job_signed n (window_from floor a b m) (kept_early a b m) (kept_late a b m) factors (manner_of manner) minus beta)
  unfolding configured
  checked-signed minus beta l =
      let c : length (kept_early a b m) ≡ length (kept a b m) = length-map (kept a b m) (λ x. x.early) in
      checked-made n floor a b m us vs (manner_of manner) ok.job
      (λ e. get_or factors (lent_at (length (kept_early a b m)) beta e (minus e)) nan)
      (λ e k. passes-positive _ (ok.factors_pass (lent_at (length (kept_early a b m)) beta e (minus e))
      (rw c (lent-inside (length (kept a b m)) beta e (minus e) k l))))
