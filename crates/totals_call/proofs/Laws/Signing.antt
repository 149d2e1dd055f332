-- The plan of a job is that of each of its configurations.
use Rattle.std.specs.Prelude.{◌≡◌, refl, Bool, true, cond, ◌&&◌, List, ℕ, ◌+◌, ◌-◌, ◌*◌, ◌≤◌, ◌<◌, Float, length}
use Rattle.std.proofs.Common.{sym, ◌∙◌, subst, arith}
use Rattle.std.proofs.Math.Path.{ap}
use Rattle.std.proofs.Math.Bool.{false}
use Rattle.std.specs.Float.Ieee.{nan}
use Rattle.std.proofs.Math.ListN.{get_or}
use Rattle.list_laws.specs.Bits.{bit}
use Rattle.list_laws.specs.Tabulate.{tabulate}
use Rattle.list_laws.proofs.Laws.Tabulate.{tabulate-at, tabulate_ext}
use Rattle.edge_bits.specs.Having.{has_bit}
use Rattle.forest.specs.FreeEdges.{free_count, bit_of, bits_of}
use Rattle.forest.proofs.Laws.FreeEdges.{bits-long, bits_at, bit_below}
use Rattle.transfer_matrix.specs.Job.{Edge}
use Rattle.transfer_matrix.specs.Room.{Arrangement}
use Rattle.transfer_matrix.specs.Configuration.{enumerated_minus, sampled_minus, lent_at, edges_with, configured}
use Rattle.plan_layout.specs.Work.{Planned}
use Rattle.vertex_step.specs.Ready.{PlanOf}
use Rattle.pair_correlations.proofs.Laws.Planning.{plan_of}
use Rattle.totals_signs.specs.Fit.{BitsFit}
use Rattle.totals_signs.specs.Signed.{factors_in_use}
use Rattle.totals_configuration.specs.declared.JobShape.{JobShape}
use Rattle.totals_configuration.specs.Signed.{PlanOfAll, PlanOfRun}
use Rattle.totals_enumerated.specs.Configurations.{enumerated_signs}
use Rattle.totals_sampled.specs.Samples.{sampled_signs}
use Rattle.totals_chunks.specs.declared.Chunks.{Chunks}
use Rattle.totals_chunks.specs.Totals.{PlanOfChunks}
use Rattle.totals_call.specs.Jobs.{job_signed, job_enumerated, job_in}
use Rattle.totals_call.specs.Finished.{stepping}

-- ---- the bits of the edges, as a list and as a rule

-- rules that agree at an edge give it one sign
same-minus : (s t : ℕ → ℕ) (x e : ℕ) → s e ≡ t e → enumerated_minus s x e ≡ enumerated_minus t x e
unfolding enumerated_minus
same-minus s t x e h = ap (λ (b : ℕ). has_bit b && bit b x) h

module _ (early late bits : List ℕ) (given : bits ≡ bits_of early late) where
  own : (e : ℕ) → e < length early → get_or bits e 0 ≡ bit_of early late e
  own e l = ap (λ (y : List ℕ). get_or y e 0) given ∙ bits_at early late e l

  pub as_long : length bits ≡ length early
  as_long = ap length given ∙ bits-long early late

  pub few_bits : free_count early late ≤ 64 → BitsFit bits
  few_bits few e l t =
      let k : e < length early = omega (arith, as_long) in
      omega (arith, own e k, bit_below early late e k (ap has_bit (sym (own e k)) ∙ t))

  same-signs : (x : ℕ) → enumerated_signs bits x ≡ tabulate (enumerated_minus (bit_of early late) x) (length early)
  same-signs x =
      ap (tabulate (enumerated_minus (λ e. get_or bits e 0) x)) as_long
      ∙ tabulate_ext _ _ (length early) (λ e l. same-minus (λ i. get_or bits i 0) (bit_of early late) x e (own e l))

-- ---- the plan

module _ (A : Arrangement) (plan early late us vs : List ℕ) (n w places scales at end : ℕ) (g : Planned A plan early late us vs n w places scales at end) (some : 1 ≤ n)
    (factors : List Float) (elementwise less : Bool) (betas : ℕ) where
  -- the factors in use, by the signs as a list and as a rule
  signed-edges : (b : ℕ) (minus : ℕ → Bool)
      → edges_with early late (λ e. get_or (factors_in_use factors (length early) b (tabulate minus (length early))) e nan) ≡ configured nan early late factors b minus
  unfolding configured edges_with
  signed-edges b minus =
      tabulate_ext _ _ (length early)
      (λ e l. ap (λ (x : Float). record { early = get_or early e 0; late = get_or late e 0; factor = x })
      (tabulate-at (λ i. get_or factors (lent_at (length early) b i (get_or (tabulate minus (length early)) i false)) nan) (length early) e nan l
      ∙ ap (λ (s : Bool). get_or factors (lent_at (length early) b e s) nan) (tabulate-at minus (length early) e false l)))

  -- what every sweep reads
  abbrev shape : JobShape
  shape = record { n = n; w = w; scales = scales; elementwise = elementwise; less = less; betas = betas }

  signed_plan : (minus : ℕ → Bool)
      → PlanOfAll (job_signed n w early late factors (stepping elementwise) minus) plan factors (length early) (tabulate minus (length early)) shape
  signed_plan minus b l =
      let x = factors_in_use factors (length early) b (tabulate minus (length early)) in
      subst (λ (es : List (Edge Float)). PlanOf (record { last = n - 1; window = w; edges = es; manner = stepping elementwise }) plan x n w elementwise)
      (signed-edges b minus) (plan_of A plan early late us vs n w places scales at end g some x elementwise)

  -- the same with the signs of a list that a rule gives, of so many edges
  listed_plan : (minus : ℕ → Bool) (m : ℕ) (signs : List Bool) → m ≡ length early → signs ≡ tabulate minus (length early)
      → PlanOfAll (job_signed n w early late factors (stepping elementwise) minus) plan factors m signs shape
  listed_plan minus m signs e s =
      let J = job_signed n w early late factors (stepping elementwise) minus in
      subst (λ (k : ℕ). PlanOfAll J plan factors k signs shape) (sym e)
      (subst (λ (l : List Bool). PlanOfAll J plan factors (length early) l shape) (sym s) (signed_plan minus))

  -- configurations by number
  pub numbered_plan : (bits : List ℕ) → bits ≡ bits_of early late
      → PlanOfRun (job_enumerated n w early late factors (stepping elementwise)) plan factors (length bits) (enumerated_signs bits) shape
  numbered_plan bits given x =
      listed_plan (enumerated_minus (bit_of early late) x) (length bits) (enumerated_signs bits x) (as_long early late bits given)
      (same-signs early late bits given x)

  -- and chunk by chunk, where drawn ones read no bit
  pub chunked_plan : (k : Chunks) (bits : List ℕ) → length bits ≡ length early → (k.drawn ≡ false → bits ≡ bits_of early late)
      → PlanOfChunks (job_in n w early late factors (stepping elementwise) k) plan factors bits k shape
  chunked_plan k bits long given i j = go k.drawn refl
    where
      go : (d : Bool) → k.drawn ≡ d
          → PlanOfAll (job_signed n w early late factors (stepping elementwise)
          (cond d (sampled_minus k.seed (length early) i j) (enumerated_minus (bit_of early late) (i * k.size + j)))) plan factors (length bits)
          (cond d (sampled_signs k.seed (length bits) i j) (enumerated_signs bits (i * k.size + j))) shape
      go true e =
          listed_plan (sampled_minus k.seed (length early) i j) (length bits) (sampled_signs k.seed (length bits) i j) long
          (ap (λ (m : ℕ). sampled_signs k.seed m i j) long)
      go false e = numbered_plan bits (given e) (i * k.size + j)
