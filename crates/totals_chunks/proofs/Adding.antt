-- Chunks, numbered from the first on, and the plan of each.
use mathlib.Core.Path.{◌≡◌, sym, ap, subst}
use mathlib.Core.Bool.{Bool, true, false, cond, not}
use mathlib.Core.List.{List}
use Prim.Native.Nat.{ℕ, ◌+◌, ◌-◌, ◌*◌, ◌^◌, ◌≤◌, ◌<◌}
use native.Mathlib.Nat.{mul-le-mul_right}
use lib.Pow.{pow_mono}
use native.Mathlib.Omega.{arith}
use lib.Ieee.{Float}
use lib.ListN.{length}
use Rattle.list_laws.specs.Search.{some}
use Rattle.transfer_matrix.specs.Job.{Job}
use Rattle.transfer_matrix.specs.Totals.{chunk_size, chunked, sampled}
use Rattle.totals_configuration.specs.declared.JobShape.{JobShape}
use Rattle.totals_configuration.specs.Signed.{PlanOfRun}
use Rattle.totals_configuration.proofs.Laws.Chunked.{Chunked}
use Rattle.totals_enumerated.specs.Configurations.{enumerated_signs, PlanFrom}
use Rattle.totals_sampled.specs.Samples.{sampled_signs, PlanOfSamples}
use Rattle.totals_chunks.specs.declared.Chunks.{Chunks}
use Rattle.totals_chunks.specs.Totals.{signs_in, Summable, Totals}

pub no : true ≡ false → ⊥
no z = let z' : ◌≡◌ {A = ℕ} 0 1 = cc in omega arith

-- a chunk of all configurations holds some
pub size-some : (free : ℕ) → 0 < chunk_size free
size-some free = let h : 1 ≤ 2 ^ free = pow_mono {i = 0} (omega arith) in omega arith

-- ---- the plan of a chunk is of its samples, or of the configurations with its numbers

module _ (J : ℕ → ℕ → Job Float) (plan : List ℕ) (factors : List Float) (k : Chunks) (bits : List ℕ) (i : ℕ) (s : JobShape)
    (of : PlanOfRun J plan factors (length bits) (signs_in k bits i) s) where
  plan_where : (d : Bool) → k.drawn ≡ d → PlanOfRun J plan factors (length bits)
      (λ j. cond d (sampled_signs k.seed (length bits) i j) (enumerated_signs bits (i * k.size + j))) s
  plan_where d e =
      subst (λ (x : Bool). PlanOfRun J plan factors (length bits)
      (λ j. cond x (sampled_signs k.seed (length bits) i j) (enumerated_signs bits (i * k.size + j))) s) e of

  pub drawn_plan : (signs : ℕ) → signs ≡ length bits → k.drawn ≡ true → PlanOfSamples J plan factors signs k.seed i s
  drawn_plan signs e d = subst (λ (m : ℕ). PlanOfSamples J plan factors m k.seed i s) (sym e) (plan_where true d)

  pub numbered_plan : k.drawn ≡ false → PlanFrom J plan factors bits (i * k.size) s
  numbered_plan d = plan_where false d

-- the numbers of a chunk fit
pub numbers_fit : {k : Chunks} {bits : List ℕ} {signs : ℕ} (i : ℕ) → Summable k bits signs → k.drawn ≡ false → i < k.end
    → i * k.size + k.size ≤ 18446744073709551615
numbers_fit {k} i g d l = let h : (i + 1) * k.size ≤ k.end * k.size = mul-le-mul_right k.size (omega arith) in omega (arith, g.fits d)

-- ---- chunk after chunk

-- the first has number 0 among them
pub first_chunk : {U : ℕ → ℕ → Bool} {c : ℕ → ℕ → ℕ → Float} {size n : ℕ} {squares fourths : List Float} (first : ℕ)
    → Chunked U c size 0 n squares fourths → Chunked U c size (first - first) n squares fourths
first_chunk first g = let z : first - first ≡ 0 = omega arith in rw z g

pub chunk_more : {U : ℕ → ℕ → Bool} {c : ℕ → ℕ → ℕ → Float} {size n : ℕ} {squares fourths : List Float} (first i : ℕ) → first ≤ i
    → Chunked U c size (i - first + 1) n squares fourths → Chunked U c size (i + 1 - first) n squares fourths
chunk_more first i l g = let z : i + 1 - first ≡ i - first + 1 = omega arith in rw z g

-- all chunks
pub all-summed : (U : ℕ → ℕ → Bool) (c : ℕ → ℕ → ℕ → Float) (k : Chunks) (n : ℕ) (squares fourths : List Float)
    → Chunked (λ i. U (k.first + i)) (λ i. c (k.first + i)) k.size (k.end - k.first) n squares fourths
    → (true ≡ not (some (λ i. some (U (k.first + i)) k.size) (k.end - k.first))) × Totals k c n squares fourths
unfolding sampled chunked
all-summed U c k n squares fourths g = (sym (ap not g.none), record { squared = g.squared; fourthed = g.fourthed })
