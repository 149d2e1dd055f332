-- What a loop over configurations needs of its lists: sums that begin at zero, lists that kept their lengths, and signs that were made.
use Rattle.std.specs.Prelude.{◌≡◌, Bool, List, ◌++◌, ℕ, ◌+◌, ◌*◌, ◌≤◌, ◌<◌, Float, length}
use Rattle.std.proofs.Common.{ap, ◌∙◌, append-nil, mul-le-mul_right, arith, drop_of_length-le}
use Rattle.list_laws.specs.Part.{put}
use Rattle.list_laws.specs.Tabulate.{tabulate}
use Rattle.list_laws.proofs.Laws.Tabulate.{tabulate-length}
use Rattle.transfer_matrix.specs.Job.{Job}
use Rattle.totals_configuration.specs.declared.JobShape.{JobShape}
use Rattle.totals_configuration.specs.Signed.{PlanOfAll}
use Rattle.totals_configuration.specs.Stage.{Stage, EnoughFactors}

-- a whole list filled
pub put_all : (l s : List Float) → length s ≡ length l → put l 0 s ≡ s
unfolding put
put_all l s e = ap (λ (y : List Float). s ++ y) (drop_of_length-le l {i = 0 + length s} (omega arith)) ∙ append-nil s

pub filled : (l v : List Float) (z : Float) (n k : ℕ) → n ≡ length l → n ≡ k → v ≡ put l 0 (tabulate (λ _. z) n) → v ≡ tabulate (λ _. z) k
filled l v z n k e f p = p ∙ put_all l (tabulate (λ _. z) n) (tabulate-length (λ _. z) n ∙ e) ∙ ap (tabulate (λ _. z)) f

pub stage_with : {plan us vs order : List ℕ} {m end results m' end' results' : ℕ} {s : JobShape} → Stage plan us vs order m s end results
    → m' ≡ m → end' ≡ end → results' ≡ results → Stage plan us vs order m' s end' results'
stage_with g o p q = rw (o, p, q) g

pub factors_with : {factors m betas m' : ℕ} → EnoughFactors factors m betas → m' ≡ m → EnoughFactors factors m' betas
factors_with g o = rw o g

-- the factors of the first betas
pub factors-first : {factors m betas : ℕ} (b : ℕ) → EnoughFactors factors m betas → b < betas → EnoughFactors factors m (b + 1)
factors-first {factors} {m} {betas} b g l =
    let h : (b + 1) * m ≤ betas * m = mul-le-mul_right m (omega arith) in
    let e = g.enough in
    let f = g.few in
    record { enough = omega arith; few = omega arith }

-- beta b has its own part of the sums
pub part_of : (b betas np : ℕ) → b < betas → b * np + np ≤ betas * np
part_of b betas np l = let h : (b + 1) * np ≤ betas * np = mul-le-mul_right np (omega arith) in omega arith

-- the signs that were made are those of m edges that a rule gives
pub signed_of : (J : ℕ → Job Float) (plan : List ℕ) (factors : List Float) (minus : ℕ → Bool) (signs : List Bool) (m : ℕ) (s : JobShape)
    → signs ≡ tabulate minus m → PlanOfAll J plan factors m (tabulate minus m) s → PlanOfAll J plan factors (length signs) signs s
signed_of J plan factors minus signs m s q of = rw (q, tabulate-length) of
