-- How long the factors are, and a check told by its test.
use mathlib.Core.Path.{◌≡◌, ap, ◌∙◌}
use mathlib.Core.Bool.{Bool, cond}
use Prim.Native.Nat.{ℕ, ◌*◌, ◌≤◌}
use native.Mathlib.Nat.{mul-le-mul}
use Rattle.limits.specs.Limits.{most_betas, most_edges}

-- one for each beta and edge
pub few-factors : (betas edges : ℕ) → betas ≤ most_betas → edges ≤ most_edges → betas * edges ≤ most_betas * most_edges
few-factors betas edges p q = mul-le-mul p q

-- where t was answered of the test, so it is of the test itself
pub retold : (t test : Bool) (k r rest : ℕ) → t ≡ test → r ≡ cond t k rest → r ≡ cond test k rest
retold t test k r rest e h = h ∙ ap (λ (x : Bool). cond x k rest) e
