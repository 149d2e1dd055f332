-- The near edges that a plan counts are the definition's, whatever their factors, and at most four where 7 passes.
use Rattle.std.specs.Prelude.{◌≡◌, refl, false, List, [], ℕ, zero, suc, ◌-◌, ◌≤◌, ◌<◌, length}
use Rattle.std.proofs.Common.{sym, ap, ◌∙◌, ltb-false}
use Rattle.list_laws.specs.Most.{most}
use Rattle.list_laws.proofs.Laws.Most.{most-above, most-least, most_ext}
use Rattle.list_laws.proofs.Laws.Search.{none-at}
use Rattle.transfer_matrix.specs.Configuration.{edges_with, numbered}
use Rattle.transfer_matrix.specs.Job.{Edge, per_element, back_edges, too_many_near}
use Rattle.plan_steps.specs.Edges.{Steps}
use Rattle.plan_steps.specs.Layout.{near_count, near_from}
use Rattle.plan_steps.proofs.Laws.Listed.{backs_listed, listed-length}
use Rattle.error_bound.specs.Bound.{most_near}

-- how many near edges a vertex has does not turn on the factors
pub near_any : {K L : Type 0} (f : ℕ → K) (g : ℕ → L) (early late : List ℕ) (t k : ℕ)
    → length (back_edges (edges_with early late f) t 1 k) ≡ length (back_edges (edges_with early late g) t 1 k)
near_any f g early late t k =
    ap length (backs_listed early late f t 1 k) ∙ listed-length f g _ 1 k ∙ sym (ap length (backs_listed early late g t 1 k))

pub most_near_any : {K L : Type 0} (f : ℕ → K) (g : ℕ → L) (early late : List ℕ) (n w : ℕ)
    → most_near n w (edges_with early late f) ≡ most_near n w (edges_with early late g)
unfolding most_near
most_near_any f g early late n w = most_ext _ _ n (λ t l. near_any f g early late t (w - 1))

-- ---- a plan

near-length : {K : Type 0} (factor : ℕ → K) (plan : List ℕ) (t i k : ℕ) → length (near_from factor plan t i k) ≡ k
unfolding near_from
near-length factor plan t i zero = refl
near-length factor plan t i (suc k) = ap suc (near-length factor plan t (suc i) k)

pub most-counted : (plan early late : List ℕ) (n w : ℕ) → Steps plan early late n w → most (near_count plan) n ≡ most_near n w (numbered early late)
unfolding most_near
most-counted plan early late n w steps =
    most_ext _ _ n
    (λ t l.
    sym (near-length _ plan t 0 (near_count plan t))
    ∙ ap (λ s. length s.others) (steps.step [] per_element t l)
    ∙ near_any _ (λ e. e) early late t (w - 1))

-- ---- check 7

pub near-four : {K : Type 0} (n w : ℕ) (es : List (Edge K)) → too_many_near n w es ≡ false → most_near n w es ≤ 4
unfolding too_many_near most_near
near-four n w es h = most-least _ n 4 (λ t l. ltb-false 4 (length (back_edges es t 1 (w - 1))) (none-at _ n t l h))

pub near-most : {K : Type 0} (n w : ℕ) (es : List (Edge K)) (t : ℕ) → t < n → length (back_edges es t 1 (w - 1)) ≤ most_near n w es
unfolding most_near
near-most n w es t l = most-above (λ t. length (back_edges es t 1 (w - 1))) n t l
