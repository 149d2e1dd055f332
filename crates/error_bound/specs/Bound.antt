-- What a call for an error bound answers, from the graph, its window and the lent factors.
use Rattle.std.specs.Prelude.{Bool, false, cond, not, ◌&&◌, List, [], ◌∷◌, ◌++◌, ℕ, zero, suc, ◌+◌, ◌*◌, ◌-◌, ◌/◌, ◌^◌, min, pos, Float, length, get_or}
use Rattle.std.specs.declared.result.Result.{Result}
use Rattle.std.specs.declared.result.Result.TheVariants.{Ok, Err}
use Rattle.std.specs.declared.option.Option.{Option}
use Rattle.std.specs.declared.option.Option.TheVariants.{Some, None}
use Rattle.std.specs.Float.{nan, binary64}
use Rattle.std.specs.Float.Ieee.{div, of_int, of_bits, le}
use Rattle.limits.specs.declared.Caller.TheVariants.{Desk}
use Rattle.list_laws.specs.Search.{some}
use Rattle.list_laws.specs.Most.{most}
use Rattle.transfer_matrix.specs.Configuration.{numbered}
use Rattle.transfer_matrix.specs.Job.{Edge, back_edges}
use Rattle.transfer_matrix.specs.Room.{keep_all}
use Rattle.refusals.specs.Edges.{kept, window_from, kept_early, kept_late}
use Rattle.refusals.specs.Request.{Request, sweep_request, single, signed_factors}
use Rattle.refusals.specs.Key.{Key}
use Rattle.refusals.specs.Refusal.{refusal, of_graph}
use Rattle.accuracy.specs.Stated as Accuracy

-- An accepted call tells the bound, within which every correlation is of the exact value, or that none is proved, the factors being too far from one;
-- any other tells the refusal's number.
abbrev pub ErrorBound : Type 0
ErrorBound = Result (Option Float) ℕ

-- The most back edges shorter than the window that one of n vertices has.
unfoldable pub most_near : {K : Type 0} → (n w : ℕ) → List (Edge K) → ℕ
unfolding most
most_near n w es = most (λ t. length (back_edges es t 1 (w - 1))) n

-- (2 (near + 5) n + 2 ^ (w + 1) + 6) / 2 ^ 53
abbrev pub error_bound : (n w near : ℕ) → Float
error_bound = Accuracy.error_bound

-- The most binary digits k that factors may have: the largest with k (near + 1) (2 w + 8) + w + 57 at most 1,022, and 52 at most.
abbrev pub most_bits : (w near : ℕ) → ℕ
most_bits w near = min 52 ((965 - w) / ((near + 1) * (2 * w + 8)))

-- 2 ^ bits as a double
abbrev pub power_of : ℕ → Float
power_of bits = of_int binary64 (pos (2 ^ bits))

-- x is at most 2 ^ bits, and at least one over it
abbrev pub inside_powers : ℕ → Float → Bool
inside_powers bits x = le x (power_of bits) && le (div binary64 (of_bits binary64 0x3ff0_0000_0000_0000) (power_of bits)) x

-- So is every factor, plus and minus factors alike.
abbrev pub near_one : ℕ → List Float → Bool
near_one bits factors = not (some (λ e. not (inside_powers bits (get_or factors e nan))) (length factors))

-- The answer, by the refusal's number: the bound where the factors are near enough to one, else none is known.
abbrev pub bound_of : (refused n w near : ℕ) → List Float → ErrorBound
bound_of zero n w near factors = cond (near_one (most_bits w near) factors) (Ok (Some (error_bound n w near))) (Ok None)
bound_of (suc k) n w near factors = Err (suc k)

-- The checks that concern it: no pair is given, and nothing is swept.
abbrev pub of_error_bound : List Key
of_error_bound = of_graph ++ (Key.window ∷ Key.near_edges ∷ Key.factors ∷ [])

abbrev pub error_bound_request : (n floor : ℕ) → (a b : List ℕ) → (m betas factors : List Float) → (count : ℕ) → Request
error_bound_request n floor a b m betas factors count = sweep_request Desk keep_all n floor a b m [] [] betas single factors count false 0 false

-- How many factors there should be: one for each kept edge or, signed, two for each beta and kept edge.
abbrev pub factor_count : (signed : Bool) → (betas edges : ℕ) → ℕ
factor_count signed betas edges = cond signed (signed_factors betas edges) edges

-- What `error_bound` answers, with no beta, and `totals_error_bound`, whose factors are signed.
abbrev pub error_bound_of : (n floor : ℕ) → (a b : List ℕ) → (m betas factors : List Float) → (signed : Bool) → ErrorBound
error_bound_of n floor a b m betas factors signed =
    let w = window_from floor a b m in
    bound_of (refusal of_error_bound (error_bound_request n floor a b m betas factors (factor_count signed (length betas) (length (kept a b m))))) n w
    (most_near n w (numbered (kept_early a b m) (kept_late a b m))) factors
