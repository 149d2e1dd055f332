-- The refusal of a call for an error bound in parts: the checks of a job without pairs, then that of the factors.
use Rattle.std.specs.Prelude.{◌≡◌, refl, Bool, true, false, cond, List, [], ◌∷◌, ◌++◌, ℕ, zero, suc, Float, length}
use Rattle.std.specs.declared.result.Result.TheVariants.{Ok, Err}
use Rattle.std.specs.declared.option.Option.TheVariants.{Some, None}
use Rattle.std.proofs.Common.{sym, ap, ◌∙◌}
use Rattle.list_laws.proofs.Laws.Search.{start}
use Rattle.transfer_matrix.specs.Configuration.{numbered}
use Rattle.refusals.specs.Edges.{kept, window_from, kept_early, kept_late}
use Rattle.refusals.specs.Key.{Key}
use Rattle.refusals.specs.Request.{Request, job_request, bad_ends, bad_factor_list}
use Rattle.refusals.specs.Refusal.{refusal, of_room}
use Rattle.refusals.proofs.Laws.Later.{or_else, refusal_in_parts}
use Rattle.error_bound.specs.Bound.{ErrorBound, most_near, error_bound, most_bits, near_one, of_error_bound, error_bound_request, bound_of, factor_count, error_bound_of}

module _ (n floor : ℕ) (a b : List ℕ) (m betas factors : List Float) (count : ℕ) where
  abbrev request : Request
  request = error_bound_request n floor a b m betas factors count

  -- no pair is bad where there is none
  without-pairs : refusal (of_room ++ (Key.factors ∷ [])) request ≡ refusal of_error_bound request
  without-pairs = rw (start (bad_ends n [] []))

  pub in_two_parts : refusal of_error_bound request
      ≡ or_else (refusal of_room (job_request n floor a b m [] [] betas)) (cond (bad_factor_list factors count) 10 0)
  in_two_parts = sym without-pairs ∙ refusal_in_parts of_room (Key.factors ∷ []) request refl

  -- where the first part refuses, and where it does not
  pub first_part : (r w near : ℕ) → r ≡ refusal of_room (job_request n floor a b m [] [] betas) → (r ≡ 0 → ⊥)
      → Err r ≡ bound_of (refusal of_error_bound request) n w near factors
  first_part r w near e h = rw (in_two_parts, ← e) (go r h)
    where
      go : (r : ℕ) → (r ≡ 0 → ⊥) → Err r ≡ bound_of (or_else r (cond (bad_factor_list factors count) 10 0)) n w near factors
      go zero h = absurd (h refl)
      go (suc r) h = refl

  pub second-part : (r : ℕ) → r ≡ refusal of_room (job_request n floor a b m [] [] betas) → r ≡ 0
      → refusal of_error_bound request ≡ cond (bad_factor_list factors count) 10 0
  second-part r e z = in_two_parts ∙ rw (← e, z)

-- ---- the second part, of a graph whose vertices have `near` near edges at most, with the factors' test t

module _ (t : Bool) (n w near : ℕ) (factors : List Float) where
  pub ten_refused : t ≡ true → Err 10 ≡ bound_of (cond t 10 0) n w near factors
  ten_refused e = rw e

  module _ {k bits : ℕ} {ok : Bool} (passed : t ≡ false) (counted : k ≡ near) (most : bits ≡ most_bits w k) (tested : ok ≡ near_one bits factors) where
    is-near : near_one (most_bits w near) factors ≡ ok
    is-near = sym (tested ∙ ap (λ z. near_one z factors) (most ∙ ap (most_bits w) counted))

    pub within-is : ok ≡ true → {x : Float} → x ≡ error_bound n w k → Ok (Some x) ≡ bound_of (cond t 10 0) n w near factors
    within-is e is = rw (passed, is-near, e, is, counted)

    pub unknown-is : ok ≡ false → Ok None ≡ bound_of (cond t 10 0) n w near factors
    unknown-is e = rw (passed, is-near, e)

-- ---- both: what the second part answers of the kept edges in other words
module _ (n floor : ℕ) (a b : List ℕ) (m betas factors : List Float) (signed : Bool) where
  abbrev early : List ℕ
  early = kept_early a b m

  abbrev late : List ℕ
  late = kept_late a b m

  pub answered : {r w k count : ℕ} {x : ErrorBound} {early' late' : List ℕ} → r ≡ refusal of_room (job_request n floor a b m [] [] betas) → r ≡ 0
      → w ≡ window_from floor a b m → k ≡ length (kept a b m) → count ≡ factor_count signed (length betas) k → early' ≡ early → late' ≡ late
      → x ≡ bound_of (cond (bad_factor_list factors count) 10 0) n w (most_near n w (numbered early' late')) factors
      → x ≡ error_bound_of n floor a b m betas factors signed
  answered {r} {w} {k} {count} e z window edges counted p q is =
      is ∙ rw (window, p, q, counted, edges) (ap (λ (j : ℕ). bound_of j n (window_from floor a b m) (most_near n (window_from floor a b m) (numbered early late)) factors)
      (sym (second-part n floor a b m betas factors (factor_count signed (length betas) (length (kept a b m))) r e z)))

  pub refused : {r : ℕ} → r ≡ refusal of_room (job_request n floor a b m [] [] betas) → (r ≡ 0 → ⊥) → Err r ≡ error_bound_of n floor a b m betas factors signed
  refused e h = first_part n floor a b m betas factors (factor_count signed (length betas) (length (kept a b m))) _ _ _ e h
