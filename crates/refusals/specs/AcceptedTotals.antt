-- The checks of a call for couplings or totals in parts, and what they give of a call that none of them refuses.
use Rattle.std.specs.Prelude.{◌≡◌, Bool, true, false, cond, ◌||◌, not, List, ℕ, ◌≤◌, ◌<◌, eqb, ltb, Float, length, get_or}
use Rattle.std.specs.Float.{nan}
use Rattle.limits.specs.declared.Caller.{Caller}
use Rattle.limits.specs.Callers.{over_limit}
use Rattle.limits.specs.Limits.{tester_free}
use Rattle.transfer_matrix.specs.Room as Room
use Rattle.refusals.specs.Edges.{kept, window_from}
use Rattle.refusals.specs.Request.{signed_factors}
use Rattle.refusals.specs.Request.{Source, bad_list, source_number, passes, too_many_chunks}
use Rattle.refusals.specs.Accepted.{AcceptedBetas}
use Rattle.refusals.specs.AcceptedJob.{AcceptedJob, buffers_refusal}

-- ---- in parts

-- of the checks 9, 22, 10 or 23, 12 and 13 the first that fits a caller's call with this list of factors or couplings, which should have so many
abbrev pub enumeration_lists : Source → Caller → Room.Arrangement → (n w edges : ℕ) → (us vs : List ℕ) → List Float → (count free most : ℕ) → Bool → (work : ℕ) → ℕ
enumeration_lists source caller arrangement n w edges us vs list count free most misfit work =
    cond (ltb most free) 9 (cond (over_limit caller tester_free free) 22
    (cond (bad_list source list count) (source_number source) (buffers_refusal arrangement n w edges us vs misfit work)))

-- of the checks 10 or 23, 11, 12 and 13 the first
abbrev pub sampling_lists : Source → Room.Arrangement → (n w edges : ℕ) → (us vs : List ℕ) → List Float → (count start end samples : ℕ) → Bool → (work : ℕ) → ℕ
sampling_lists source arrangement n w edges us vs list count start end samples misfit work =
    cond (bad_list source list count) (source_number source)
    (cond (too_many_chunks start end samples) 11 (buffers_refusal arrangement n w edges us vs misfit work))

-- two result buffers are not both of the length that is wanted; one buffer is the same twice
abbrev pub misfits : (wanted squares fourths : ℕ) → Bool
misfits wanted squares fourths = not (eqb squares wanted) || not (eqb fourths wanted)

-- ---- chunks times samples, without their product

-- ---- what has passed where none refuses

-- a call for totals, behind 9 and 11
pub record AcceptedTotals (arrangement : Room.Arrangement) (n floor : ℕ) (a b : List ℕ) (m : List Float) (us vs : List ℕ) (betas factors : List Float) (misfit : Bool) (work : ℕ)
    : Type 0 where
  pub job : AcceptedJob n floor a b m us vs
  pub betas_pass : AcceptedBetas betas
  pub factor-count : length factors ≡ signed_factors (length betas) (length (kept a b m))
  pub factors_pass : (e : ℕ) → e < signed_factors (length betas) (length (kept a b m)) → passes (get_or factors e nan) ≡ true
  pub fitting : misfit ≡ false
  pub enough : Room.room arrangement n (window_from floor a b m) (length (kept a b m)) us vs ≤ work
