-- The checks of a job in parts, and what they give of a job that none of them refuses.
use Rattle.std.specs.Prelude.{◌≡◌, Bool, true, false, cond, not, List, ℕ, ◌≤◌, ◌<◌, eqb, ltb, Float, length, get_or}
use Rattle.std.specs.Float.{nan}
use Rattle.limits.specs.Limits.{most_pairs, most_window}
use Rattle.transfer_matrix.specs.Job.{too_many_near}
use Rattle.transfer_matrix.specs.Configuration.{numbered}
use Rattle.transfer_matrix.specs.Room as Room
use Rattle.refusals.specs.Edges.{kept, window_from, kept_early, kept_late}
use Rattle.refusals.specs.Request.{Source, bad_list, source_number, passes}
use Rattle.refusals.specs.Accepted.{Accepted}

-- ---- in parts

-- of the checks 12 and 13 the first that fits a call with this window and so many kept edges
abbrev pub buffers_refusal : Room.Arrangement → (n w edges : ℕ) → (us vs : List ℕ) → (misfit : Bool) → (work : ℕ) → ℕ
buffers_refusal arrangement n w edges us vs misfit work = cond misfit 12 (cond (ltb work (Room.room arrangement n w edges us vs)) 13 0)

-- of the checks 10 or 23, 12 and 13 the first, with one factor or coupling for each kept edge and one result for each pair
abbrev pub lists_refusal : Source → Room.Arrangement → (n w edges : ℕ) → List ℕ → List ℕ → List Float → (results work : ℕ) → ℕ
lists_refusal source arrangement n w edges us vs list results work =
    cond (bad_list source list edges) (source_number source) (buffers_refusal arrangement n w edges us vs (not (eqb results (length us))) work)

-- ---- a job that the checks 1 to 8 pass

pub record AcceptedJob (n floor : ℕ) (a b : List ℕ) (m : List Float) (us vs : List ℕ) : Type 0 where
  pub graph : Accepted n a b m
  pub matched : length us ≡ length vs
  pub few-pairs : length us ≤ most_pairs
  pub wide : 1 ≤ window_from floor a b m
  pub narrow : window_from floor a b m ≤ most_window
  pub near : too_many_near n (window_from floor a b m) (numbered (kept_early a b m) (kept_late a b m)) ≡ false
  pub first-inside : (i : ℕ) → i < length us → get_or us i 0 < n
  pub second-inside : (i : ℕ) → i < length us → get_or vs i 0 < n
  pub ends-apart : (i : ℕ) → i < length us → get_or us i 0 ≡ get_or vs i 0 → ⊥

-- ---- and lists that 10, 12 and 13 pass

pub record AcceptedLists (arrangement : Room.Arrangement) (n w edges : ℕ) (us vs : List ℕ) (factors : List Float) (results work : ℕ) : Type 0 where
  pub factor-count : length factors ≡ edges
  pub factors_pass : (e : ℕ) → e < edges → passes (get_or factors e nan) ≡ true
  pub fitting : results ≡ length us
  pub enough : Room.room arrangement n w edges us vs ≤ work

-- ---- A call that is accepted, or refused by 14 alone, has passed all before it.

pub record AcceptedCorrelations (arrangement : Room.Arrangement) (n floor : ℕ) (a b : List ℕ) (m : List Float) (us vs : List ℕ) (factors : List Float) (results work : ℕ)
    : Type 0 where
  pub job : AcceptedJob n floor a b m us vs
  pub lists : AcceptedLists arrangement n (window_from floor a b m) (length (kept a b m)) us vs factors results work
