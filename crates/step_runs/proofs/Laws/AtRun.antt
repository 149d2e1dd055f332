-- Laws of what specs/AtRun defines.
use Rattle.std.specs.Prelude.{◌≡◌, List, ℕ, suc, ◌+◌, ◌*◌, ◌%◌, ◌^◌, ◌≤◌, ◌<◌, get_or}
use Rattle.std.proofs.Common.{suc-mul, arith, pow_pos, pow_mono}
use Rattle.list_laws.proofs.Laws.Power.{pow_even}
use Rattle.step_tables.specs.Step.{Rising, pattern_by}
use Rattle.step_tables.proofs.Laws.Pattern.{block_fits, pattern-16}
use Rattle.step_runs.proofs.Laws.Picks.{run_one, run_two}
use Rattle.step_runs.specs.AtRun.{Runs, TwoRuns}

-- the patterns of the bits can be taken
pub readable : {l : List ℕ} {n h : ℕ} → Rising l n (h + 1) → h < 23 → (n ≤ 4) × ((i : ℕ) → i < n → get_or l i 0 < 64)
readable r b = (r.few, λ i c. omega (arith, r.low i c))

-- a run begins at k
pub record AtRun (e end k : ℕ) : Type 0 where
  pub number : ℕ
  pub begins : k ≡ number * 2 ^ e
  pub within : k ≤ end

pub first_run : (e end : ℕ) → AtRun e end 0
first_run e end = record { number = 0; begins = omega arith; within = omega arith }

-- ---- one step

module _ {l : List ℕ} {n g e end size one : ℕ} (r : Runs l n g e end size one) where
  pub run_size : 0 < size
  run_size = rw r.length (pow_pos e)

  pub run_even : size % 2 ≡ 0
  run_even = rw r.length (pow_even e r.some)

  module _ {k : ℕ} (a : AtRun e end k) (u : k < end) where
    pub run_ends : k + size ≤ end
    run_ends = rw (r.ends, r.length, a.begins) (block_fits a.number e g r.inside (omega (arith, r.ends, a.begins)))

    pub next_run : AtRun e end (k + size)
    next_run =
        record {
          number = suc a.number;
          begins = rw (r.length, a.begins) (omega (arith, suc-mul a.number (2 ^ e)));
          within = run_ends;
        }

    -- the patterns of its places are indexes of tables
    pub run_16 : (m : ℕ) → m ≡ pattern_by l n k → m + one < 16
    run_16 m p =
        let c : 1 < size = omega (arith, run_even, run_size) in
        let y = run_one a.number one r.sparse r.some a.begins p r.odd 1 (rw r.length at c) in
        omega (arith, pattern-16 l 0 n (k + 1) r.few)

-- ---- two steps

module _ {l : List ℕ} {n : ℕ} {l' : List ℕ} {n' g h e end quarter size one low two : ℕ} (r : TwoRuns l n l' n' g h e end quarter size one low two)
    {k : ℕ} (a : AtRun e end k) (u : k < end) where
  -- the run lies in the quarter
  pub run_inside : k + size ≤ quarter
  run_inside = let b : end ≤ quarter = rw (r.first.ends, r.whole) (pow_mono r.within) in omega (arith, run_ends r.first a u)

  pub second-16 : (m : ℕ) → m ≡ pattern_by l' n' (2 * k) → m + low + two < 16
  second-16 m p =
      let c : 1 < size = omega (arith, run_even r.first, run_size r.first) in
      let y = run_two a.number low two r.second r.first.some a.begins p r.odd' r.next' 3 (omega (arith, r.first.length)) in
      omega (arith, pattern-16 l' 0 n' (2 * k + 3) r.few')
