-- The opposite of a run: the run as far from the end of the first 2 ^ h places as this one is from their front.
use Rattle.std.specs.Prelude.{◌≡◌, List, ℕ, ◌+◌, ◌*◌, ◌-◌, ◌%◌, ◌^◌, ◌<◌, get_or, Float}
use Rattle.std.proofs.Math.Logic.{dite}
use Rattle.std.proofs.Common.{lt_of_mul-lt-mul_right, arith, pow-add}
use Rattle.std.proofs.Math.Decide.{dec_lt}
use Rattle.std.specs.Float.{nan}
use Rattle.step_tables.specs.Step.{pattern_by}
use Rattle.step_tables.specs.Rule.{weights, alternating}
use Rattle.step_tables.proofs.Laws.Rules.{alternating_even, alternating-odd}
use Rattle.step_runs.specs.declared.runs.Four.{Four}
use Rattle.step_runs.specs.AtRun.{Runs, TwoRuns}
use Rattle.step_runs.proofs.Laws.AtRun.{AtRun, run_size, run_even, run_inside, run_16}
use Rattle.step_runs.proofs.Laws.RunWeights.{run_weight}
use Rattle.step_runs.specs.OpposedRule.{end_weights, Opposed}

-- alternately, from the other end
alternating-back : (p q : Float) (n i : ℕ) → n % 2 ≡ 0 → i < n → alternating p q (n - 1 - i) ≡ alternating q p i
alternating-back p q n i ev b =
    dite (dec_lt (i % 2) 1)
    (λ l. rw (alternating-odd p q (n - 1 - i) (omega arith), alternating_even q p i (omega arith)))
    (λ l. rw (alternating_even p q (n - 1 - i) (omega arith), alternating-odd q p i (omega arith)))

-- t and x of c blocks of n, and one
multiples : (c t x n : ℕ) → c ≡ t + x + 1 → c * n ≡ t * n + x * n + n
multiples c t x n h = rw h (omega arith)

module _ {l : List ℕ} {n : ℕ} {l' : List ℕ} {n' g h e end quarter size one low two k : ℕ}
    (r : TwoRuns l n l' n' g h e end quarter size one low two) (a : AtRun e end k) (under : k < end) where
  -- the runs of all places
  all : Runs l n h e quarter size one
  all =
      let f = r.first in
      record {
        few = f.few;
        sparse = f.sparse;
        some = f.some;
        inside = omega (arith, f.inside, r.within);
        ends = r.whole;
        length = f.length;
        odd = f.odd;
      }

  -- it is one of them
  pub opposite : AtRun e quarter (quarter - k - size)
  opposite =
      let c = 2 ^ (h - e) in
      let t : h - e + e ≡ h = omega (arith, all.inside) in
      let p : 2 ^ h ≡ c * 2 ^ e = rw t at (pow-add 2 (h - e) e) in
      let z = run_inside r a under in
      let b : a.number < c = lt_of_mul-lt-mul_right (2 ^ e) (omega (arith, a.begins, r.first.length, r.whole, run_size all)) in
      let f = multiples c (c - a.number - 1) a.number (2 ^ e) (omega arith) in
      record { number = c - a.number - 1; begins = omega (arith, a.begins, r.first.length, r.whole); within = omega arith }

  opposite_under : quarter - k - size < quarter
  opposite_under = omega (arith, run_inside r a under, run_size all)

  -- the patterns of both are indexes of tables
  pub opposed_16 : (m t : ℕ) → m ≡ pattern_by l n k → t ≡ pattern_by l n (quarter - k - size) → (m + one < 16) × (t + one < 16)
  opposed_16 m t p q = (run_16 r.first a under m p, run_16 all opposite opposite_under t q)

  -- the weights of the run, and those of its opposite from the end
  module _ (table : List Float) (f : Four) (i m t : ℕ) (b : i < size) (o : Opposed table m t one f) where
    pub run_is : m ≡ pattern_by l n k → alternating f.first f.third i ≡ weights l n table (k + i)
    run_is p = rw (o.first, o.third) (run_weight r.first a m p table i b)

    pub opposite_is : t ≡ pattern_by l n (quarter - k - size) → alternating f.second f.fourth i ≡ end_weights h l n table (k + i)
    opposite_is p =
        let z : quarter - k - size + (size - 1 - i) ≡ 2 ^ h - 1 - (k + i) = omega (arith, run_inside r a under, r.whole) in
        rw (o.second, o.fourth, ← alternating-back (get_or table t nan) (get_or table (t + one) nan) size i (run_even all) b, ← z)
        (run_weight all opposite t p table (size - 1 - i) (omega arith))
