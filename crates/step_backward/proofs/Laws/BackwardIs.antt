-- The backward rule over the tables, from both ends, is the rule of the laws of halves.
use Rattle.std.specs.Prelude.{◌≡◌, List, ℕ, ◌+◌, ◌-◌, ◌^◌, ◌≤◌, ◌<◌, length, get_or, Float}
use Rattle.std.proofs.Math.Path.{refl}
use Rattle.std.proofs.Common.{◌∙◌}
use Rattle.std.proofs.Math.Logic.{dite}
use Rattle.std.proofs.Math.Decide.{dec_lt}
use Rattle.std.proofs.Math.Nat.{add-zero}
use native.Mathlib.Omega.{arith}
use Rattle.std.specs.Float.{nan}
use Rattle.list_laws.specs.Tabulate.{tabulate}
use Rattle.list_laws.proofs.Laws.Tabulate.{tabulate_ext}
use Rattle.list_laws.specs.Part.{put}
use Rattle.transfer_matrix.specs.Job.{Step}
use Rattle.step_tables.specs.Step.{Tables, Tabled}
use Rattle.step_tables.specs.Rule.{entries, weights, alternating, mix, backward_rule}
use Rattle.step_tables.proofs.Laws.Rules.{alternating_even, alternating-odd}
use Rattle.step_tables.proofs.Laws.Tabled.{up-weight, down-weight}
use Rattle.step_runs.proofs.Laws.Patterns.{pattern_zero}
use Rattle.step_runs.proofs.Laws.Quarter.{half_is}
use Rattle.half_vectors.proofs.Laws.Half.{backward_half-front, backward_half-end}
use Rattle.step_backward.specs.Ends.{ends}
use Rattle.step_backward.proofs.Laws.Ends.{ends_together}
use Rattle.step_backward.specs.Fold.{backward_fold}
use Rattle.step_backward.proofs.Laws.Fold.{fold_one, fold_wide}

module _ (s : Step Float) (sc : Float) (t : Tables) (a : Tabled s sc t) (w : ℕ) (d : List Float) (src : ℕ) where
  abbrev half : ℕ
  half = 2 ^ (w - 1)

  abbrev whole : ℕ → Float
  whole = backward_fold w s sc (entries d src)

  abbrev made : Float → Float → ℕ → Float
  made x y = backward_rule x y (weights t.bits t.count t.up) (weights t.bits t.count t.down) (entries d src)

  module _ (wide : 2 ≤ w) (k : ℕ) (b : k < 2 ^ (w - 2)) where
    front : made t.ep t.em k ≡ whole k
    unfolding backward_rule mix
    front =
        let z = half_is w wide in
        rw (
          fold_wide w s sc (entries d src) k (omega arith) wide,
          backward_half-front w s sc (entries d src) k wide b,
          a.plus,
          a.minus,
          up-weight s sc t a k,
          down-weight s sc t a k,
        )

    end : made t.em t.ep k ≡ whole (half - 1 - k)
    unfolding backward_rule mix
    end =
        let z = half_is w wide in
        rw (
          fold_wide w s sc (entries d src) (half - 1 - k) (omega arith) wide,
          backward_half-end w s sc (entries d src) k wide b,
          a.plus,
          a.minus,
          up-weight s sc t a k,
          down-weight s sc t a k,
        )

  -- what the runs leave
  pub backward_filled : (r : List Float) (dst : ℕ) → 2 ≤ w → dst + half ≤ length d
      → r ≡ ends d dst (dst + half) (made t.ep t.em) (made t.em t.ep) (2 ^ (w - 2)) → r ≡ put d dst (tabulate whole half)
  backward_filled r dst wide to e =
      let z = half_is w wide in
      e
      ∙ rw (← z) at
      (ends_together d dst (dst + half) (made t.ep t.em) (made t.em t.ep) whole (2 ^ (w - 2)) (omega arith) to
      (front wide) (λ k b. rw (← z) (end wide k b)))

  -- one entry, or two: those of the pattern 0
  abbrev few : ℕ → Float
  few =
      alternating (mix t.ep t.em (get_or t.up 0 nan) (get_or t.down 0 nan) (get_or d src nan) (get_or d (src + half - 1) nan))
      (mix t.em t.ep (get_or t.up 0 nan) (get_or t.down 0 nan) (get_or d src nan) (get_or d (src + half - 1) nan))

  few-entry : 1 ≤ w → w ≤ 2 → (j : ℕ) → j < half → few j ≡ whole j
  unfolding backward_rule mix
  few-entry wide short j b =
      let p = pattern_zero t.bits t.count in
      let zero : src + 0 ≡ src = add-zero src in
      dite (dec_lt w 2)
      (λ l.
      let e : w ≡ 1 = omega arith in
      let z : half ≡ 1 = rw e in
      let i : src + half - 1 ≡ src = omega arith in
      rw (
        fold_one w s sc (entries d src) j b e,
        alternating_even _ _ j (omega arith),
        i,
        zero,
        a.plus,
        a.minus,
        ← up-weight s sc t a 0,
        ← down-weight s sc t a 0,
        p,
      ))
      (λ l.
      let e : w ≡ 2 = omega arith in
      let z : half ≡ 2 = rw e in
      let n : 2 ^ (w - 2) ≡ 1 = rw e in
      let i : src + half - 1 ≡ src + 1 = omega arith in
      dite (dec_lt j 1)
      (λ c.
      let at : j ≡ 0 = omega arith in
      rw (at, alternating_even _ _ 0 refl, ← front (omega arith) 0 (omega arith), i, zero, p))
      (λ c.
      let at : j ≡ half - 1 - 0 = omega arith in
      rw (alternating-odd _ _ j (omega arith), at, ← end (omega arith) 0 (omega arith), i, zero, p)))

  pub few-is : 1 ≤ w → w ≤ 2 → tabulate few half ≡ tabulate whole half
  few-is wide short = tabulate_ext few whole half (few-entry wide short)
