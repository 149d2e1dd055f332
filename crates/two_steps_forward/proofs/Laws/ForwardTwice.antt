-- Two forward steps of a half at once are the second of the first.
use Rattle.std.specs.Prelude.{◌≡◌, refl, List, ℕ, ◌+◌, ◌*◌, ◌-◌, ◌/◌, ◌%◌, ◌^◌, ◌≤◌, ◌<◌, get_or, Float}
use Rattle.std.proofs.Common.{sym, ap, ◌∙◌, arith}
use Rattle.std.proofs.Math.Logic.{dite}
use Rattle.std.proofs.Math.Decide.{dec_lt}
use Rattle.std.specs.Float.{nan}
use Rattle.list_laws.specs.Tabulate.{tabulate}
use Rattle.list_laws.proofs.Laws.Tabulate.{tabulate_ext}
use Rattle.transfer_matrix.specs.Job.{Step}
use Rattle.step_tables.specs.Step.{Tables, Tabled}
use Rattle.step_tables.specs.Place.{hold}
use Rattle.step_tables.specs.Rule.{entries, from_end, weights, blend, forward_rule}
use Rattle.step_tables.proofs.Laws.Rules.{rule_even, rule-odd}
use Rattle.step_tables.proofs.Laws.Tabled.{up-weight, down-weight}
use Rattle.half_vectors.specs.Half.{forward_half}
use Rattle.half_vectors.proofs.Laws.Half.{forward_half_even, forward_half-odd}
use Rattle.step_runs.proofs.Laws.Quarter.{half_is}
use Rattle.step_runs.specs.OpposedRule.{end_weights}
use Rattle.two_steps_forward.specs.Rule.{half_twice}

-- ---- one step by its tables t, from the half h

module _ (s : Step Float) (sc : Float) (t : Tables) (a : Tabled s sc t) (w : ℕ) (sign : Float → Float) (h : ℕ → Float) where
  -- at even places, and at odd ones
  pub even_is : (j k : ℕ) → j ≡ 2 * k
      → forward_half w s sc sign h j ≡ blend t.ep (sign t.em) (weights t.bits t.count t.up k) (h k) (h (2 ^ (w - 1) - 1 - k))
  unfolding blend
  even_is j k e = forward_half_even w s sc sign h j k e ∙ rw (a.plus, a.minus, up-weight s sc t a k)

  pub odd_is : (j k : ℕ) → j ≡ 2 * k + 1
      → forward_half w s sc sign h j ≡ blend t.em (sign t.ep) (weights t.bits t.count t.down k) (h k) (h (2 ^ (w - 1) - 1 - k))
  unfolding blend
  odd_is j k e = forward_half-odd w s sc sign h j k e ∙ rw (a.plus, a.minus, down-weight s sc t a k)

-- what is at j is made from the half's entries at j / 2, whatever rule it is
by_parity : (P : ℕ → Type 0) → ((k : ℕ) → P (2 * k)) → ((k : ℕ) → P (2 * k + 1)) → (j : ℕ) → P j
by_parity P p q j =
    dite (dec_lt (j % 2) 1)
    (λ l. let e : j ≡ 2 * (j / 2) = omega arith in rw e (p (j / 2)))
    (λ l. let e : j ≡ 2 * (j / 2) + 1 = omega arith in rw e (q (j / 2)))

module _ (s : Step Float) (sc : Float) (t : Tables) (a : Tabled s sc t) (s' : Step Float) (sc' : Float) (t' : Tables) (a' : Tabled s' sc' t')
    (w : ℕ) (sign : Float → Float) (d : List Float) (src : ℕ) (wide : 2 ≤ w) where
  abbrev quarter : ℕ
  quarter = 2 ^ (w - 2)

  half : 2 ^ (w - 1) ≡ 2 * quarter
  half = half_is w wide

  -- the first step
  abbrev once : ℕ → Float
  once = forward_half w s sc sign (entries d src)

  -- its front, and its end
  abbrev front : ℕ → Float
  front =
      forward_rule t.ep (sign t.em) t.em (sign t.ep) (weights t.bits t.count t.up) (weights t.bits t.count t.down)
      (entries d src) (from_end d src (2 * quarter))

  abbrev back : ℕ → Float
  back =
      forward_rule t.em (sign t.ep) t.ep (sign t.em) (end_weights (w - 2) t.bits t.count t.down) (end_weights (w - 2) t.bits t.count t.up)
      (from_end d src quarter) (entries d (src + quarter))

  abbrev pub made : ℕ → Float
  made =
      half_twice t.ep (sign t.em) t.em (sign t.ep) t'.ep (sign t'.em) t'.em (sign t'.ep)
      (weights t.bits t.count t.up) (weights t.bits t.count t.down)
      (end_weights (w - 2) t.bits t.count t.up) (end_weights (w - 2) t.bits t.count t.down)
      (weights t'.bits t'.count t'.up) (weights t'.bits t'.count t'.down)
      (entries d src) (from_end d src (2 * quarter)) (entries d (src + quarter)) (from_end d src quarter)

  front-is : (j : ℕ) → front j ≡ once j
  front-is =
      by_parity (λ j. front j ≡ once j)
      (λ k. rule_even _ _ _ _ _ _ _ _ (2 * k) k refl ∙ rw (← half) (sym (even_is s sc t a w sign (entries d src) (2 * k) k refl)))
      (λ k. rule-odd _ _ _ _ _ _ _ _ (2 * k + 1) k refl ∙ rw (← half) (sym (odd_is s sc t a w sign (entries d src) (2 * k + 1) k refl)))

  -- the entry opposite to place k of the first quarter stands in the second
  across : (k : ℕ) → k < quarter → get_or d (src + quarter + k) nan ≡ entries d src (2 ^ (w - 1) - 1 - (quarter - 1 - k))
  across k b = let e : src + quarter + k ≡ src + (2 ^ (w - 1) - 1 - (quarter - 1 - k)) = omega (arith, half) in rw e

  back_is : (j : ℕ) → j < 2 * quarter → back j ≡ once (2 ^ (w - 1) - 1 - j)
  back_is =
      by_parity (λ j. j < 2 * quarter → back j ≡ once (2 ^ (w - 1) - 1 - j))
      (λ k b.
      rule_even _ _ _ _ _ _ _ _ (2 * k) k refl
      ∙ rw (across k (omega arith)) (sym (odd_is s sc t a w sign (entries d src) (2 ^ (w - 1) - 1 - 2 * k) (quarter - 1 - k) (omega (arith, half)))))
      (λ k b.
      rule-odd _ _ _ _ _ _ _ _ (2 * k + 1) k refl
      ∙ rw (across k (omega arith)) (sym (even_is s sc t a w sign (entries d src) (2 ^ (w - 1) - 1 - (2 * k + 1)) (quarter - 1 - k) (omega (arith, half)))))

  -- the second over it
  entry : (j : ℕ) → j < 2 * quarter → made j ≡ forward_half w s' sc' sign once j
  entry =
      by_parity (λ j. j < 2 * quarter → made j ≡ forward_half w s' sc' sign once j)
      (λ k b.
      rule_even _ _ _ _ _ _ _ _ (2 * k) k refl ∙ rw (front-is k, back_is k (omega arith)) (sym (even_is s' sc' t' a' w sign once (2 * k) k refl)))
      (λ k b.
      rule-odd _ _ _ _ _ _ _ _ (2 * k + 1) k refl ∙ rw (front-is k, back_is k (omega arith)) (sym (odd_is s' sc' t' a' w sign once (2 * k + 1) k refl)))

  forward-twice-is : tabulate made (2 * quarter) ≡ tabulate (forward_half w s' sc' sign once) (2 ^ (w - 1))
  forward-twice-is = rw half (tabulate_ext made (forward_half w s' sc' sign once) (2 * quarter) entry)

  -- what the runs leave
  pub forward_twice_filled : (r : List Float) (dst : ℕ) → r ≡ hold d w dst (tabulate made (2 * quarter))
      → r ≡ hold d w dst (tabulate (forward_half w s' sc' sign once) (2 ^ (w - 1)))
  forward_twice_filled r dst e = e ∙ ap (hold d w dst) forward-twice-is
