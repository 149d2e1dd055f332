-- Two backward steps of a half at once are the one at the earlier vertex of the one at the later.
use Rattle.std.specs.Prelude.{◌≡◌, refl, List, ℕ, ◌+◌, ◌*◌, ◌-◌, ◌^◌, ◌≤◌, ◌<◌, length, Float}
use Rattle.std.proofs.Common.{sym, ap, ◌∙◌, arith}
use Rattle.list_laws.proofs.Laws.Power.{pow_double}
use Rattle.list_laws.specs.Tabulate.{tabulate}
use Rattle.list_laws.specs.Part.{put}
use Rattle.transfer_matrix.specs.Job.{Step}
use Rattle.step_tables.specs.Step.{Tables, Tabled}
use Rattle.step_tables.specs.Rule.{entries, weights, mix, backward_rule}
use Rattle.step_tables.proofs.Laws.Tabled.{up-weight, down-weight}
use Rattle.half_vectors.specs.Half.{backward_half}
use Rattle.half_vectors.proofs.Laws.Half.{backward_half-front, backward_half-end}
use Rattle.step_runs.proofs.Laws.Quarter.{half_is}
use Rattle.step_runs.specs.OpposedRule.{end_weights}
use Rattle.two_steps_backward.specs.Rule.{front_twice, end_twice}
use Rattle.two_steps_backward.proofs.Laws.Rule.{backward-same}
use Rattle.two_steps_backward.specs.Inward.{inward}
use Rattle.two_steps_backward.proofs.Laws.Inward.{inward_together}

-- ---- one step by its tables t, from the half h

module _ (s : Step Float) (sc : Float) (t : Tables) (a : Tabled s sc t) (w : ℕ) (h : ℕ → Float) (wide : 2 ≤ w) where
  abbrev rule : (x y : Float) → ℕ → Float
  rule x y = backward_rule x y (weights t.bits t.count t.up) (weights t.bits t.count t.down) h

  -- at the front, and at the end
  pub front-is : (k : ℕ) → k < 2 ^ (w - 2) → rule t.ep t.em k ≡ backward_half w s sc h k
  unfolding backward_rule mix
  front-is k b = rw (a.plus, a.minus, up-weight s sc t a k, down-weight s sc t a k) (sym (backward_half-front w s sc h k wide b))

  pub end_is : (k : ℕ) → k < 2 ^ (w - 2) → rule t.em t.ep k ≡ backward_half w s sc h (2 ^ (w - 1) - 1 - k)
  unfolding backward_rule mix
  end_is k b = rw (a.plus, a.minus, up-weight s sc t a k, down-weight s sc t a k) (sym (backward_half-end w s sc h k wide b))

module _ (s : Step Float) (sc : Float) (t : Tables) (a : Tabled s sc t) (s' : Step Float) (sc' : Float) (t' : Tables) (a' : Tabled s' sc' t')
    (w : ℕ) (d : List Float) (src : ℕ) (wide : 3 ≤ w) where
  abbrev quarter : ℕ
  quarter = 2 ^ (w - 2)

  -- half of it
  abbrev end : ℕ
  end = 2 ^ (w - 2 - 1)

  half : 2 ^ (w - 1) ≡ 2 * quarter
  half = half_is w (omega arith)

  ends : quarter ≡ 2 * end
  ends = pow_double (w - 2) (omega arith)

  -- the later vertex's step, and the other over it
  abbrev once : ℕ → Float
  once = backward_half w s' sc' (entries d src)

  abbrev again : ℕ → Float
  again = backward_half w s sc once

  abbrev front : (x y : Float) → ℕ → Float
  front x y =
      front_twice x y t'.ep t'.em (weights t.bits t.count t.up) (weights t.bits t.count t.down)
      (weights t'.bits t'.count t'.up) (weights t'.bits t'.count t'.down) (entries d src)

  abbrev back : (x y : Float) → ℕ → Float
  back x y =
      end_twice x y t'.em t'.ep (end_weights (w - 2) t.bits t.count t.up) (end_weights (w - 2) t.bits t.count t.down)
      (weights t'.bits t'.count t'.up) (weights t'.bits t'.count t'.down) (entries d src)

  abbrev over : (x y : Float) → ℕ → Float
  over x y = backward_rule x y (weights t.bits t.count t.up) (weights t.bits t.count t.down) once

  -- from a pair at the front of the half, and from one at its end
  front-over : (x y : Float) (i : ℕ) → i < end → front x y i ≡ over x y i
  front-over x y i b =
      let z = ends in
      backward-same x y _ _ _ _ _ _ i i refl refl (front-is s' sc' t' a' w (entries d src) (omega arith) (2 * i) (omega arith))
      (front-is s' sc' t' a' w (entries d src) (omega arith) (2 * i + 1) (omega arith))

  back-over : (x y : Float) (i : ℕ) → i < end → back x y i ≡ over x y (quarter - 1 - i)
  unfolding end_twice backward_rule
  back-over x y i b =
      let z = ends in
      let e : 2 ^ (w - 1) - 1 - 2 * i ≡ 2 * (quarter - 1 - i) + 1 = omega (arith, half) in
      let o : 2 ^ (w - 1) - 1 - (2 * i + 1) ≡ 2 * (quarter - 1 - i) = omega (arith, half) in
      rw (
        ← e,
        ← o,
        ← end_is s' sc' t' a' w (entries d src) (omega arith) (2 * i) (omega arith),
        ← end_is s' sc' t' a' w (entries d src) (omega arith) (2 * i + 1) (omega arith),
      )

  -- entry i of each part
  first_part : (i : ℕ) → i < end → front t.ep t.em i ≡ again i
  first_part i b = let z = ends in front-over t.ep t.em i b ∙ front-is s sc t a w once (omega arith) i (omega arith)

  second-part : (i : ℕ) → i < end → back t.ep t.em i ≡ again (quarter - 1 - i)
  second-part i b = let z = ends in back-over t.ep t.em i b ∙ front-is s sc t a w once (omega arith) (quarter - 1 - i) (omega arith)

  third-part : (i : ℕ) → i < end → back t.em t.ep i ≡ again (quarter + i)
  third-part i b =
      let z = ends in
      let e : 2 ^ (w - 1) - 1 - (quarter - 1 - i) ≡ quarter + i = omega (arith, half) in
      back-over t.em t.ep i b ∙ rw e at (end_is s sc t a w once (omega arith) (quarter - 1 - i) (omega arith))

  fourth-part : (i : ℕ) → i < end → front t.em t.ep i ≡ again (2 ^ (w - 1) - 1 - i)
  fourth-part i b = let z = ends in front-over t.em t.ep i b ∙ end_is s sc t a w once (omega arith) i (omega arith)

  pub backward_twice_filled : (r : List Float) (dst : ℕ) → dst + 2 ^ (w - 1) ≤ length d
      → r ≡ inward d dst (dst + end) (dst + quarter) (dst + quarter + end)
      (front t.ep t.em) (back t.ep t.em) (back t.em t.ep) (front t.em t.ep) end
      → r ≡ put d dst (tabulate again (2 ^ (w - 1)))
  backward_twice_filled r dst to filled =
      let z = ends in
      let y = half in
      let all : end + end + end + end ≡ 2 ^ (w - 1) = omega arith in
      filled
      ∙ inward_together d dst (dst + end) (dst + quarter) (dst + quarter + end) _ _ _ _ again end refl (omega arith) (omega arith) (omega arith) first_part
      (λ i b. let e : quarter - 1 - (end - 1 - i) ≡ end + i = omega arith in second-part (end - 1 - i) (omega arith) ∙ ap again e)
      (λ i b. let e : quarter + i ≡ end + end + i = omega arith in third-part i b ∙ ap again e)
      (λ i b. let e : 2 ^ (w - 1) - 1 - (end - 1 - i) ≡ end + end + end + i = omega arith in fourth-part (end - 1 - i) (omega arith) ∙ ap again e)
      ∙ ap (λ (n : ℕ). put d dst (tabulate again n)) all
