-- The forward rule over the tables is the rule of the laws of halves.
use Rattle.std.specs.Prelude.{◌≡◌, List, ℕ, ◌+◌, ◌-◌, ◌/◌, ◌^◌, ◌≤◌, ◌<◌, get_or, Float}
use Rattle.std.proofs.Common.{ap, ◌∙◌}
use Rattle.std.proofs.Math.Nat.{add-zero}
use native.Mathlib.Omega.{arith}
use Rattle.std.specs.Float.{nan}
use Rattle.list_laws.specs.Tabulate.{tabulate}
use Rattle.list_laws.proofs.Laws.Tabulate.{tabulate_ext}
use Rattle.list_laws.specs.Part.{put}
use Rattle.transfer_matrix.specs.Job.{Step}
use Rattle.step_tables.specs.Step.{Tables, Tabled}
use Rattle.step_tables.specs.Rule.{entries, from_end, weights, alternating, blend, forward_rule}
use Rattle.step_tables.proofs.Laws.Tabled.{up-weight, down-weight}
use Rattle.step_runs.proofs.Laws.Patterns.{pattern_zero}
use Rattle.half_vectors.specs.Half.{forward_half}

module _ (s : Step Float) (sc : Float) (t : Tables) (a : Tabled s sc t) (w : ℕ) (sign : Float → Float) (d : List Float) (src : ℕ) where
  abbrev half : ℕ
  half = 2 ^ (w - 1)

  abbrev whole : ℕ → Float
  whole = forward_half w s sc sign (entries d src)

  abbrev made : ℕ → Float
  made =
      forward_rule t.ep (sign t.em) t.em (sign t.ep) (weights t.bits t.count t.up) (weights t.bits t.count t.down)
      (entries d src) (from_end d src half)

  entry : (j : ℕ) → j < half → made j ≡ whole j
  unfolding forward_half forward_rule blend
  entry j b =
      let k = j / 2 in
      rw (a.plus, a.minus, up-weight s sc t a k, down-weight s sc t a k)

  forward-is : tabulate made half ≡ tabulate whole half
  forward-is = tabulate_ext made whole half entry

  -- what the runs leave
  pub forward_filled : (r : List Float) (at : ℕ) → r ≡ put d at (tabulate made half) → r ≡ put d at (tabulate whole half)
  forward_filled r at e = e ∙ ap (put d at) forward-is

  -- one entry, or two: those of the pattern 0
  abbrev few : (sem sep : Float) → ℕ → Float
  few sem sep =
      alternating (blend t.ep sem (get_or t.up 0 nan) (get_or d src nan) (get_or d (src + half - 1) nan))
      (blend t.em sep (get_or t.down 0 nan) (get_or d src nan) (get_or d (src + half - 1) nan))

  few-entry : (sem sep : Float) → sem ≡ sign t.em → sep ≡ sign t.ep → half ≤ 2 → (j : ℕ) → j < half → few sem sep j ≡ made j
  unfolding alternating forward_rule
  few-entry sem sep p q l j b =
      let k : j / 2 ≡ 0 = omega arith in
      let i : src + (half - 1 - 0) ≡ src + half - 1 = omega arith in
      rw (p, q, k, pattern_zero t.bits t.count, add-zero src, i)

  pub few-is : (sem sep : Float) → sem ≡ sign t.em → sep ≡ sign t.ep → half ≤ 2 → tabulate (few sem sep) half ≡ tabulate whole half
  few-is sem sep p q l = rw (tabulate_ext (few sem sep) made half (few-entry sem sep p q l)) forward-is
