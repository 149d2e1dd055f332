-- What the loops of a forward step know on their way.
use mathlib.Core.Path.{◌≡◌, refl, ap, ◌∙◌}
use mathlib.Core.List.{List}
use Prim.Native.Nat.{ℕ, ◌+◌, ◌*◌, ◌-◌, ◌/◌, ◌%◌, ◌^◌, ◌≤◌, ◌<◌}
use native.Mathlib.Nat.{add_assoc}
use native.Mathlib.Omega.{arith}
use lib.ListN.{length, get_or, set}
use lib.Ieee.{Float, nan, binary64}
use lib.Ieee.Fits.{cond-fits, mul-fits}
use Rattle.list_laws.specs.Bits.{bit}
use Rattle.list_laws.specs.Tabulate.{tabulate}
use Rattle.list_laws.specs.Part.{Apart, put}
use Rattle.list_laws.proofs.Laws.Part.{apart-within, fill_two, fill_run, read_apart}
use Rattle.step_tables.specs.Step.{pattern_by}
use Rattle.step_tables.specs.Rule.{entries, from_end, weights, alternating, blend, forward_rule}
use Rattle.step_tables.proofs.Laws.Rules.{alternating_even, alternating-odd, rule_even, rule-odd, rule-from}
use Rattle.step_runs.specs.AtRun.{Runs}
use Rattle.step_runs.proofs.Laws.AtRun.{AtRun, run_ends}
use Rattle.step_runs.proofs.Laws.RunWeights.{run_weight}
use Rattle.largest_entry.specs.Larger.{larger}
use Rattle.largest_entry.specs.Top.{top}
use Rattle.largest_entry.proofs.Laws.Lanes.{Fit, two_lanes, two-parts, Lanes, lanes_iteration, lanes_done}

-- what is rounded is a double
forward_fit : (ep sem em sep : Float) (p q a b : ℕ → Float) → Fit (forward_rule ep sem em sep p q a b)
unfolding forward_rule blend
forward_fit ep sem em sep p q a b j = cond-fits binary64 (bit 0 j) _ _ (mul-fits binary64 _ (q (j / 2))) (mul-fits binary64 _ (p (j / 2)))

down_index : (b n j : ℕ) → n ≤ b + 1 → j < n → b - j ≡ b + 1 - n + (n - 1 - j)
down_index b n j h l = omega arith

-- an iteration of a run, at an even i: two pairs
module _ (ep sem em sep p₀ q₀ p₁ q₁ : Float) (a b o n : ℕ) (d v : List Float) where
  abbrev rule : ℕ → Float
  rule = forward_rule ep sem em sep (alternating p₀ p₁) (alternating q₀ q₁) (entries d a) (from_end d (b + 1 - n) n)

  module _ (i : ℕ) (deep : n ≤ b + 1) (fa : Apart (length d) a n o (2 * n)) (fb : Apart (length d) (b + 1 - n) n o (2 * n))
      (e : v ≡ put d o (tabulate rule (2 * i))) (h : i + 1 < n) (ev : i % 2 ≡ 0) where
    at_a : (j : ℕ) → j < n → get_or v (a + j) nan ≡ get_or d (a + j) nan
    at_a j l = rw e (read_apart d o rule (2 * i) a n (2 * n) j nan fa (omega arith) l)

    at_b : (j : ℕ) → j < n → get_or v (b - j) nan ≡ get_or d (b + 1 - n + (n - 1 - j)) nan
    at_b j l = rw (e, down_index b n j deep l) (read_apart d o rule (2 * i) (b + 1 - n) n (2 * n) (n - 1 - j) nan fb (omega arith) (omega arith))

    -- the entries of the iteration
    first : blend ep sem p₀ (get_or v (a + i) nan) (get_or v (b - i) nan) ≡ rule (2 * i)
    first = rw (at_a i (omega arith), at_b i (omega arith), rule_even ep sem em sep _ _ _ _ (2 * i) i refl, alternating_even p₀ p₁ i ev)

    second : blend em sep q₀ (get_or v (a + i) nan) (get_or v (b - i) nan) ≡ rule (2 * i + 1)
    second = rw (at_a i (omega arith), at_b i (omega arith), rule-odd ep sem em sep _ _ _ _ (2 * i + 1) i refl, alternating_even q₀ q₁ i ev)

    third : blend ep sem p₁ (get_or v (a + i + 1) nan) (get_or v (b - i - 1) nan) ≡ rule (2 * (i + 1))
    third =
        let fa1 : a + i + 1 ≡ a + (i + 1) = omega arith in
        let fb1 : b - i - 1 ≡ b - (i + 1) = omega arith in
        rw (fa1, fb1, at_a (i + 1) h, at_b (i + 1) h, rule_even ep sem em sep _ _ _ _ (2 * (i + 1)) (i + 1) refl, alternating-odd p₀ p₁ (i + 1) (omega arith))

    fourth : blend em sep q₁ (get_or v (a + i + 1) nan) (get_or v (b - i - 1) nan) ≡ rule (2 * (i + 1) + 1)
    fourth =
        let fa1 : a + i + 1 ≡ a + (i + 1) = omega arith in
        let fb1 : b - i - 1 ≡ b - (i + 1) = omega arith in
        rw (fa1, fb1, at_a (i + 1) h, at_b (i + 1) h, rule-odd ep sem em sep _ _ _ _ (2 * (i + 1) + 1) (i + 1) refl, alternating-odd q₀ q₁ (i + 1) (omega arith))

    pub run_iteration :
        set (set (set (set v
        (o + 2 * i) (blend ep sem p₀ (get_or v (a + i) nan) (get_or v (b - i) nan)))
        (o + 2 * i + 1) (blend em sep q₀ (get_or v (a + i) nan) (get_or v (b - i) nan)))
        (o + 2 * i + 2) (blend ep sem p₁ (get_or v (a + i + 1) nan) (get_or v (b - i - 1) nan)))
        (o + 2 * i + 3) (blend em sep q₁ (get_or v (a + i + 1) nan) (get_or v (b - i - 1) nan))
        ≡ put d o (tabulate rule (2 * (i + 2)))
    run_iteration =
        let g2 : 2 * i + 2 ≡ 2 * (i + 1) = omega arith in
        let g4 : 2 * (i + 2) ≡ 2 * (i + 1) + 2 = omega arith in
        let f1 : o + 2 * i + 1 ≡ o + (2 * i + 1) = omega arith in
        let f2 : o + 2 * i + 2 ≡ o + 2 * (i + 1) = omega arith in
        let f3 : o + 2 * i + 3 ≡ o + (2 * (i + 1) + 1) = omega arith in
        rw (f1, f2, f3, first, second, third, fourth, e, fill_two d o rule (2 * i) _ _ (omega (arith, fa.to)) refl refl, g2, g4)
        (fill_two d o rule (2 * (i + 1)) _ _ (omega (arith, fa.to)) refl refl)

    -- each goes into its lane
    pub run_lanes : {ma mb mc md ma' mb' mc' md' : Float} → Lanes (λ k. rule (2 * k)) (λ k. rule (2 * k + 1)) i ma mc mb md
        → (ma' ≡ larger ma (blend ep sem p₀ (get_or v (a + i) nan) (get_or v (b - i) nan)))
        × (mb' ≡ larger mb (blend em sep q₀ (get_or v (a + i) nan) (get_or v (b - i) nan)))
        × (mc' ≡ larger mc (blend ep sem p₁ (get_or v (a + i + 1) nan) (get_or v (b - i - 1) nan)))
        × (md' ≡ larger md (blend em sep q₁ (get_or v (a + i + 1) nan) (get_or v (b - i - 1) nan)))
        → Lanes (λ k. rule (2 * k)) (λ k. rule (2 * k + 1)) (i + 2) ma' mc' mb' md'
    run_lanes l j =
        lanes_iteration (λ k. rule (2 * k)) (λ k. rule (2 * k + 1)) i ev l (j.0 ∙ ap (larger _) first) (j.2 ∙ ap (larger _) third)
        (j.1 ∙ ap (larger _) second) (j.3 ∙ ap (larger _) fourth)

  -- the lanes joined have the largest entry of the run
  pub run_most : {ma mb mc md e f r : Float} → n % 2 ≡ 0 → Lanes (λ k. rule (2 * k)) (λ k. rule (2 * k + 1)) n ma mc mb md
      → e ≡ larger ma mc → f ≡ larger mb md → r ≡ larger e f → r ≡ top rule (2 * n)
  run_most even l e f r =
      let fit = forward_fit ep sem em sep (alternating p₀ p₁) (alternating q₀ q₁) (entries d a) (from_end d (b + 1 - n) n) in
      r ∙ rw (e, f) (lanes_done (λ k. rule (2 * k)) (λ k. rule (2 * k + 1)) n (λ k. fit (2 * k)) (λ k. fit (2 * k + 1)) even l ∙ two_lanes rule fit n)

-- where the run at k reads downwards: from this index, and in the half
last_index : (src h end k size : ℕ) → end ≡ h → k + size ≤ end → 0 < size
    → (size ≤ src + 2 * end - 1 - k + 1) × (src + 2 * end - 1 - k + 1 - size ≡ src + (2 * h - k - size))
last_index src h end k size e l s = (omega arith, omega arith)

-- from the end of the run, and of the half
mirror_index : (src h k size i : ℕ) → k + size ≤ h → i < size → src + (2 * h - k - size) + (size - 1 - i) ≡ src + (2 * h - 1 - (k + i))
mirror_index src h k size i l b = omega arith

module _ {l : List ℕ} {n g e end size one k : ℕ} (r : Runs l n g e end size one) (at : AtRun e end k) (under : k < end) where
  -- a run reads apart from what it writes
  pub run_apart : (len src dst : ℕ) → 0 < size → Apart len src (2 * 2 ^ g) dst (2 * 2 ^ g)
      → (size ≤ src + 2 * end - 1 - k + 1) × Apart len (src + k) size (dst + 2 * k) (2 * size)
      × Apart len (src + 2 * end - 1 - k + 1 - size) size (dst + 2 * k) (2 * size)
  run_apart len src dst some f =
      let fits = run_ends r at under in
      let w = r.ends in
      let i = last_index src (2 ^ g) end k size w fits some in (
        i.0,
        apart-within (src + k) size (dst + 2 * k) (2 * size) f (omega arith) (omega arith) (omega arith) (omega arith),
        rw i.1
            (apart-within (src + (2 * 2 ^ g - k - size)) size (dst + 2 * k) (2 * size) f (omega arith) (omega arith) (omega arith) (omega arith)),
      )

  -- a run is the step's next entries
  module _ (ep sem em sep : Float) (up down : List Float) (m src dst : ℕ) (d v : List Float) where
    abbrev step : ℕ → Float
    step = forward_rule ep sem em sep (weights l n up) (weights l n down) (entries d src) (from_end d src (2 * 2 ^ g))

    abbrev run : ℕ → Float
    run =
        forward_rule ep sem em sep (alternating (get_or up m nan) (get_or up (m + one) nan)) (alternating (get_or down m nan) (get_or down (m + one) nan))
        (entries v (src + k)) (from_end v (src + 2 * end - 1 - k + 1 - size) size)

    module _ (f : Apart (length d) src (2 * 2 ^ g) dst (2 * 2 ^ g)) (p : m ≡ pattern_by l n k) (w : v ≡ put d dst (tabulate step (2 * k))) where
      run_same : (j : ℕ) → j < 2 * size → run j ≡ step (2 * k + j)
      run_same j b =
          let fits = run_ends r at under in
          let q = r.ends in
          let kept : (i : ℕ) → i < 2 * 2 ^ g → get_or v (src + i) nan ≡ get_or d (src + i) nan =
          λ i c. rw w (read_apart d dst step (2 * k) src (2 * 2 ^ g) (2 * 2 ^ g) i nan f (omega arith) c) in
          let front : (i : ℕ) → i < size → get_or v (src + k + i) nan ≡ get_or d (src + (k + i)) nan = λ i c. rw add_assoc (kept (k + i) (omega arith)) in
          let back : (i : ℕ) → i < size → get_or v (src + 2 * end - 1 - k + 1 - size + (size - 1 - i)) nan ≡ get_or d (src + (2 * 2 ^ g - 1 - (k + i))) nan =
          λ i c. rw ((last_index src (2 ^ g) end k size q fits (omega arith)).1, mirror_index src (2 ^ g) k size i (omega arith) c) (kept (2 * 2 ^ g - 1 - (k + i)) (omega arith)) in
          rule-from ep sem em sep _ _ _ _ _ _ _ _ k size j b (run_weight r at m p up) (run_weight r at m p down) front back

      pub runs_iteration : (v' : List Float) → v' ≡ put v (dst + 2 * k) (tabulate run (2 * size)) → v' ≡ put d dst (tabulate step (2 * (k + size)))
      runs_iteration v' w' =
          let fits = run_ends r at under in
          let q = r.ends in
          let t : 2 * (k + size) ≡ 2 * k + 2 * size = omega arith in
          w' ∙ ap (λ (s : List Float). put s (dst + 2 * k) (tabulate run (2 * size))) w
          ∙ rw t (fill_run d dst step run (2 * k) (2 * size) (omega (arith, f.to)) run_same)

      pub runs-most : {most r' most' : Float} → most ≡ top step (2 * k) → r' ≡ top run (2 * size) → most' ≡ larger most r' → most' ≡ top step (2 * (k + size))
      runs-most e e' j =
          let t : 2 * (k + size) ≡ 2 * k + 2 * size = omega arith in
          j
          ∙ rw (e, e', t)
          (two-parts step run step (forward_fit ep sem em sep _ _ _ _) (forward_fit ep sem em sep _ _ _ _) (forward_fit ep sem em sep _ _ _ _) (2 * k) (2 * size) (λ i b. refl) run_same)
