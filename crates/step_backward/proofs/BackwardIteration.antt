-- What the loops of a backward step know on their way.
use mathlib.Core.Path.{◌≡◌, refl, sym, ap, ◌∙◌}
use mathlib.Core.Bool.{cond}
use mathlib.Core.List.{List}
use Prim.Native.Nat.{ℕ, ◌+◌, ◌*◌, ◌-◌, ◌%◌, ◌^◌, ◌≤◌, ◌<◌}
use native.Mathlib.Omega.{arith}
use lib.ListN.{length, get_or, set}
use lib.Seq.{set_comm}
use lib.Ieee.{Float, nan, binary64}
use lib.Ieee.Fits.{cond-fits, add-fits}
use lib.Dec.{ltb}
use borrow.Author.Tests.{lt-ltb, le-ltb}
use Rattle.list_laws.specs.Part.{Apart}
use Rattle.list_laws.proofs.Laws.Part.{apart-within}
use Rattle.step_tables.specs.Step.{pattern_by}
use Rattle.step_tables.specs.Rule.{entries, weights, alternating, mix, backward_rule}
use Rattle.step_tables.proofs.Laws.Rules.{alternating_even, alternating-odd}
use Rattle.step_runs.specs.AtRun.{Runs}
use Rattle.step_runs.proofs.Laws.AtRun.{AtRun, run_ends}
use Rattle.step_runs.proofs.Laws.RunWeights.{run_weight}
use Rattle.largest_entry.specs.Larger.{larger}
use Rattle.largest_entry.specs.Top.{top}
use Rattle.largest_entry.proofs.Laws.Top.{top-is}
use Rattle.largest_entry.proofs.Laws.Lanes.{Fit, two-parts, both_ends, larger_swap, Lanes, lanes_iteration, lanes_done}
use Rattle.step_backward.specs.Ends.{ends}
use Rattle.step_backward.proofs.Laws.Ends.{ends-one, ends_run, ends-apart, ends_together}
use Rattle.largest_entry.proofs.Laws.Filled.{filled_top}

-- what is rounded is a double
pub backward_fit : (x y : Float) (p q v : ℕ → Float) → Fit (backward_rule x y p q v)
unfolding backward_rule mix
backward_fit x y p q v j = add-fits binary64 _ _

-- an iteration of a run, at an even i: two pairs
module _ (x y p₀ q₀ p₁ q₁ : Float) (s lo hi n : ℕ) (d v : List Float) (i : ℕ)
    (mid : lo + 2 * n ≤ hi) (fl : Apart (length d) s (2 * n) lo n) (fh : Apart (length d) s (2 * n) (hi - n) n) where
  abbrev lower : ℕ → Float
  lower = backward_rule x y (alternating p₀ p₁) (alternating q₀ q₁) (entries d s)

  abbrev upper : ℕ → Float
  upper = backward_rule y x (alternating p₀ p₁) (alternating q₀ q₁) (entries d s)

  abbrev filled : ℕ → List Float
  filled = ends d lo hi lower upper

  kept : v ≡ filled i → i ≤ n → (j : ℕ) → j < 2 * n → get_or v (s + j) nan ≡ get_or d (s + j) nan
  kept e h j b = rw e (ends-apart d lo hi lower upper i s (2 * n) n j nan fl fh h mid b)

  long : hi ≤ length d
  long = omega (arith, fh.to)

  module _ (e : v ≡ filled i) (h : i + 1 < n) (ev : i % 2 ≡ 0) where
    -- the entries of the iteration
    even_pair : (x' y' : Float)
        → mix x' y' p₀ q₀ (get_or v (s + 2 * i) nan) (get_or v (s + 2 * i + 1) nan) ≡ backward_rule x' y' (alternating p₀ p₁) (alternating q₀ q₁) (entries d s) i
    unfolding backward_rule
    even_pair x' y' =
        let f1 : s + 2 * i + 1 ≡ s + (2 * i + 1) = omega arith in
        rw (f1, kept e (omega arith) (2 * i) (omega arith), kept e (omega arith) (2 * i + 1) (omega arith), alternating_even p₀ p₁ i ev, alternating_even q₀ q₁ i ev)

    odd-pair : (x' y' : Float)
        → mix x' y' p₁ q₁ (get_or v (s + 2 * i + 2) nan) (get_or v (s + 2 * i + 3) nan) ≡ backward_rule x' y' (alternating p₀ p₁) (alternating q₀ q₁) (entries d s) (i + 1)
    unfolding backward_rule
    odd-pair x' y' =
        let f2 : s + 2 * i + 2 ≡ s + 2 * (i + 1) = omega arith in
        let f3 : s + 2 * i + 3 ≡ s + (2 * (i + 1) + 1) = omega arith in
        let o : (i + 1) % 2 ≡ 1 = omega arith in
        rw (f2, f3, kept e (omega arith) (2 * (i + 1)) (omega arith), kept e (omega arith) (2 * (i + 1) + 1) (omega arith), alternating-odd p₀ p₁ (i + 1) o, alternating-odd q₀ q₁ (i + 1) o)

    -- one pair after the other
    in_iteration : set (set (set (set v (lo + i) (lower i)) (hi - i - 1) (upper i)) (lo + (i + 1)) (lower (i + 1))) (hi - (i + 1) - 1) (upper (i + 1)) ≡ filled (i + 2)
    in_iteration =
        let g4 : i + 2 ≡ i + 1 + 1 = omega arith in
        rw (e, ends-one d lo hi lower upper i (lower i) (upper i) (omega arith) long refl refl, g4)
        (ends-one d lo hi lower upper (i + 1) (lower (i + 1)) (upper (i + 1)) (omega arith) long refl refl)

    -- the stores at each end one after the other
    pub run_iteration :
        set (set (set (set v
        (lo + i) (mix x y p₀ q₀ (get_or v (s + 2 * i) nan) (get_or v (s + 2 * i + 1) nan)))
        (lo + i + 1) (mix x y p₁ q₁ (get_or v (s + 2 * i + 2) nan) (get_or v (s + 2 * i + 3) nan)))
        (hi - i - 2) (mix y x p₁ q₁ (get_or v (s + 2 * i + 2) nan) (get_or v (s + 2 * i + 3) nan)))
        (hi - i - 1) (mix y x p₀ q₀ (get_or v (s + 2 * i) nan) (get_or v (s + 2 * i + 1) nan)) ≡ filled (i + 2)
    run_iteration =
        let l1 : lo + i + 1 ≡ lo + (i + 1) = omega arith in
        let h2 : hi - i - 2 ≡ hi - (i + 1) - 1 = omega arith in
        let ne : hi - (i + 1) - 1 ≡ hi - i - 1 → ⊥ = λ z. omega arith in
        let ne' : lo + (i + 1) ≡ hi - i - 1 → ⊥ = λ z. omega arith in
        rw (even_pair x y, even_pair y x, odd-pair x y, odd-pair y x, l1, h2)
        (set_comm (set (set v (lo + i) (lower i)) (lo + (i + 1)) (lower (i + 1))) (hi - (i + 1) - 1) (hi - i - 1) (upper (i + 1)) (upper i) ne
        ∙ ap (λ (l : List Float). set l (hi - (i + 1) - 1) (upper (i + 1))) (set_comm (set v (lo + i) (lower i)) (lo + (i + 1)) (hi - i - 1) (lower (i + 1)) (upper i) ne')
        ∙ in_iteration)

    -- each goes into its lane
    pub run_lanes : {ma mb mc md ma' mb' mc' md' : Float} → Lanes lower upper i ma mb md mc
        → (ma' ≡ larger ma (mix x y p₀ q₀ (get_or v (s + 2 * i) nan) (get_or v (s + 2 * i + 1) nan)))
        × (mb' ≡ larger mb (mix x y p₁ q₁ (get_or v (s + 2 * i + 2) nan) (get_or v (s + 2 * i + 3) nan)))
        × (mc' ≡ larger mc (mix y x p₁ q₁ (get_or v (s + 2 * i + 2) nan) (get_or v (s + 2 * i + 3) nan)))
        × (md' ≡ larger md (mix y x p₀ q₀ (get_or v (s + 2 * i) nan) (get_or v (s + 2 * i + 1) nan)))
        → Lanes lower upper (i + 2) ma' mb' md' mc'
    run_lanes l j =
        lanes_iteration lower upper i ev l (j.0 ∙ ap (larger _) (even_pair x y)) (j.1 ∙ ap (larger _) (odd-pair x y))
        (j.3 ∙ ap (larger _) (even_pair y x)) (j.2 ∙ ap (larger _) (odd-pair y x))

  -- the lanes joined have the largest entry of both ends
  pub run_most : {ma mb mc md e f r : Float} → n % 2 ≡ 0 → Lanes lower upper n ma mb md mc
      → e ≡ larger ma mb → f ≡ larger md mc → r ≡ larger e f → r ≡ larger (top lower n) (top upper n)
  run_most even l e f r =
      r ∙ rw (e, f) (lanes_done lower upper n (backward_fit x y _ _ _) (backward_fit y x _ _ _) even l)

module _ {l : List ℕ} {n g e end size one k : ℕ} (r : Runs l n g e end size one) (at : AtRun e end k) (under : k < end) where
  -- a run reads apart from what it writes
  pub run_apart : (len src dst : ℕ) → Apart len src (2 * 2 ^ g) dst (2 * 2 ^ g)
      → (dst + k + 2 * size ≤ dst + 2 * end - k) × Apart len (src + 2 * k) (2 * size) (dst + k) size
      × Apart len (src + 2 * k) (2 * size) (dst + 2 * end - k - size) size
  run_apart len src dst f =
      let fits = run_ends r at under in
      let w = r.ends in (
        omega arith,
        apart-within (src + 2 * k) (2 * size) (dst + k) size f (omega arith) (omega arith) (omega arith) (omega arith),
        apart-within (src + 2 * k) (2 * size) (dst + 2 * end - k - size) size f (omega arith) (omega arith) (omega arith) (omega arith),
      )

  -- a run is the step's next entries at both ends
  module _ (ep em : Float) (up down : List Float) (m src dst : ℕ) (d v : List Float) where
    abbrev step : Float → Float → ℕ → Float
    step x y = backward_rule x y (weights l n up) (weights l n down) (entries d src)

    abbrev run : Float → Float → ℕ → Float
    run x y =
        backward_rule x y (alternating (get_or up m nan) (get_or up (m + one) nan)) (alternating (get_or down m nan) (get_or down (m + one) nan)) (entries v (src + 2 * k))

    abbrev past : ℕ
    past = dst + 2 * end

    module _ (f : Apart (length d) src (2 * 2 ^ g) dst (2 * 2 ^ g)) (p : m ≡ pattern_by l n k) (w : v ≡ ends d dst past (step ep em) (step em ep) k) where
      run_same : (x y : Float) (i : ℕ) → i < size → run x y i ≡ step x y (k + i)
      unfolding backward_rule
      run_same x y i c =
          let fits = run_ends r at under in
          let q = r.ends in
          let fl = apart-within src (2 * 2 ^ g) dst end f (omega arith) (omega arith) (omega arith) (omega arith) in
          let fh = apart-within src (2 * 2 ^ g) (past - end) end f (omega arith) (omega arith) (omega arith) (omega arith) in
          let kept : (j : ℕ) → j < 2 * 2 ^ g → get_or v (src + j) nan ≡ get_or d (src + j) nan =
          λ j b. rw w (ends-apart d dst past (step ep em) (step em ep) k src (2 * 2 ^ g) end j nan fl fh (omega arith) (omega arith) b) in
          let even : get_or v (src + 2 * k + 2 * i) nan ≡ get_or d (src + 2 * (k + i)) nan =
          (let t : src + 2 * k + 2 * i ≡ src + 2 * (k + i) = omega arith in rw t (kept (2 * (k + i)) (omega arith))) in
          let odd : get_or v (src + 2 * k + (2 * i + 1)) nan ≡ get_or d (src + (2 * (k + i) + 1)) nan =
          (let t : src + 2 * k + (2 * i + 1) ≡ src + (2 * (k + i) + 1) = omega arith in rw t (kept (2 * (k + i) + 1) (omega arith))) in
          rw (run_weight r at m p up i c, run_weight r at m p down i c, even, odd)

      pub runs_iteration : (v' : List Float) → v' ≡ ends v (dst + k) (past - k) (run ep em) (run em ep) size
          → v' ≡ ends d dst past (step ep em) (step em ep) (k + size)
      runs_iteration v' w' =
          let fits = run_ends r at under in
          let q = r.ends in
          w' ∙ ap (λ (t : List Float). ends t (dst + k) (past - k) (run ep em) (run em ep) size) w
          ∙ ends_run d dst past (step ep em) (step em ep) (run ep em) (run em ep) k size (omega arith) (omega (arith, f.to)) (run_same ep em) (run_same em ep)

      pub runs-most : {most r' most' : Float} → most ≡ larger (top (step ep em) k) (top (step em ep) k)
          → r' ≡ larger (top (run ep em) size) (top (run em ep) size) → most' ≡ larger most r'
          → most' ≡ larger (top (step ep em) (k + size)) (top (step em ep) (k + size))
      runs-most e e' j =
          j
          ∙ rw (e, e')
          (larger_swap (top-is (step ep em) (fit_step ep em) k) (top-is (step em ep) (fit_step em ep) k) (top-is (run ep em) (fit_run ep em) size)
          (top-is (run em ep) (fit_run em ep) size)
          ∙ rw (more ep em, more em ep))
        where
          fit_step : (x y : Float) → Fit (step x y)
          fit_step x y = backward_fit x y _ _ _

          fit_run : (x y : Float) → Fit (run x y)
          fit_run x y = backward_fit x y _ _ _

          more : (x y : Float) → larger (top (step x y) k) (top (run x y) size) ≡ top (step x y) (k + size)
          more x y = two-parts (step x y) (run x y) (step x y) (fit_step x y) (fit_run x y) (fit_step x y) k size (λ i b. refl) (run_same x y)

-- ---- both ends together

-- n numbers of f, then n of g, the last one first
unfoldable front_and_end : ℕ → (ℕ → Float) → (ℕ → Float) → ℕ → Float
front_and_end n f g i = cond (ltb i n) (f i) (g (2 * n - 1 - i))

module _ (n : ℕ) (f g : ℕ → Float) where
  in_front : (i : ℕ) → i < n → f i ≡ front_and_end n f g i
  unfolding front_and_end
  in_front i b = rw (lt-ltb i n b)

  at-end : (i : ℕ) → i < n → g i ≡ front_and_end n f g (2 * n - 1 - i)
  unfolding front_and_end
  at-end i b =
      let e : 2 * n - 1 - (2 * n - 1 - i) ≡ i = omega arith in
      rw (le-ltb (2 * n - 1 - i) n (omega arith), e)

  fit_both : Fit f → Fit g → Fit (front_and_end n f g)
  unfolding front_and_end
  fit_both a b i = cond-fits binary64 (ltb i n) (f i) (g (2 * n - 1 - i)) (a i) (b (2 * n - 1 - i))

  pub ends-most : (d v : List Float) (lo hi : ℕ) {m : Float} → Fit f → Fit g → hi ≡ lo + 2 * n → hi ≤ length d → v ≡ ends d lo hi f g n
      → m ≡ larger (top f n) (top g n) → m ≡ top (entries v lo) (2 * n)
  ends-most d v lo hi fit-f fit-g e l w j =
      let h = front_and_end n f g in
      let z : 2 * n ≡ n + n = omega arith in
      let back : (i : ℕ) → i < n → g i ≡ h (n + n - 1 - i) = λ i b. at-end i b ∙ ap (λ (k : ℕ). h (k - 1 - i)) z in
      j ∙ both_ends f g h fit-f fit-g (fit_both fit-f fit-g) n n in_front back ∙ ap (top h) (sym z)
      ∙ filled_top d v lo h (2 * n) (omega arith) (w ∙ ends_together d lo hi f g h n e l in_front at-end)
