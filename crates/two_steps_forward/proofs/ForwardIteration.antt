-- What the loops of two forward steps know on their way.
use mathlib.Core.Path.{◌≡◌, refl, sym}
use mathlib.Core.List.{List}
use Prim.Native.Nat.{ℕ, ◌+◌, ◌*◌, ◌-◌, ◌%◌, ◌<◌}
use native.Mathlib.Omega.{arith}
use lib.ListN.{length, get_or, set}
use lib.Ieee.{Float, nan}
use Rattle.list_laws.specs.Tabulate.{tabulate}
use Rattle.list_laws.specs.Part.{Apart, put}
use Rattle.list_laws.proofs.Laws.Part.{fill_two, read_apart}
use Rattle.step_tables.specs.Rule.{entries, from_end, alternating, blend}
use Rattle.step_tables.proofs.Laws.Rules.{alternating_even, alternating-odd}
use Rattle.step_runs.specs.declared.runs.Four.{Four}
use Rattle.step_runs.specs.Rule.{in_four}
use Rattle.two_steps_forward.specs.Rule.{half_twice}
use Rattle.step_runs.proofs.Laws.InFour.{four-0, four-1, four-2, four-3}
use Rattle.two_steps_forward.proofs.Rules.{At, twice-0, twice-1, twice-2, twice-3}

-- ---- four elements more, and eight

module _ (d : List Float) (at : ℕ) (f : ℕ → Float) where
  fill_four : (n i₁ i₂ i₃ : ℕ) (a₀ a₁ a₂ a₃ : Float) → at + n + 3 < length d → i₁ ≡ at + n + 1 → i₂ ≡ at + n + 2 → i₃ ≡ at + n + 3
      → a₀ ≡ f n → a₁ ≡ f (n + 1) → a₂ ≡ f (n + 2) → a₃ ≡ f (n + 3)
      → set (set (set (set (put d at (tabulate f n)) (at + n) a₀) i₁ a₁) i₂ a₂) i₃ a₃ ≡ put d at (tabulate f (n + 4))
  fill_four n i₁ i₂ i₃ a₀ a₁ a₂ a₃ h e₁ e₂ e₃ p₀ p₁ p₂ p₃ =
      let g₁ : i₁ ≡ at + (n + 1) = omega arith in
      let g₂ : i₂ ≡ at + (n + 2) = omega arith in
      let g₃ : i₃ ≡ at + (n + 2 + 1) = omega arith in
      let g : n + 4 ≡ n + 2 + 2 = omega arith in
      let q : a₃ ≡ f (n + 2 + 1) = let z : n + 3 ≡ n + 2 + 1 = omega arith in rw z at p₃ in
      rw (g₁, g₂, g₃, g, fill_two d at f n a₀ a₁ (omega arith) p₀ p₁) (fill_two d at f (n + 2) a₂ a₃ (omega arith) p₂ q)

  fill_eight : (n m : ℕ) (v : List Float) (a₀ a₁ a₂ a₃ a₄ a₅ a₆ a₇ : Float) → v ≡ put d at (tabulate f n) → m ≡ n + 8 → at + n + 7 < length d
      → a₀ ≡ f n → a₁ ≡ f (n + 1) → a₂ ≡ f (n + 2) → a₃ ≡ f (n + 3) → a₄ ≡ f (n + 4) → a₅ ≡ f (n + 5) → a₆ ≡ f (n + 6) → a₇ ≡ f (n + 7)
      → set (set (set (set (set (set (set (set v (at + n) a₀) (at + n + 1) a₁) (at + n + 2) a₂) (at + n + 3) a₃)
      (at + n + 4) a₄) (at + n + 5) a₅) (at + n + 6) a₆) (at + n + 7) a₇
      ≡ put d at (tabulate f m)
  fill_eight n m v a₀ a₁ a₂ a₃ a₄ a₅ a₆ a₇ filled more h p₀ p₁ p₂ p₃ p₄ p₅ p₆ p₇ =
      let g₄ : at + n + 4 ≡ at + (n + 4) = omega arith in
      let g : m ≡ n + 4 + 4 = omega arith in
      let z₅ : n + 5 ≡ n + 4 + 1 = omega arith in
      let z₆ : n + 6 ≡ n + 4 + 2 = omega arith in
      let z₇ : n + 7 ≡ n + 4 + 3 = omega arith in
      let q₅ : a₅ ≡ f (n + 4 + 1) = rw z₅ at p₅ in
      let q₆ : a₆ ≡ f (n + 4 + 2) = rw z₆ at p₆ in
      let q₇ : a₇ ≡ f (n + 4 + 3) = rw z₇ at p₇ in
      rw (filled, g₄, g, fill_four n (at + n + 1) (at + n + 2) (at + n + 3) a₀ a₁ a₂ a₃ (omega arith) refl refl refl p₀ p₁ p₂ p₃)
      (fill_four (n + 4) (at + n + 5) (at + n + 6) (at + n + 7) a₄ a₅ a₆ a₇ (omega arith) (omega arith) (omega arith) (omega arith) p₄ q₅ q₆ q₇)

-- ---- an iteration of a run, at an even i: two places

-- what a run of n places makes from the list l
abbrev pub run_rule : (ep sem em sep ep₂ sem₂ em₂ sep₂ : Float) (p q e f : Four) (a b c d n : ℕ) (l : List Float) → ℕ → Float
run_rule ep sem em sep ep₂ sem₂ em₂ sep₂ p q e f a b c d n l =
    half_twice ep sem em sep ep₂ sem₂ em₂ sep₂ (alternating p.first p.third) (alternating q.first q.third) (alternating p.second p.fourth)
    (alternating q.second q.fourth) (in_four e.first e.second e.third e.fourth) (in_four f.first f.second f.third f.fourth)
    (entries l a) (from_end l b n) (entries l c) (from_end l d n)

module _ (ep sem em sep ep₂ sem₂ em₂ sep₂ : Float) (p q e f : Four) (a b c d o n : ℕ) (l v : List Float) where
  abbrev rule : ℕ → Float
  rule = run_rule ep sem em sep ep₂ sem₂ em₂ sep₂ p q e f a b c d n l

  module _ (i : ℕ) (fa : Apart (length l) a n o (4 * n)) (fb : Apart (length l) b n o (4 * n)) (fc : Apart (length l) c n o (4 * n))
      (fd : Apart (length l) d n o (4 * n)) (filled : v ≡ put l o (tabulate rule (4 * i))) (next : i + 1 < n) (ev : i % 2 ≡ 0) where
    kept : (s : ℕ) → Apart (length l) s n o (4 * n) → (j k : ℕ) → j < n → k ≡ s + j → get_or l (s + j) nan ≡ get_or v k nan
    kept s g j k b w = rw w (sym (rw filled (read_apart l o rule (4 * i) s n (4 * n) j nan g (omega arith) b)))

    even : At (alternating p.first p.third) (alternating q.first q.third) (alternating p.second p.fourth) (alternating q.second q.fourth)
        (in_four e.first e.second e.third e.fourth) (in_four f.first f.second f.third f.fourth)
        (entries l a) (from_end l b n) (entries l c) (from_end l d n) i
        p.first q.first p.second q.second e.first e.second f.first f.second
        (get_or v (a + i) nan) (get_or v (b + (n - i) - 1) nan) (get_or v (c + i) nan) (get_or v (d + (n - i) - 1) nan)
    even =
        record {
          p_is = alternating_even _ _ i ev;
          q_is = alternating_even _ _ i ev;
          r_is = alternating_even _ _ i ev;
          s-is = alternating_even _ _ i ev;
          e_even = four-0 _ _ _ _ (2 * i) (omega arith);
          e_odd = four-1 _ _ _ _ (2 * i + 1) (omega arith);
          f_even = four-0 _ _ _ _ (2 * i) (omega arith);
          f_odd = four-1 _ _ _ _ (2 * i + 1) (omega arith);
          a-is = kept a fa i _ (omega arith) refl;
          b-is = kept b fb (n - 1 - i) _ (omega arith) (omega arith);
          c-is = kept c fc i _ (omega arith) refl;
          d_is = kept d fd (n - 1 - i) _ (omega arith) (omega arith);
        }

    odd : At (alternating p.first p.third) (alternating q.first q.third) (alternating p.second p.fourth) (alternating q.second q.fourth)
        (in_four e.first e.second e.third e.fourth) (in_four f.first f.second f.third f.fourth)
        (entries l a) (from_end l b n) (entries l c) (from_end l d n) (i + 1)
        p.third q.third p.fourth q.fourth e.third e.fourth f.third f.fourth
        (get_or v (a + i + 1) nan) (get_or v (b + (n - i) - 2) nan) (get_or v (c + i + 1) nan) (get_or v (d + (n - i) - 2) nan)
    odd =
        let o' : (i + 1) % 2 ≡ 1 = omega arith in
        record {
          p_is = alternating-odd _ _ (i + 1) o';
          q_is = alternating-odd _ _ (i + 1) o';
          r_is = alternating-odd _ _ (i + 1) o';
          s-is = alternating-odd _ _ (i + 1) o';
          e_even = four-2 _ _ _ _ (2 * (i + 1)) (omega arith);
          e_odd = four-3 _ _ _ _ (2 * (i + 1) + 1) (omega arith);
          f_even = four-2 _ _ _ _ (2 * (i + 1)) (omega arith);
          f_odd = four-3 _ _ _ _ (2 * (i + 1) + 1) (omega arith);
          a-is = kept a fa (i + 1) _ next (omega arith);
          b-is = kept b fb (n - 1 - (i + 1)) _ (omega arith) (omega arith);
          c-is = kept c fc (i + 1) _ next (omega arith);
          d_is = kept d fd (n - 1 - (i + 1)) _ (omega arith) (omega arith);
        }

    -- what the first step makes at the front and at the end, at places 2 i to 2 i + 3
    abbrev k₀ : Float
    k₀ = blend ep sem p.first (get_or v (a + i) nan) (get_or v (b + (n - i) - 1) nan)

    abbrev l₀ : Float
    l₀ = blend em sep q.first (get_or v (a + i) nan) (get_or v (b + (n - i) - 1) nan)

    abbrev m₀ : Float
    m₀ = blend em sep q.second (get_or v (d + (n - i) - 1) nan) (get_or v (c + i) nan)

    abbrev n₀ : Float
    n₀ = blend ep sem p.second (get_or v (d + (n - i) - 1) nan) (get_or v (c + i) nan)

    abbrev k₁ : Float
    k₁ = blend ep sem p.third (get_or v (a + i + 1) nan) (get_or v (b + (n - i) - 2) nan)

    abbrev l₁ : Float
    l₁ = blend em sep q.third (get_or v (a + i + 1) nan) (get_or v (b + (n - i) - 2) nan)

    abbrev m₁ : Float
    m₁ = blend em sep q.fourth (get_or v (d + (n - i) - 2) nan) (get_or v (c + i + 1) nan)

    abbrev n₁ : Float
    n₁ = blend ep sem p.fourth (get_or v (d + (n - i) - 2) nan) (get_or v (c + i + 1) nan)

    pub run_iteration : set (set (set (set (set (set (set (set v
        (o + 4 * i) (blend ep₂ sem₂ e.first k₀ m₀)) (o + 4 * i + 1) (blend em₂ sep₂ f.first k₀ m₀))
        (o + 4 * i + 2) (blend ep₂ sem₂ e.second l₀ n₀)) (o + 4 * i + 3) (blend em₂ sep₂ f.second l₀ n₀))
        (o + 4 * i + 4) (blend ep₂ sem₂ e.third k₁ m₁)) (o + 4 * i + 5) (blend em₂ sep₂ f.third k₁ m₁))
        (o + 4 * i + 6) (blend ep₂ sem₂ e.fourth l₁ n₁)) (o + 4 * i + 7) (blend em₂ sep₂ f.fourth l₁ n₁)
        ≡ put l o (tabulate rule (4 * (i + 2)))
    run_iteration =
        fill_eight l o rule (4 * i) (4 * (i + 2)) v _ _ _ _ _ _ _ _ filled (omega arith) (omega (arith, fa.to))
        (twice-0 ep sem em sep ep₂ sem₂ em₂ sep₂ even (4 * i) refl) (twice-1 ep sem em sep ep₂ sem₂ em₂ sep₂ even (4 * i + 1) refl)
        (twice-2 ep sem em sep ep₂ sem₂ em₂ sep₂ even (4 * i + 2) refl) (twice-3 ep sem em sep ep₂ sem₂ em₂ sep₂ even (4 * i + 3) refl)
        (twice-0 ep sem em sep ep₂ sem₂ em₂ sep₂ odd (4 * i + 4) (omega arith)) (twice-1 ep sem em sep ep₂ sem₂ em₂ sep₂ odd (4 * i + 5) (omega arith))
        (twice-2 ep sem em sep ep₂ sem₂ em₂ sep₂ odd (4 * i + 6) (omega arith)) (twice-3 ep sem em sep ep₂ sem₂ em₂ sep₂ odd (4 * i + 7) (omega arith))
