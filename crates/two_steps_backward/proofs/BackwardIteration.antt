-- What the loop over a run of two backward steps knows on its way.
use mathlib.Core.Path.{◌≡◌, sym}
use mathlib.Core.List.{List}
use Prim.Native.Nat.{ℕ, ◌+◌, ◌*◌, ◌-◌, ◌%◌, ◌≤◌, ◌<◌}
use native.Mathlib.Omega.{arith}
use lib.ListN.{length, get_or, set}
use lib.Ieee.{Float, nan}
use Rattle.list_laws.specs.Part.{Apart}
use Rattle.list_laws.proofs.Laws.Part.{apart-within}
use Rattle.step_tables.specs.Rule.{entries, alternating, mix, backward_rule}
use Rattle.step_tables.proofs.Laws.Rules.{alternating_even, alternating-odd}
use Rattle.step_runs.specs.declared.runs.Four.{Four}
use Rattle.step_runs.specs.Rule.{in_four}
use Rattle.step_runs.proofs.Laws.InFour.{four-0, four-1, four-2, four-3}
use Rattle.two_steps_backward.specs.Rule.{front_twice, end_twice}
use Rattle.two_steps_backward.specs.Inward.{Parts, inward}
use Rattle.two_steps_backward.proofs.Laws.Inward.{inward-two, inward-apart}

-- what is known at place i of the later vertex's weights and of the entries
record At (e f v : ℕ → Float) (i : ℕ) (e₀ e₁ f₀ f₁ v₀ v₁ v₂ v₃ : Float) : Type 0 where
  e_even : e (2 * i) ≡ e₀
  e_odd : e (2 * i + 1) ≡ e₁
  f_even : f (2 * i) ≡ f₀
  f_odd : f (2 * i + 1) ≡ f₁
  v-0 : v (2 * (2 * i)) ≡ v₀
  v-1 : v (2 * (2 * i) + 1) ≡ v₁
  v-2 : v (2 * (2 * i + 1)) ≡ v₂
  v-3 : v (2 * (2 * i + 1) + 1) ≡ v₃

module _ (x y z u : Float) (p q : ℕ → Float) {e f v : ℕ → Float} {i : ℕ} {p' q' e₀ e₁ f₀ f₁ v₀ v₁ v₂ v₃ : Float} (hp : p i ≡ p') (hq : q i ≡ q')
    (h : At e f v i e₀ e₁ f₀ f₁ v₀ v₁ v₂ v₃) where
  -- an entry from a pair at the front, and from one at the end
  front : mix x y p' q' (mix z u e₀ f₀ v₀ v₁) (mix z u e₁ f₁ v₂ v₃) ≡ front_twice x y z u p q e f v i
  unfolding backward_rule
  front = rw (← hp, ← hq, ← h.e_even, ← h.e_odd, ← h.f_even, ← h.f_odd, ← h.v-0, ← h.v-1, ← h.v-2, ← h.v-3)

  back : mix x y p' q' (mix z u e₁ f₁ v₂ v₃) (mix z u e₀ f₀ v₀ v₁) ≡ end_twice x y z u p q e f v i
  unfolding end_twice backward_rule
  back = rw (← hp, ← hq, ← h.e_even, ← h.e_odd, ← h.f_even, ← h.f_odd, ← h.v-0, ← h.v-1, ← h.v-2, ← h.v-3)

-- what a run makes from the list l, from pairs at the front and from pairs at the end
abbrev pub front_run : (x y z u : Float) (p q e f : Four) (s : ℕ) (l : List Float) → ℕ → Float
front_run x y z u p q e f s l =
    front_twice x y z u (alternating p.first p.third) (alternating q.first q.third)
    (in_four e.first e.second e.third e.fourth) (in_four f.first f.second f.third f.fourth) (entries l s)

abbrev pub end_run : (x y z u : Float) (p q e f : Four) (s : ℕ) (l : List Float) → ℕ → Float
end_run x y z u p q e f s l =
    end_twice x y u z (alternating p.second p.fourth) (alternating q.second q.fourth)
    (in_four e.first e.second e.third e.fourth) (in_four f.first f.second f.third f.fourth) (entries l s)

-- the first i places of a run of n, and those opposite to them
abbrev pub run_list : (x y z u : Float) (p q e f : Four) (s a b c d n : ℕ) (l : List Float) → ℕ → List Float
run_list x y z u p q e f s a b c d n l i =
    inward l a (b + (n - i)) c (d + (n - i))
    (front_run x y z u p q e f s l) (end_run x y z u p q e f s l) (end_run y x z u p q e f s l) (front_run y x z u p q e f s l) i

-- an iteration, at an even i: two places
module _ (x y z u : Float) (p q e f : Four) (s a b c d n : ℕ) (l v : List Float) where
  module _ (i : ℕ) (targets : Parts (length l) a b c d n) (fa : Apart (length l) s (4 * n) a n) (fb : Apart (length l) s (4 * n) b n)
      (fc : Apart (length l) s (4 * n) c n) (fd : Apart (length l) s (4 * n) d n) (so_far : v ≡ run_list x y z u p q e f s a b c d n l i)
      (next : i + 1 < n) (ev : i % 2 ≡ 0) where
    -- the parts so far
    parts : Parts (length l) a (b + (n - i)) c (d + (n - i)) i
    parts =
        let t = targets in
        record { first = omega (arith, t.first); second = omega (arith, t.second); third = omega (arith, t.third); last = omega (arith, t.last) }

    within : (o o' : ℕ) → Apart (length l) s (4 * n) o n → o ≤ o' → o' + i ≤ o + n → Apart (length l) s (4 * n) o' i
    within o o' f h g = apart-within s (4 * n) o' i f (omega arith) (omega arith) h g

    kept : (j k : ℕ) → j < 4 * n → k ≡ s + j → get_or l (s + j) nan ≡ get_or v k nan
    kept j k h g =
        rw (g, so_far)
        (sym (inward-apart l a (b + (n - i)) c (d + (n - i)) _ _ _ _ i parts s (4 * n) j nan (within a a fa (omega arith) (omega arith))
        (within b (b + (n - i)) fb (omega arith) (omega arith)) (within c c fc (omega arith) (omega arith))
        (within d (d + (n - i)) fd (omega arith) (omega arith)) h))

    even : At (in_four e.first e.second e.third e.fourth) (in_four f.first f.second f.third f.fourth) (entries l s) i
        e.first e.second f.first f.second
        (get_or v (s + 4 * i) nan) (get_or v (s + 4 * i + 1) nan) (get_or v (s + 4 * i + 2) nan) (get_or v (s + 4 * i + 3) nan)
    even =
        record {
          e_even = four-0 _ _ _ _ (2 * i) (omega arith);
          e_odd = four-1 _ _ _ _ (2 * i + 1) (omega arith);
          f_even = four-0 _ _ _ _ (2 * i) (omega arith);
          f_odd = four-1 _ _ _ _ (2 * i + 1) (omega arith);
          v-0 = kept (2 * (2 * i)) (s + 4 * i) (omega arith) (omega arith);
          v-1 = kept (2 * (2 * i) + 1) (s + 4 * i + 1) (omega arith) (omega arith);
          v-2 = kept (2 * (2 * i + 1)) (s + 4 * i + 2) (omega arith) (omega arith);
          v-3 = kept (2 * (2 * i + 1) + 1) (s + 4 * i + 3) (omega arith) (omega arith);
        }

    odd : At (in_four e.first e.second e.third e.fourth) (in_four f.first f.second f.third f.fourth) (entries l s) (i + 1)
        e.third e.fourth f.third f.fourth
        (get_or v (s + 4 * i + 4) nan) (get_or v (s + 4 * i + 5) nan) (get_or v (s + 4 * i + 6) nan) (get_or v (s + 4 * i + 7) nan)
    odd =
        record {
          e_even = four-2 _ _ _ _ (2 * (i + 1)) (omega arith);
          e_odd = four-3 _ _ _ _ (2 * (i + 1) + 1) (omega arith);
          f_even = four-2 _ _ _ _ (2 * (i + 1)) (omega arith);
          f_odd = four-3 _ _ _ _ (2 * (i + 1) + 1) (omega arith);
          v-0 = kept (2 * (2 * (i + 1))) (s + 4 * i + 4) (omega arith) (omega arith);
          v-1 = kept (2 * (2 * (i + 1)) + 1) (s + 4 * i + 5) (omega arith) (omega arith);
          v-2 = kept (2 * (2 * (i + 1) + 1)) (s + 4 * i + 6) (omega arith) (omega arith);
          v-3 = kept (2 * (2 * (i + 1) + 1) + 1) (s + 4 * i + 7) (omega arith) (omega arith);
        }

    -- what the later vertex's step makes, at an even place and at the next
    abbrev near : (z u : Float) → Float
    near z u = mix z u e.first f.first (get_or v (s + 4 * i) nan) (get_or v (s + 4 * i + 1) nan)

    abbrev near' : (z u : Float) → Float
    near' z u = mix z u e.second f.second (get_or v (s + 4 * i + 2) nan) (get_or v (s + 4 * i + 3) nan)

    abbrev far : (z u : Float) → Float
    far z u = mix z u e.third f.third (get_or v (s + 4 * i + 4) nan) (get_or v (s + 4 * i + 5) nan)

    abbrev far' : (z u : Float) → Float
    far' z u = mix z u e.fourth f.fourth (get_or v (s + 4 * i + 6) nan) (get_or v (s + 4 * i + 7) nan)

    -- the parts after it
    parts_next : Parts (length l) a (b + (n - (i + 2))) c (d + (n - (i + 2))) (i + 2)
    parts_next =
        let t = targets in
        record { first = omega (arith, t.first); second = omega (arith, t.second); third = omega (arith, t.third); last = omega (arith, t.last) }

    filled : v ≡ inward l a (b + (n - (i + 2)) + 2) c (d + (n - (i + 2)) + 2) (front_run x y z u p q e f s l) (end_run x y z u p q e f s l)
        (end_run y x z u p q e f s l) (front_run y x z u p q e f s l) i
    filled =
        let eb : b + (n - (i + 2)) + 2 ≡ b + (n - i) = omega arith in
        let ed : d + (n - (i + 2)) + 2 ≡ d + (n - i) = omega arith in
        rw (eb, ed) so_far

    pub run_iteration : set (set (set (set (set (set (set (set v
        (a + i) (mix x y p.first q.first (near z u) (near' z u))) (a + i + 1) (mix x y p.third q.third (far z u) (far' z u)))
        (b + (n - i) - 2) (mix x y p.fourth q.fourth (far' u z) (far u z))) (b + (n - i) - 1) (mix x y p.second q.second (near' u z) (near u z)))
        (c + i) (mix y x p.second q.second (near' u z) (near u z))) (c + i + 1) (mix y x p.fourth q.fourth (far' u z) (far u z)))
        (d + (n - i) - 2) (mix y x p.third q.third (far z u) (far' z u))) (d + (n - i) - 1) (mix y x p.first q.first (near z u) (near' z u))
        ≡ run_list x y z u p q e f s a b c d n l (i + 2)
    run_iteration =
        let o : (i + 1) % 2 ≡ 1 = omega arith in
        inward-two l a (b + (n - (i + 2))) c (d + (n - (i + 2))) _ _ _ _ i v parts_next filled _ _ _ _ _ _ _ _ _ _ _ _
        (omega arith) (omega arith) (omega arith) (omega arith)
        (front x y z u _ _ (alternating_even _ _ i ev) (alternating_even _ _ i ev) even) (front x y z u _ _ (alternating-odd _ _ (i + 1) o) (alternating-odd _ _ (i + 1) o) odd)
        (back x y u z _ _ (alternating_even _ _ i ev) (alternating_even _ _ i ev) even) (back x y u z _ _ (alternating-odd _ _ (i + 1) o) (alternating-odd _ _ (i + 1) o) odd)
        (back y x u z _ _ (alternating_even _ _ i ev) (alternating_even _ _ i ev) even) (back y x u z _ _ (alternating-odd _ _ (i + 1) o) (alternating-odd _ _ (i + 1) o) odd)
        (front y x z u _ _ (alternating_even _ _ i ev) (alternating_even _ _ i ev) even) (front y x z u _ _ (alternating-odd _ _ (i + 1) o) (alternating-odd _ _ (i + 1) o) odd)
