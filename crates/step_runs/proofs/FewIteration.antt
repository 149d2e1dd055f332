-- One store is the one entry of a half, and two are its two.
use mathlib.Core.Path.{◌≡◌, refl, sym, ap, ◌∙◌}
use mathlib.Core.List.{List}
use Prim.Native.Nat.{ℕ, ◌+◌, ◌≤◌}
use native.Mathlib.Nat.{add-zero}
use native.Mathlib.Omega.{arith}
use lib.ListN.{length, set}
use lib.Ieee.{Float}
use Rattle.list_laws.specs.Tabulate.{tabulate}
use Rattle.list_laws.specs.Part.{put}
use Rattle.list_laws.proofs.Laws.Part.{fill_none, fill_one, fill_two}
use Rattle.step_tables.specs.Rule.{alternating}
use Rattle.step_tables.proofs.Laws.Rules.{alternating_even, alternating-odd}
use Rattle.transfer_matrix.specs.Rounded.{ieee}
use Rattle.largest_entry.specs.Larger.{larger}
use Rattle.largest_entry.specs.Top.{top}
use Rattle.largest_entry.proofs.Laws.Top.{top-none}
use Rattle.largest_entry.proofs.Laws.Lanes.{lane_iteration}

module _ (d : List Float) (at half : ℕ) (a b : Float) (fits : at + half ≤ length d) where
  pub few-one : half ≡ 1 → set d at a ≡ put d at (tabulate (alternating a b) half)
  few-one e =
      let f = alternating a b in
      rw e
      (ap (λ (l : List Float). set l at a) (fill_none d at f)
      ∙ rw (add-zero at) at (fill_one d at f 0 a (omega arith) (sym (alternating_even a b 0 refl))))

  pub few-two : half ≡ 2 → set (set d at a) (at + 1) b ≡ put d at (tabulate (alternating a b) half)
  few-two e =
      let f = alternating a b in
      rw e
      (ap (λ (l : List Float). set (set l at a) (at + 1) b) (fill_none d at f)
      ∙ rw (add-zero at) at (fill_two d at f 0 a b (omega arith) (sym (alternating_even a b 0 refl)) (sym (alternating-odd a b 1 refl))))

  -- the larger of them
  first-most : {m : Float} → m ≡ larger ieee.𝟘 a → m ≡ top (alternating a b) 1
  first-most m = lane_iteration (alternating a b) 0 (top-none (alternating a b)) (m ∙ ap (larger ieee.𝟘) (sym (alternating_even a b 0 refl)))

  pub most-one : {m : Float} → half ≡ 1 → m ≡ larger ieee.𝟘 a → m ≡ top (alternating a b) half
  most-one e m = rw e (first-most m)

  pub most-two : {m m' : Float} → half ≡ 2 → m ≡ larger ieee.𝟘 a → m' ≡ larger m b → m' ≡ top (alternating a b) half
  most-two {m} e one two = rw e (lane_iteration (alternating a b) 1 (first-most one) (two ∙ ap (larger m) (sym (alternating-odd a b 1 refl))))
