-- What the loop that negates odd entries knows on its way.
use mathlib.Core.Path.{◌≡◌, refl, ap, ◌∙◌}
use mathlib.Core.List.{List}
use Prim.Native.Nat.{ℕ, ◌+◌, ◌/◌, ◌%◌, ◌≤◌, ◌<◌}
use native.Mathlib.Nat.{add-zero}
use native.Mathlib.Omega.{arith}
use lib.ListN.{length, get_or, set}
use lib.Ieee.{Float, nan, neg}
use Rattle.list_laws.specs.Tabulate.{tabulate}
use Rattle.list_laws.specs.Part.{Apart, put}
use Rattle.list_laws.proofs.Laws.Part.{fill_none, fill_one, fill_two, read_apart}
use Rattle.step_tables.specs.Rule.{entries}
use Rattle.half_vectors.specs.Antisymmetric.{alternate_half}

module _ (h : ℕ → Float) (j : ℕ) where
  alternate_even : j % 2 ≡ 0 → alternate_half h j ≡ h j
  unfolding alternate_half
  alternate_even e = let b : j / 1 % 2 ≡ 0 = omega arith in rw b

  alternate-odd : j % 2 ≡ 1 → alternate_half h j ≡ neg (h j)
  unfolding alternate_half
  alternate-odd e = let b : j / 1 % 2 ≡ 1 = omega arith in rw b

module _ (s o : ℕ) (d : List Float) where
  abbrev rule : ℕ → Float
  rule = alternate_half (entries d s)

  -- an iteration at an even j: two entries
  pub alternate_iteration : (v : List Float) (n j : ℕ) → Apart (length d) s n o n → j + 1 < n → j % 2 ≡ 0 → v ≡ put d o (tabulate rule j)
      → set (set v (o + j) (get_or v (s + j) nan)) (o + (j + 1)) (neg (get_or v (s + (j + 1)) nan)) ≡ put d o (tabulate rule (j + 2))
  alternate_iteration v n j f h ev e =
      let kept : (i : ℕ) → i < n → get_or v (s + i) nan ≡ get_or d (s + i) nan = λ i b. rw e (read_apart d o rule j s n n i nan f (omega arith) b) in
      let x : get_or v (s + j) nan ≡ rule j = rw (alternate_even (entries d s) j ev) (kept j (omega arith)) in
      let y : neg (get_or v (s + (j + 1)) nan) ≡ rule (j + 1) = rw (alternate-odd (entries d s) (j + 1) (omega arith)) (ap neg (kept (j + 1) h)) in
      rw (x, y, e) (fill_two d o rule j (rule j) (rule (j + 1)) (omega (arith, f.to)) refl refl)

  -- the only entry
  pub alternate-one : (n : ℕ) → n ≡ 1 → o + n ≤ length d → set d o (get_or d s nan) ≡ put d o (tabulate rule n)
  alternate-one n e fits =
      let x : get_or d s nan ≡ rule 0 = rw (alternate_even (entries d s) 0 refl, add-zero s) in
      rw e
      (ap (λ (l : List Float). set l o (get_or d s nan)) (fill_none d o rule)
      ∙ rw (add-zero o) at (fill_one d o rule 0 (get_or d s nan) (omega arith) x))
