-- The bits of the edges so far, and how many of these are free.
use mathlib.Core.Path.{◌≡◌, sym, ap, ◌∙◌}
use mathlib.Core.Bool.{Bool, cond, not}
use mathlib.Core.List.{List}
use Prim.Native.Nat.{ℕ, ◌+◌, ◌≤◌}
use native.Mathlib.Omega.{arith}
use lib.ListN.{length}
use Rattle.edge_bits.specs.Having.{tree}
use Rattle.forest.specs.Labels.{is_tree}
use Rattle.forest.specs.FreeEdges.{free_before, free_count, bit_of, bits_of}
use Rattle.forest.proofs.Laws.FreeEdges.{before_more}
use Rattle.union_find.proofs.Laws.Filled.{Filled, filled_all}

module _ (early late : List ℕ) where
  -- one edge more, whose test is r
  pub next_bit : (e : ℕ) {free b : ℕ} {r : Bool} → free ≡ free_before early late e → r ≡ is_tree early late e → b ≡ cond r tree free → b ≡ bit_of early late e
  unfolding bit_of
  next_bit e f t h = rw (← f, ← t) h

  pub next-count : (e : ℕ) {free f : ℕ} {r : Bool} → free ≡ free_before early late e → r ≡ is_tree early late e → f ≡ free + cond (not r) 1 0
      → f ≡ free_before early late (e + 1)
  next-count e g t h = rw (before_more early late e, ← g, ← t) h

  -- all edges
  pub all-counted : (e : ℕ) {free : ℕ} → free ≡ free_before early late e → e ≤ length early → length early ≤ e → free ≡ free_count early late
  unfolding free_count
  all-counted e g a b = let all : length early ≡ e = omega arith in rw all g

  pub all-bits : {e : ℕ} {bits : List ℕ} → Filled 0 (bit_of early late) (length early) e bits → length early ≤ e → bits ≡ bits_of early late
  unfolding bits_of
  all-bits F h = filled_all F h
