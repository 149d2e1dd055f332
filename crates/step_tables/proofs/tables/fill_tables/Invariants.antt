-- The loop fills one table from its front and the other from its end with the same products.
use mathlib.Core.Path.{◌≡◌}
use mathlib.Core.List.{List}
use Prim.Native.Nat.{ℕ, ◌≤◌, ◌<◌, ◌-◌, ◌^◌}
use lib.Ieee.{nan}
use lib.ListN.{length, get_or}
use Rattle.transfer_matrix.specs.Rounded.{ieee}
use Rattle.transfer_matrix.specs.Sweep as S
use Rattle.step_tables.specs.Step.{near_edges}
use Rattle.step_tables.proofs.tables.fill_tables.Given as goal

abbrev pub invariant-loop-m : goal.invariant-loop-m
invariant-loop-m l =
    (l.m ≤ l.full) × (l.full ≡ 2 ^ l.count) × (l.full ≤ 16) × (length l.up ≡ length l.initial.up) × (length l.down ≡ length l.initial.down)
    × ((bits : List ℕ) (j : ℕ) → j < l.m → get_or l.up j nan ≡ S.up ieee (near_edges l.factors bits 0 l.count) l.scale j)
    × ((bits : List ℕ) (j : ℕ) → j < l.m → get_or l.down (l.full - 1 - j) nan ≡ S.up ieee (near_edges l.factors bits 0 l.count) l.scale j)
