-- What is left of the product, from f on, stays what the whole product is.
use mathlib.Core.List.{List}
use mathlib.Core.Path.{◌≡◌}
use Prim.Native.Nat.{ℕ, ◌≤◌, ◌-◌}
use Rattle.transfer_matrix.specs.Rounded.{ieee}
use Rattle.transfer_matrix.specs.Sweep as S
use Rattle.step_tables.specs.Step.{near_edges}
use Rattle.step_tables.proofs.tables.product.Given as goal

abbrev pub invariant-loop-i : goal.invariant-loop-i
invariant-loop-i l =
    (l.i ≤ l.n)
    × ((bits : List ℕ) → S.product ieee (near_edges l.factors bits l.i (l.n - l.i)) l.r l.f ≡ S.product ieee (near_edges l.factors bits 0 l.n) l.m ieee.𝟙)
