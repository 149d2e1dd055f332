-- A search through the powers of two.
use mathlib.Core.Path.{◌≡◌}
use mathlib.Core.Bool.{false}
use Prim.Native.Nat.{suc, ◌^◌, ◌≤◌}
use lib.Dec.{eqb}
use Rattle.limits.specs.Limits.{most_counted}
use Rattle.list_laws.specs.Search.{some}
use Rattle.estimate_complete.proofs.counts.is_complete.Given as goal

abbrev pub invariant-loop-free : goal.invariant-loop-free
invariant-loop-free l = (l._free ≤ suc most_counted) × (l.power ≡ 2 ^ l._free) × (some (λ k. eqb l.count (2 ^ k)) l._free ≡ false)
