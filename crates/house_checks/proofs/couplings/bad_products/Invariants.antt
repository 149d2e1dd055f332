-- A search over the betas: no coupling of theirs was off the grid so far.
use mathlib.Core.Path.{◌≡◌}
use mathlib.Core.Bool.{false}
use Prim.Native.Nat.{ℕ, ◌≤◌, ◌<◌}
use lib.ListN.{length}
use Rattle.list_laws.specs.Search.{some}
use Rattle.refusals.proofs.Laws.Couplings.{off_of}
use Rattle.house_checks.proofs.couplings.bad_products.Given as goal

abbrev pub invariant-loop-beta : goal.invariant-loop-beta
invariant-loop-beta l = ((i : ℕ) → i < l.beta-index → some (off_of l.betas l.mag i) (length l.mag) ≡ false) × (l.beta-index ≤ length l.betas)
