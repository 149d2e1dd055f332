use mathlib.Core.Path.{◌≡◌}
use Prim.Native.Nat.{◌/◌, ◌%◌, ◌≤◌}
use lib.ListN.{length}
use Rattle.rng.specs.Xoshiro.{output}
use Rattle.list_laws.specs.Bits.{bit}
use Rattle.list_laws.specs.Front.{over}
use Rattle.list_laws.specs.Tabulate.{tabulate}
use Rattle.transfer_matrix.specs.Configuration.{drawn}
use Rattle.totals_signs.specs.Words.{Word}
use Rattle.totals_signs.proofs.drawn.sampled_signs.Given as goal

abbrev pub invariant-loop-e : goal.invariant-loop-e
invariant-loop-e l = (l.e ≤ length l.initial.signs) × Word l.initial.at.rng.s l.e l.at × (length l.signs ≡ length l.initial.signs) × (l.signs ≡ over (tabulate (λ k. bit (k % 64) (output (drawn l.initial.at.rng.s (k / 64)))) l.e) l.initial.signs)
