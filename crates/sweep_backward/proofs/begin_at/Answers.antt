-- The two cases.
use mathlib.Core.Path.{refl}
use mathlib.Core.Logic.{inl, inr}
use native.Mathlib.Omega.{arith}
use Rattle.step_tables.proofs.Laws.Constants.{one-is}
use Rattle.pair_sums.proofs.Laws.Stored.{stored_if}
use Rattle.sweep_backward.proofs.begin_at.Goals as goal

pub returns-then-t-n : goal.returns-then-t-n
returns-then-t-n c = inr (record { early = omega arith; same = refl; taken = stored_if _ 0 _ _ c.is_due.ensures c.half_stored.ensures })

pub returns : goal.returns
returns c = inl (record { last = omega arith; made = c.start_at.ensures; one = one-is })
