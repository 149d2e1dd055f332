use mathlib.Core.Path.{◌≡◌}
use Prim.Native.Nat.{◌≤◌}
use lib.Ieee.{nan}
use lib.ListN.{length, get_or}
use Rattle.list_laws.specs.Tabulate.{tabulate}
use Rattle.list_laws.specs.Part.{put}
use Rattle.job_run.proofs.planned.lay_factors.Given as goal

abbrev pub invariant-loop-e : goal.invariant-loop-e
invariant-loop-e l = (l.e ≤ length l.x) × (l.room ≡ put l.initial.room l.at (tabulate (λ i. get_or l.x i nan) l.e))
