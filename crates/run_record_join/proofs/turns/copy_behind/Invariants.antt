-- The first i bytes are copied.
use mathlib.Core.Path.{◌≡◌}
use Prim.Native.Nat.{◌+◌, ◌-◌, ◌≤◌}
use lib.ListN.{length, get_or}
use Rattle.list_laws.specs.Part.{put}
use Rattle.list_laws.specs.Tabulate.{tabulate}
use Rattle.run_record_join.proofs.turns.copy_behind.Given as goal

abbrev pub invariant-loop-i : goal.invariant-loop-i
invariant-loop-i l =
    (l.i ≤ length l.source - l.from) × (l.target ≡ put l.initial.target l.at (tabulate (λ j. get_or l.source (l.from + j) 0) l.i)) × (length l.target ≡ length l.initial.target)
