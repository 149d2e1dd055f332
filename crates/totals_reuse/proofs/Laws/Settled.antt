-- Laws of what specs/Settled defines.
use Rattle.std.specs.Prelude.{◌≡◌, List, ℕ, ◌+◌, ◌≤◌}
use Rattle.std.proofs.Math.Logic.{dite}
use Rattle.std.proofs.Math.Decide.{dec_lt}
use Rattle.std.proofs.Common.{arith}
use Rattle.sweep_places.specs.Reuse.{Reads}
use Rattle.totals_reuse.specs.Settled.{Settled, EdgesIn, SettledAbove}

pub edges-first : {plan : List ℕ} {m n : ℕ} (k : ℕ) → EdgesIn plan m n → k ≤ n → EdgesIn plan m k
edges-first k g l =
    record { holds = omega (arith, g.holds); few = λ t b. g.few t (omega arith); reads = λ t b. g.reads t (omega arith) }

pub settled-more : (plan bits : List ℕ) (last n t : ℕ) → SettledAbove plan bits last n t → Reads plan t (Settled bits last)
    → (c : ℕ) → t ≡ c + 1 → SettledAbove plan bits last n c
settled-more plan bits last n t g here c e u a b =
    dite (dec_lt t u)
    (λ l. g u l b)
    (λ l. let same : u ≡ t = omega arith in rw same here)
