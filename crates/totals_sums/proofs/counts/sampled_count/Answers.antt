-- No chunk, or the samples of each.
use mathlib.Core.Path.{◌≡◌, sym, ap, ◌∙◌}
use Prim.Native.Nat.{ℕ, ◌-◌, ◌*◌}
use native.Mathlib.Nat.{zero-mul}
use native.Mathlib.Omega.{arith}
use Rattle.totals_sums.proofs.counts.sampled_count.Goals as goal

pub returns-then-to-from : goal.returns-then-to-from
returns-then-to-from c = let z : c.args.to - c.args.from ≡ 0 = omega arith in sym (ap (λ (k : ℕ). k * c.args.samples) z ∙ zero-mul c.args.samples)
