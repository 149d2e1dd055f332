-- What it means that a count is not bad.
use Rattle.std.specs.Prelude.{◌≡◌, false, ℕ, ◌^◌, ◌≤◌, eqb, ltb}
use Rattle.std.proofs.Common.{ltb-false}
use Rattle.list_laws.proofs.Laws.Search.{or-false}
use Rattle.estimate.specs.Estimates.{bad_count}

pub few-enough : (count : ℕ) → bad_count count ≡ false → count ≤ 2 ^ 53
few-enough count h = ltb-false (2 ^ 53) count (or-false (eqb count 0) (ltb (2 ^ 53) count) h).1
