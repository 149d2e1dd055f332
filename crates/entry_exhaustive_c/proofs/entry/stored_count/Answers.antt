use mathlib.Core.Path.{ap}
use Prim.Native.Nat.{ℕ, ◌*◌, ◌^◌, ◌≤◌}
use native.Mathlib.Nat.{mul-le-mul_right}
use native.Mathlib.Omega.{arith}
use lib.Pow.{pow_mono}
use borrow.Author.Rules.{rules}
use Rattle.entry_exhaustive_c.proofs.entry.stored_count.Goals as goal

pub pow2-requires : goal.pow2-requires
pow2-requires c = search rules

pub overflow_mul-result : goal.overflow_mul-result
overflow_mul-result c =
    let s = c in
    let few : s.args.free ≤ 24 = omega (arith, c.if-free-gt-STORED.false) in
    let m : 2 ^ s.args.free ≤ 2 ^ 24 = pow_mono few in
    let h : s.args.sums * 2 ^ s.args.free ≤ 16384 * 2 ^ s.args.free = mul-le-mul_right (2 ^ s.args.free) s.requires in
    omega (arith, h, m, c.pow2.ensures, ap (λ (k : ℕ). s.args.sums * k) c.pow2.ensures)

pub returns : goal.returns
returns c = λ _. ap (λ (k : ℕ). c.args.sums * k) c.pow2.ensures
