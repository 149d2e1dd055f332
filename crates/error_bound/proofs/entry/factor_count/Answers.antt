-- Few betas and edges: the product fits.
use Prim.Native.Nat.{◌*◌, ◌≤◌}
use native.Mathlib.Nat.{mul-le-mul}
use native.Mathlib.Omega.{arith}
use Rattle.error_bound.proofs.entry.factor_count.Goals as goal

pub overflow_mul-result : goal.overflow_mul-result
overflow_mul-result c = let q : c.args.betas * c.args.edges ≤ 64 * 4096 = mul-le-mul c.requires.0 c.requires.1 in record { fits = omega arith }

pub overflow_mul-result-then-signed : goal.overflow_mul-result-then-signed
overflow_mul-result-then-signed c = let q : c.args.betas * c.args.edges ≤ 64 * 4096 = mul-le-mul c.requires.0 c.requires.1 in record { fits = omega arith }

pub returns-then-signed : goal.returns-then-signed
returns-then-signed c = let e = c.if-signed.true in rw e

pub returns : goal.returns
returns c = let e = c.if-signed.false in rw e
