use native.Mathlib.Nat.{sub-zero}
use native.Mathlib.Omega.{arith}
use Rattle.step_tables.proofs.Laws.Constants.{one-is}
use Rattle.step_tables.proofs.TableIteration.{product_iteration, product-done}
use Rattle.step_tables.proofs.tables.product.Goals as goal

pub loop-i-init : goal.loop-i-init
loop-i-init c = (omega arith, λ bits. rw (one-is, sub-zero))

pub loop-i-preserved : goal.loop-i-preserved
loop-i-preserved c =
    let i = c.loop-i.invariant in
    (omega arith, λ bits. product_iteration _ bits _ _ _ _ _ _ (omega arith) c.weighed-f.ensures (i.1 bits))

pub returns : goal.returns
returns c = λ bits. product-done _ bits _ _ _ _ _ (omega arith) (c.loop-i.invariant.1 bits)
