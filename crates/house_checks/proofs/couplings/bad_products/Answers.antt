use mathlib.Core.Path.{◌≡◌, sym, ◌∙◌, subst}
use Prim.Native.Nat.{ℕ, ◌≤◌, ◌<◌}
use native.Mathlib.Decide.{ℕ_discrete}
use native.Mathlib.Omega.{arith}
use Rattle.refusals.proofs.Laws.Couplings.{good_rows, bad-row}
use Rattle.house_checks.proofs.couplings.bad_products.Goals as goal

pub loop-beta-init : goal.loop-beta-init
loop-beta-init c = (λ i l. absurd (omega arith), omega arith)

pub returns-then-off_products : goal.returns-then-off_products
returns-then-off_products c = let a = c.args in bad-row a.betas.now a.mag.now c.loop-beta.beta-index c.loop-beta-test.true (sym c.if-off_products.true ∙ c.off_products.ensures)

pub loop-beta-preserved : goal.loop-beta-preserved
loop-beta-preserved c =
    let v = c.loop-beta in
    let row = sym c.off_products.ensures ∙ c.if-off_products.false in
    (λ i l. go i v.beta-index v.invariant.0 row (ℕ_discrete i v.beta-index) (omega arith), omega arith)
  where
    go : {P : ℕ → Type 0} (i b : ℕ) → ((j : ℕ) → j < b → P j) → P b → Dec (i ≡ b) → i ≤ b → P i
    go {P} i b before here (yes e) l = subst P (sym e) here
    go {P} i b before here (no n) l = before i (omega (arith, n))

pub returns : goal.returns
returns c =
    let a = c.args in
    let v = c.loop-beta in
    good_rows a.betas.now a.mag.now (λ i l. v.invariant.0 i (omega (arith, c.loop-beta-test.false, v.invariant.1)))
