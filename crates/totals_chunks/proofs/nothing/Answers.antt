use mathlib.Core.Path.{◌≡◌}
use mathlib.Core.Bool.{true, false}
use mathlib.Core.Logic.{inl, inr}
use Prim.Native.Nat.{ℕ}
use native.Mathlib.Omega.{arith}
use borrow.Author.Tests.{eqb-true}
use Rattle.totals_chunks.proofs.nothing.Goals as goal

no : true ≡ false → ⊥
no z = let z' : ◌≡◌ {A = ℕ} 0 1 = cc in omega arith

pub returns-then-end-first : goal.returns-then-end-first
returns-then-end-first c = (λ _. inl (omega arith), λ e. absurd (no e))

pub returns-then-size-eq0 : goal.returns-then-size-eq0
returns-then-size-eq0 c = (λ _. inr (inl (omega arith)), λ e. absurd (no e))

pub returns : goal.returns
returns c = (λ e. inr (inr (eqb-true _ _ e)), λ _. omega arith)
