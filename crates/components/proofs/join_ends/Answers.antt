use mathlib.Core.Path.{◌≡◌, refl, sym, ap, ◌∙◌}
use Prim.Native.Nat.{ℕ, ◌+◌}
use native.Mathlib.Omega.{arith}
use lib.ListN.{length}
use Rattle.list_laws.proofs.Laws.Count.{count_zero, count_hit, count_miss}
use Rattle.forest.specs.Paths.{Edges}
use Rattle.forest.proofs.Laws.Growth.{edges-of, lowest-begun, union_takes, lower-tree, lower-labels}
use Rattle.components.proofs.join_ends.Goals as goal
use Rattle.components.proofs.join_ends.Goals.{After-start, then-joins, else-joins}

-- the edges lie inside the forest that `start` made
within : (c : After-start) → Edges (length c.start.new.p) c.args.early.now c.args.late.now
within c = edges-of c.start.auto.p c.requires

pub loop-e-init : goal.loop-e-init
loop-e-init c = (sym (count_zero _), omega arith, omega arith, lowest-begun _ _ refl c.start.ensures)

pub union_lower-joins-requires : goal.union_lower-joins-requires
union_lower-joins-requires c = union_takes c.loop-e.invariant.3 (within (goal.at.union_lower-joins-requires c).After-start) _ (omega arith)

pub loop-e-preserved : goal.loop-e-preserved
loop-e-preserved c =
    let it = within (goal.at.loop-e-preserved c).After-start in
    let tree = lower-tree it _ (omega arith) c.loop-e.invariant.3 c.union_lower-joins.ensures in
    let grown = lower-labels it _ (omega arith) c.loop-e.invariant.3 c.union_lower-joins.ensures in
    elim c.if-joins.branch [
      | then-joins w ↦ (w.trees-is ∙ ap (λ (x : ℕ). x + 1) c.loop-e.invariant.0 ∙ sym (count_hit _ _ (sym tree ∙ w.if-joins.true)), omega arith, omega arith, grown)
      | else-joins w ↦ (w.trees-is ∙ c.loop-e.invariant.0 ∙ sym (count_miss _ _ (sym tree ∙ w.if-joins.false)), omega arith, omega arith, grown)
    ]

pub returns : goal.returns
returns c =
    let l = c in
    let s = l in
    let all : l.loop-e.e ≡ length s.args.early.now = omega arith in
    (rw all at l.loop-e.invariant.0, rw (l.start.auto.p, all) at l.loop-e.invariant.3)
