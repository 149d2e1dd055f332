use native.Mathlib.Omega.{arith}
use mathlib.Core.Path.{◌≡◌, refl, ap, ◌∙◌}
use mathlib.Core.List.{List}
use Prim.Native.Nat.{ℕ, ◌+◌, ◌-◌}
use lib.ListN.{length, get_or, set}
use Rattle.list_laws.specs.Part.{put}
use Rattle.list_laws.specs.Tabulate.{tabulate}
use Rattle.list_laws.proofs.Laws.Part.{fill_none, fill_one, fill_length}
use Rattle.run_record_join.proofs.Laws.Copying.{copied}
use Rattle.run_record_join.proofs.turns.copy_behind.Goals as goal

pub loop-i-init : goal.loop-i-init
loop-i-init c = (omega arith, fill_none _ _ _, refl)

pub loop-i-preserved : goal.loop-i-preserved
loop-i-preserved c =
    let a = c.args in
    let l = c.loop-i in
    let f : ℕ → ℕ = λ j. get_or a.source.now (a.from + j) 0 in
    let e = ap (λ (t : List ℕ). set t (a.at + l.i) (f l.i)) l.invariant.1 ∙ fill_one a.target.now a.at f l.i (f l.i) (omega arith) refl in
    (omega arith, e, ap length e ∙ fill_length a.target.now a.at f (l.i + 1) (omega arith))

pub shape_of-target : goal.shape_of-target
shape_of-target c = c.loop-i.invariant.2

pub returns : goal.returns
returns c =
    let a = c.args in
    let l = c.loop-i in
    let f : ℕ → ℕ = λ j. get_or a.source.now (a.from + j) 0 in
    let k : l.i ≡ length a.source.now - a.from = omega arith in
    l.invariant.1 ∙ ap (λ (n : ℕ). put a.target.now a.at (tabulate f n)) k ∙ ap (put a.target.now a.at) (copied a.source.now a.from)
