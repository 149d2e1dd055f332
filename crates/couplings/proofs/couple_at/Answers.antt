use mathlib.Core.Path.{◌≡◌, refl, ap, ◌∙◌}
use Prim.Native.Nat.{◌+◌, ◌<◌}
use native.Mathlib.Omega.{arith}
use lib.Ieee.{nan, binary64, mul}
use lib.ListN.{length, get_or}
use Rattle.list_laws.specs.Tabulate.{tabulate}
use Rattle.list_laws.specs.Part.{put}
use Rattle.list_laws.proofs.Laws.Part.{fill_none, fill_one, fill_length}
use Rattle.couplings.proofs.couple_at.Goals as goal

pub loop-e-init : goal.loop-e-init
loop-e-init c = (omega arith, fill_none _ _ _)

pub bounds-results-at : goal.bounds-results-at
bounds-results-at c =
    let i = c.loop-e in
    let a = c.args in
    let l = fill_length a.results.now a.at (λ j. mul binary64 a.beta (get_or a.mag.now j nan)) i.e (omega arith) in
    omega (arith, ap length i.invariant.1)

pub loop-e-preserved : goal.loop-e-preserved
loop-e-preserved c =
    let a = c.args in
    let b : a.at + c.loop-e.e < length a.results.now = omega arith in
    (omega arith, rw c.loop-e.invariant.1 (fill_one _ _ _ _ _ b refl))

pub shape_of-results : goal.shape_of-results
shape_of-results c =
    let a = c.args in
    ap length c.loop-e.invariant.1
    ∙ fill_length a.results.now a.at (λ j. mul binary64 a.beta (get_or a.mag.now j nan)) c.loop-e.e (omega arith)

pub returns : goal.returns
returns c =
    let a = c.args in
    let k : c.loop-e.e ≡ length a.mag.now = omega arith in
    c.loop-e.invariant.1 ∙ ap (λ j. put a.results.now a.at (tabulate (λ i. mul binary64 a.beta (get_or a.mag.now i nan)) j)) k
