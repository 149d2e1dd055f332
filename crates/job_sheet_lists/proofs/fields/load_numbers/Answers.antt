use mathlib.Core.Path.{◌≡◌, refl, ap, ◌∙◌}
use Prim.Native.Nat.{ℕ, ◌+◌, ◌*◌}
use native.Mathlib.Omega.{arith}
use Rattle.list_laws.specs.Front.{over}
use Rattle.list_laws.specs.Tabulate.{tabulate}
use Rattle.little_endian.specs.Words.{word_at}
use Rattle.little_endian.proofs.Laws.Loaded.{loaded_none, loaded_more, loaded_length}
use Rattle.job_sheet_lists.proofs.fields.load_numbers.Goals as goal

pub loop-i-init : goal.loop-i-init
loop-i-init c = (loaded_none _ _, omega arith, refl)

pub overflow_mul-step : goal.overflow_mul-step
overflow_mul-step c =
    let s = c in
    let l = s.requires.lie c.loop-i.i (omega arith) in
    omega arith

pub overflow_add-place : goal.overflow_add-place
overflow_add-place c =
    let s = c in
    let l = s.requires.lie c.loop-i.i (omega arith) in
    omega arith

pub overflow_add-place-in-loop-i : goal.overflow_add-place-in-loop-i
overflow_add-place-in-loop-i c =
    let s = c in
    let l = s.requires.lie c.loop-i.i (omega arith) in
    omega arith

pub number_at-requires : goal.number_at-requires
number_at-requires c =
    let s = c in
    (omega arith, s.requires.lie c.loop-i.i (omega arith))

pub bounds-out-i : goal.bounds-out-i
bounds-out-i c = omega (arith, c.requires.fits)

pub loop-i-preserved : goal.loop-i-preserved
loop-i-preserved c =
    let l = c in
    let s = l in
    let a = s.args in
    let f = s.requires.fits in
    let next =
    loaded_more (λ j. word_at a.sheet.now (a.place + a.step * j + a.offset) 2) a.out.now _ _ _ (omega arith) l.loop-i.invariant.0 c.number_at.ensures in
    (next, omega arith, loaded_length _ _ _ _ (omega arith) next)

pub shape_of-out : goal.shape_of-out
shape_of-out c = c.loop-i.invariant.2

pub returns : goal.returns
returns c =
    let a = c.args in
    let e : c.loop-i.i ≡ a.count = omega arith in
    c.loop-i.invariant.0 ∙ ap (λ (k : ℕ). over (tabulate (λ j. word_at a.sheet.now (a.place + a.step * j + a.offset) 2) k) a.out.now) e
