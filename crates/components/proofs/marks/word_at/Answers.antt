use mathlib.Core.Path.{◌≡◌, sym, ap, ◌∙◌}
use mathlib.Core.Bool.{Bool, cond}
use Prim.Native.Nat.{◌+◌, ◌-◌, ◌*◌, ◌^◌, ◌<◌}
use native.Mathlib.Omega.{arith}
use Rattle.components.specs.Marks.{is_root}
use Rattle.forest.proofs.Laws.Marks.{bits_none}
use Rattle.components.proofs.Words.{next_word, word_fits}
use Rattle.components.proofs.marks.word_at.Goals as goal

pub loop-b-init : goal.loop-b-init
loop-b-init c = (sym (bits_none _ _), omega arith)

pub overflow_add-word : goal.overflow_add-word
overflow_add-word c = omega (
  arith,
  (let it : c.bit_of.result + 2 * c.loop-b.word < 2 ^ 64 = let l = c in
      word_fits _ _ _ _ _ (omega arith) l.loop-b.invariant.1 l.loop-b.invariant.0 ((let it : (let l = c in
      let a = l.args in
      c.bit_of.result ≡ cond (is_root a.p.now (a.first + (l.loop-b.b - 1))) 1 0) = c.bit_of.ensures ∙ ap (λ (t : Bool). cond t 1 0) c.is_root.ensures in it)) in it),
)

pub overflow_mul-word : goal.overflow_mul-word
overflow_mul-word c = omega (
  arith,
  (let it : c.bit_of.result + 2 * c.loop-b.word < 2 ^ 64 = let l = c in
      word_fits _ _ _ _ _ (omega arith) l.loop-b.invariant.1 l.loop-b.invariant.0 ((let it : (let l = c in
      let a = l.args in
      c.bit_of.result ≡ cond (is_root a.p.now (a.first + (l.loop-b.b - 1))) 1 0) = c.bit_of.ensures ∙ ap (λ (t : Bool). cond t 1 0) c.is_root.ensures in it)) in it),
)

pub loop-b-preserved : goal.loop-b-preserved
loop-b-preserved c =
    let l = c in (
      next_word _ _ _ _ _ (omega arith) l.loop-b.invariant.1 l.loop-b.invariant.0 ((let it : (let l = c in
          let a = l.args in
          c.bit_of.result ≡ cond (is_root a.p.now (a.first + (l.loop-b.b - 1))) 1 0) = c.bit_of.ensures ∙ ap (λ (t : Bool). cond t 1 0) c.is_root.ensures in it)),
      omega arith,
    )

pub returns : goal.returns
returns c =
    let none : c.loop-b.b ≡ 0 = omega arith in
    let e : c.args.first + 0 ≡ c.args.first = omega arith in
    rw (none, e) at c.loop-b.invariant.0
