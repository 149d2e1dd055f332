use mathlib.Core.Path.{◌≡◌, sym, ap, ◌∙◌}
use Prim.Native.Nat.{ℕ, ◌+◌, ◌-◌, ◌*◌, ◌^◌, ◌≤◌, ◌<◌}
use native.Mathlib.Nat.{pow-le-pow_right}
use native.Mathlib.Omega.{arith}
use mathlib.Core.List.{List}
use lib.ListN.{length, get_or}
use Rattle.little_endian.specs.Words.{Bytes, word_at}
use Rattle.little_endian.proofs.Laws.Words.{word-at-none, word-at-more, word-at-below}
use Rattle.little_endian.proofs.words.word_at.Goals as goal

-- one byte more
more : (bytes : List ℕ) (place width i x : ℕ) → place + width ≤ length bytes → 0 < i → i ≤ width → x ≡ word_at bytes (place + i) (width - i)
    → 256 * x + get_or bytes (place + (i - 1)) 0 ≡ word_at bytes (place + (i - 1)) (width - (i - 1))
more bytes place width i x h p q e =
    let m = word-at-more bytes (place + (i - 1)) (width - i) (omega arith) in
    let a : place + (i - 1) + 1 ≡ place + i = omega arith in
    let b : width - i + 1 ≡ width - (i - 1) = omega arith in
    sym (ap (word_at bytes (place + (i - 1))) (sym b) ∙ m ∙ rw (a, ← e))

-- it fits
fits : (bytes : List ℕ) (place width i x : ℕ) → Bytes bytes → width ≤ 8 → place + width ≤ length bytes → 0 < i → i ≤ width
    → x ≡ word_at bytes (place + i) (width - i) → x < 2 ^ 56
fits bytes place width i x b w h p q e =
    let s = word-at-below bytes (place + i) (width - i) b (omega arith) in
    let t : 256 ^ (width - i) ≤ 256 ^ 7 = pow-le-pow_right {n = 256} (omega arith) {i = width - i} {j = 7} (omega arith) in
    omega arith

pub loop-i-init : goal.loop-i-init
loop-i-init c =
    let a = c.args in
    let z : a.width - a.width ≡ 0 = omega arith in
    (omega arith, sym (ap (word_at a.bytes.now (a.place + a.width)) z ∙ word-at-none _ _))

pub overflow_cast-byte : goal.overflow_cast-byte
overflow_cast-byte c = omega (arith, c.type_inv.bytes (c.args.place + (c.loop-i.i - 1)))

pub overflow_mul-x : goal.overflow_mul-x
overflow_mul-x c =
    let a = c.args in
    let i = c.loop-i in
    let l = fits a.bytes.now a.place a.width i.i i.x (λ j. (c.type_inv.bytes j).fits) (omega arith) (omega arith) (omega arith) (omega arith) i.invariant.1 in
    omega arith

pub overflow_add-x : goal.overflow_add-x
overflow_add-x c =
    let a = c.args in
    let i = c.loop-i in
    let l = fits a.bytes.now a.place a.width i.i i.x (λ j. (c.type_inv.bytes j).fits) (omega arith) (omega arith) (omega arith) (omega arith) i.invariant.1 in
    omega (arith, c.type_inv.bytes (a.place + (i.i - 1)))

pub loop-i-preserved : goal.loop-i-preserved
loop-i-preserved c =
    let a = c.args in
    let i = c.loop-i in
    (omega arith, more a.bytes.now a.place a.width i.i i.x (omega arith) (omega arith) (omega arith) i.invariant.1)

pub returns : goal.returns
returns c =
    let a = c.args in
    let i = c.loop-i in
    let z : i.i ≡ 0 = omega arith in
    let p : a.place + i.i ≡ a.place = omega arith in
    let w : a.width - i.i ≡ a.width = omega arith in
    i.invariant.1 ∙ ap (λ (k : ℕ). word_at a.bytes.now k (a.width - i.i)) p ∙ ap (word_at a.bytes.now a.place) w
