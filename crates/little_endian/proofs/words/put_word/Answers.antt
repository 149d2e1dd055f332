use mathlib.Core.Path.{◌≡◌, refl, ap, ◌∙◌}
use Prim.Native.Nat.{ℕ, ◌+◌, ◌/◌, ◌%◌, ◌^◌, ◌<◌}
use native.Mathlib.Nat.{pow-suc, div-div-eq-div-mul}
use native.Mathlib.Numerals.{add-one}
use native.Mathlib.Omega.{arith}
use mathlib.Core.List.{List}
use lib.ListN.{length, set}
use Rattle.list_laws.specs.Part.{put}
use Rattle.list_laws.proofs.Laws.Part.{fill_none, fill_one, fill_length}
use Rattle.little_endian.specs.Words.{bytes_of}
use Rattle.little_endian.proofs.words.put_word.Invariants.{Written}
use Rattle.little_endian.proofs.words.put_word.Goals as goal

none : (d : List ℕ) (place x : ℕ) → Written d place x d x 0
unfolding bytes_of
none d place x = record { left = omega arith; bytes = fill_none d place _; size = refl }

one_more : {d : List ℕ} {place x : ℕ} {e : List ℕ} {rest i : ℕ} → Written d place x e rest i → place + i < length d
    → Written d place x (set e (place + i) (rest % 256)) (rest / 256) (i + 1)
unfolding bytes_of
one_more {d} {place} {x} {e} {rest} {i} w h =
    let stored = ap (λ (l : List ℕ). set l (place + i) (rest % 256)) w.bytes ∙ fill_one d place (λ j. x / 256 ^ j % 256) i (rest % 256) h (ap (λ (r : ℕ). r % 256) w.left) in
    record {
      left = rw (w.left, add-one, pow-suc, ← div-div-eq-div-mul);
      bytes = stored;
      size = ap length stored ∙ fill_length d place _ (i + 1) (omega arith);
    }

pub loop-i-init : goal.loop-i-init
loop-i-init c = (omega arith, none _ _ _)

pub bounds-bytes-place : goal.bounds-bytes-place
bounds-bytes-place c = omega (arith, c.loop-i.invariant.1.size)

pub loop-i-preserved : goal.loop-i-preserved
loop-i-preserved c = (omega arith, one_more c.loop-i.invariant.1 (omega arith))

pub shape_of-bytes : goal.shape_of-bytes
shape_of-bytes c = c.loop-i.invariant.1.size

pub returns : goal.returns
returns c =
    let a = c.args in
    let k : c.loop-i.i ≡ a.width = omega arith in
    c.loop-i.invariant.1.bytes ∙ ap (λ (i : ℕ). put a.bytes.now a.place (bytes_of i a.x)) k
