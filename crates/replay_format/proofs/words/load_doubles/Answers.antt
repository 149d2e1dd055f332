use Rattle.std.proofs.Common.{refl, ap, ◌∙◌, arith}
use lib.Ieee.{binary64, of_bits}
use Rattle.replay_format.specs.Words.{word_at, place_at}
use Rattle.little_endian.proofs.Laws.Loaded.{loaded_none, loaded_more, loaded_length, loaded_all}
use Rattle.replay_format.proofs.words.load_doubles.Goals as goal

pub loop-i-init : goal.loop-i-init
loop-i-init c = (loaded_none _ _, omega arith, refl)

pub loop-i-preserved : goal.loop-i-preserved
loop-i-preserved c =
    let l = c in
    let a = l.args in
    let next = loaded_more (λ j. of_bits binary64 (word_at a.list.now (place_at a.start j))) a.out.now _ _ _ (omega arith) l.loop-i.invariant.0 (c.double_of.ensures ∙ ap (of_bits binary64) (c.word.ensures ∙ ap (word_at a.list.now) c.at.ensures)) in
    (next, omega arith, loaded_length _ _ _ _ (omega arith) next)

pub shape_of-out : goal.shape_of-out
shape_of-out c = c.loop-i.invariant.2

pub returns : goal.returns
returns c =
    let a = c.args in
    loaded_all (λ j. of_bits binary64 (word_at a.list.now (place_at a.start j))) a.out.now _ _ (omega arith) c.loop-i.invariant.0
