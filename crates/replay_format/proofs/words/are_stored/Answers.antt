use Rattle.std.proofs.Common.{◌≡◌, eqb, length, get_or, ap, ◌∙◌, ap₂, arith}
use lib.Ieee.{binary64, to_bits, nan}
use Rattle.replay_format.specs.Words.{word_at, place_at}
use Rattle.replay_format.proofs.Laws.Words.{every-none, every_more}
use Rattle.replay_format.proofs.words.are_stored.Goals as goal

pub loop-i-init : goal.loop-i-init
loop-i-init c = (every-none _, omega arith)

pub loop-i-preserved : goal.loop-i-preserved
loop-i-preserved c =
    let l = c in
    let a = l.args in
    (every_more (λ j. eqb (to_bits binary64 (get_or a.xs.now j nan)) (word_at a.list.now (place_at a.start j))) l.loop-i.i l.loop-i.invariant.0 (ap₂ eqb c.bits_of.ensures (c.word.ensures ∙ ap (word_at a.list.now) c.at.ensures)), omega arith)

pub returns : goal.returns
returns c = let e : c.loop-i.i ≡ length c.args.xs.now = omega arith in rw e at c.loop-i.invariant.0
