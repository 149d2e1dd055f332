-- Field by field.
use Rattle.run_record.specs.Reading.{head_of}
use Rattle.run_record.proofs.head_of.Goals as goal

pub returns : goal.returns
unfolding head_of
returns c =
    let e = c in
    rw (
      e.word_at.ensures,
      e.word_at-2.ensures,
      e.word_at-3.ensures,
      c.word_at-4.ensures,
      c.word_at-5.ensures,
      c.word_at-6.ensures,
    )
