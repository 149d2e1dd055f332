-- What a preview is as a number, 0 for accepted, and what it leaves in references: its figures, or what was there where the call is refused.
use Rattle.std.specs.Prelude.{◌≡◌, ℕ}
use Rattle.refusals.specs.Answers.{left}
use Rattle.preview.specs.Previewed.{Cost}

pub record Tells (c : Cost) (r window window' free free' room room' : ℕ) : Type 0 where
  pub number : r ≡ c.number
  pub windowed : window' ≡ left c.number c.figures.window window
  pub counted : free' ≡ left c.number c.figures.free free
  pub roomed : room' ≡ left c.number c.figures.room room
