-- The current word on the way through a sample.
use Rattle.std.specs.Prelude.{◌≡◌, List, ℕ, ◌-◌, ◌/◌, ◌<◌}
use Rattle.rng.specs.Xoshiro.{output}
use Rattle.rng.specs.declared.Drawn.{Drawn}
use Rattle.transfer_matrix.specs.Configuration.{drawn, words_per_sample}

-- Before edge e of a sample from state s: the words of the edges before it were drawn, and the last of them is the current one.
pub record Word (s : List ℕ) (e : ℕ) (at : Drawn) : Type 0 where
  pub state : at.rng.s ≡ drawn s (words_per_sample e)
  pub word : 0 < e → at.word ≡ output (drawn s ((e - 1) / 64))
