-- Sides that check 15 passes, and the sites of a strip that has them.
use Rattle.std.specs.Prelude.{ℕ, ◌+◌, ◌*◌, ◌≤◌, ◌<◌}
use Rattle.strip.specs.declared.strip.Strip.{Strip}

pub record Sides (w l : ℕ) : Type 0 where
  pub wide : 0 < w
  pub long : 0 < l
  pub few : w * l ≤ 1024

-- (x, y) is a site of a strip that check 15 passes
pub record Site (s : Strip) (x y : ℕ) : Type 0 where
  pub row : y < s.w
  pub column : x < s.l
  pub inside : x * s.w + s.w ≤ 1024
  pub short : s.l ≤ 1024
