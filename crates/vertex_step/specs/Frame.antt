-- What a half vector that is written to a place leaves as it was: the room's length, the other places, and what lies behind the places.
use Rattle.std.specs.Prelude.{ℕ, ◌+◌, ◌*◌, ◌^◌, ◌≤◌}

-- place p of window w lies below `end`
abbrev pub Fits : ℕ → ℕ → ℕ → Type 0
Fits w end p = p * 2 ^ w + 2 ^ w ≤ end
