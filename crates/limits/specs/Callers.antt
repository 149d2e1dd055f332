-- Who calls, and the limits that one caller alone has.
use Rattle.std.specs.Prelude.{Bool, true, false, ◌&&◌, ℕ, ltb}
use Rattle.limits.specs.declared.Caller.{Caller}
use Rattle.limits.specs.declared.Caller.TheVariants.{Desk, Tester}

abbrev pub is_tester : Caller → Bool
is_tester Desk = false
is_tester Tester = true

-- A value is above a limit that the tester alone has.
abbrev pub over_limit : Caller → (most value : ℕ) → Bool
over_limit caller most value = is_tester caller && ltb most value
