-- The halves of two places lie apart; in the windows 1 and 2 they are short.
use Rattle.std.specs.Prelude.{ℕ, ◌*◌, ◌-◌, ◌^◌, ◌≤◌}
use Rattle.std.proofs.Common.{arith, pow_mono}
use Rattle.list_laws.proofs.Laws.Power.{pow_double}
use Rattle.list_laws.specs.Part.{Apart}
use Rattle.list_laws.proofs.Laws.Part.{apart-within}
use Rattle.step_tables.specs.Place.{Places}
use Rattle.step_tables.proofs.Laws.Place.{places-apart}

pub halves-apart : {len w src dst : ℕ} → Places len w src dst → Apart len (src * 2 ^ w) (2 ^ (w - 1)) (dst * 2 ^ w) (2 ^ (w - 1))
halves-apart {len} {w} {src} {dst} p =
    let z = pow_double w p.from.wide in
    let h = 2 ^ (w - 1) in
    apart-within (src * 2 ^ w) h (dst * 2 ^ w) h (places-apart p) (omega arith) (omega arith) (omega arith) (omega arith)

pub short-half : (w : ℕ) → w ≤ 2 → 2 ^ (w - 1) ≤ 2
short-half w h = pow_mono {i = w - 1} {j = 1} (omega arith)
