-- Laws of what specs/Place defines.
use Rattle.std.specs.Prelude.{◌⊎◌, ℕ, ◌+◌, ◌*◌, ◌^◌, ◌≤◌, ◌<◌}
use Rattle.std.proofs.Common.{inl, inr, suc-mul, mul-le-mul_right, arith}
use Rattle.std.proofs.Math.Logic.{dite}
use Rattle.std.proofs.Math.Decide.{dec_lt}
use Rattle.list_laws.specs.Part.{Apart}
use Rattle.step_tables.specs.Place.{Places}

pub places-apart : {len w src dst : ℕ} → Places len w src dst → Apart len (src * 2 ^ w) (2 ^ w) (dst * 2 ^ w) (2 ^ w)
places-apart {len} {w} {src} {dst} p = record { from = p.from.inside; to = p.to.inside; off = off }
  where
    off : (src * 2 ^ w + 2 ^ w ≤ dst * 2 ^ w) ⊎ (dst * 2 ^ w + 2 ^ w ≤ src * 2 ^ w)
    off =
        dite (dec_lt src dst)
        (λ l. inl (omega (arith, mul-le-mul_right (2 ^ w) l, suc-mul src (2 ^ w))))
        (λ l. let l' : dst < src = omega (arith, p.other) in inr (omega (arith, mul-le-mul_right (2 ^ w) l', suc-mul dst (2 ^ w))))
