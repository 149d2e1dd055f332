-- Laws of what specs/Sides defines.
use Rattle.std.specs.Prelude.{◌≡◌, refl, false, ◌||◌, ℕ, zero, suc, ◌+◌, ◌*◌, ◌/◌, ◌%◌, ◌≤◌, ◌<◌, eqb, ltb}
use Rattle.std.proofs.Common.{mod-lt, div-lt_iff_lt-mul, mul_comm, mul-le-mul_right, mul-le-mul_left, arith, ltb-false}
use Rattle.std.proofs.lemmas.Bool.{eqb-false}
use Rattle.list_laws.proofs.Laws.Search.{or-false}
use Rattle.strip.specs.declared.strip.Strip.{Strip}
use Rattle.strip.specs.Sides.{Sides, Site}

pub sides_passed : (w l : ℕ) → (eqb w 0 || eqb l 0 || ltb 1024 (w * l)) ≡ false → Sides w l
sides_passed w l h =
    let p = or-false _ _ h in
    let q = or-false _ _ p.0 in
    record {
      wide = pos w (eqb-false _ _ q.0);
      long = pos l (eqb-false _ _ q.1);
      few = ltb-false _ _ p.1;
    }
  where
    pos : (n : ℕ) → (n ≡ 0 → ⊥) → 0 < n
    pos zero f = absurd (f refl)
    pos (suc n) f = omega arith

pub sides_short : {w l : ℕ} → Sides w l → l ≤ 1024
sides_short {w} {l} S = let m : 1 * l ≤ w * l = mul-le-mul_right l S.wide in omega (arith, S.few)

pub sides_narrow : {w l : ℕ} → Sides w l → w ≤ 1024
sides_narrow {w} {l} S = let m : w * 1 ≤ w * l = mul-le-mul_left w S.long in omega (arith, S.few)

-- site v is a site
pub site : (s : Strip) → Sides s.w s.l → (v : ℕ) → v < s.w * s.l → Site s (v / s.w) (v % s.w)
site s S v h =
    let column : v / s.w < s.l = (div-lt_iff_lt-mul S.wide).1 (rw mul_comm at h) in
    let below : (v / s.w + 1) * s.w ≤ s.l * s.w = mul-le-mul_right s.w (omega arith) in
    record {
      row = mod-lt v S.wide;
      column = column;
      inside = omega (arith, S.few);
      short = sides_short S;
    }
