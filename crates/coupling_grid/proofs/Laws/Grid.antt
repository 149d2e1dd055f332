-- Laws of what specs/Grid defines.
use Rattle.std.specs.Prelude.{◌≡◌, ℕ, ◌*◌, ◌/◌, ◌%◌, ◌<◌, ◌≤◌, Bool, true, false, ◌&&◌, ◌==◌, nat_le, refl, Float}
use Rattle.std.proofs.Common.{sym, ap, ◌∙◌, true≢false, mul-div_cancel, div-add-mod', arith, eq-eqb, le-leb, leb-true, eqb-true}
use Rattle.std.proofs.Math.Nat.{mul-mod_left}
use Rattle.std.specs.Float.{nan, inf, fin}
use Rattle.std.specs.Float.Ieee.{up, down}
use Rattle.std.specs.Float.Ieee.Exact.{HasValue}
use Rattle.std.proofs.lemmas.Bool.{not-false}
use Rattle.coupling_grid.specs.Grid.{whole_to512, multiple, steps, off_grid}

pub and-true : (a b : Bool) → (a && b) ≡ true → (a ≡ true) × (b ≡ true)
and-true true b h = (refl, h)
and-true false b h = absurd (true≢false (sym h))

both : (a b : Bool) → a ≡ true → b ≡ true → (a && b) ≡ true
both true b h k = k
both false b h k = absurd (true≢false (sym h))

-- k * c over c is whole, and k
pub whole-steps : (a c k : ℕ) → 0 < c → k ≤ 512 → a ≡ k * c → (whole_to512 a c ≡ true) × (a / c ≡ k)
whole-steps a c k C h e =
    let q : a / c ≡ k = ap (λ (z : ℕ). z / c) e ∙ mul-div_cancel k C in
    let r : a % c ≡ 0 = ap (λ (z : ℕ). z % c) e ∙ mul-mod_left k c in
    (both (a % c == 0) (nat_le (a / c) 512) (eq-eqb (a % c) 0 r) (le-leb (a / c) 512 (omega arith)), q)

-- x is ±k / 128, and k at most 512
pub record OnGrid (x : Float) (s : Bool) (k : ℕ) : Type 0 where
  pub value : HasValue x s k 128
  pub few : k ≤ 512

steps-whole : (a c : ℕ) → whole_to512 a c ≡ true → (a ≡ a / c * c) × (a / c ≤ 512)
steps-whole a c h =
    let (p, q) = and-true (a % c == 0) (nat_le (a / c) 512) h in
    let r = eqb-true (a % c) 0 p in
    (omega (arith, div-add-mod' a c), leb-true (a / c) 512 q)

pub on_grid : (x : Float) → off_grid x ≡ false → (s : Bool) × (k : ℕ) × OnGrid x s k
unfolding off_grid
on_grid nan h = absurd (true≢false h)
on_grid (inf s) h = absurd (true≢false h)
on_grid (fin s m e) h =
    let (p, l) = steps-whole (m * up e * 128) (down e) (not-false (multiple m e) h) in
    (s, steps m e, record { value = (refl, p); few = l })
