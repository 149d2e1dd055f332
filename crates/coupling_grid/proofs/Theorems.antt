-- A coupling's place in the words of its value: ±k / 128, for k up to 512, stands at 512 ± k, and no other has a place.
use Rattle.std.specs.Prelude.{◌≡◌, ℕ, ◌+◌, ◌-◌, ◌*◌, ◌≤◌, Bool, false, cond, Float}
use Rattle.std.specs.Float.{nan, inf, fin}
use Rattle.std.specs.Float.Ieee.{up, down}
use Rattle.std.specs.Float.Ieee.Exact.{HasValue}
use Rattle.std.specs.Float.Ieee.Fits.{down_pos}
use Rattle.coupling_grid.specs.Grid.{At, place_of, off_grid}
use Rattle.coupling_grid.proofs.Laws.Grid.{on_grid, whole-steps}

-- ±k / 128 is on the grid, at 512 ± k
pub place_at : (x : Float) (s : Bool) (k : ℕ) → HasValue x s k 128 → k ≤ 512 → (off_grid x ≡ false) × (place_of x ≡ At (cond s (512 - k) (512 + k)))
unfolding place_of off_grid
place_at nan s k v h = absurd v
place_at (inf t) s k v h = absurd v
place_at (fin t m e) s k v h =
    let (w, q) = whole-steps (m * up e * 128) (down e) k (down_pos e) h v.1 in
    (rw w, rw (w, q, v.0))

-- what is not off the grid is such a number, and has a place
pub place-only : (x : Float) → off_grid x ≡ false → (s : Bool) × (k : ℕ) × HasValue x s k 128 × (k ≤ 512) × (place_of x ≡ At (cond s (512 - k) (512 + k)))
place-only x on = let (s, k, o) = on_grid x on in (s, k, o.value, o.few, (place_at x s k o.value o.few).1)
