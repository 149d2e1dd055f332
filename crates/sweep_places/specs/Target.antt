-- Where a step writes.
use Rattle.std.specs.Prelude.{◌≡◌, ℕ, ◌<◌}
use Rattle.vertex_step.specs.Frame.{Fits}

-- p is the kept place, or where none is kept (0) a moving one that is not src.
pub record Target (kept src p : ℕ) : Type 0 where
  pub keeps : 0 < kept → p ≡ kept
  pub moves : kept ≡ 0 → p < 2
  pub other : kept ≡ 0 → p ≡ src → ⊥

-- Place p lies below `end`, and it keeps the vector of no vertex that is still ahead.
pub record Free (place : ℕ → ℕ) (n w end p : ℕ) (Ahead : ℕ → Type 0) : Type 0 where
  pub fits : Fits w end p
  pub off : (u : ℕ) → u < n → Ahead u → 0 < place u → p ≡ place u → ⊥
