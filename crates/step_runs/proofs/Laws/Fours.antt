-- What the runs of both kinds share: four weights, and their stores.
use Rattle.std.specs.Prelude.{◌≡◌, List, ℕ, ◌<◌, length, set, Float}
use Rattle.std.proofs.Common.{length-set}
use Rattle.step_runs.specs.declared.runs.Four.{Four}

abbrev pub four : (first second third fourth : Float) → Four
four first second third fourth = record { first = first; second = second; third = third; fourth = fourth }

-- an index of a list is one after stores: one to seven
pub after_one : (k : ℕ) (l : List Float) (i₁ : ℕ) (a₁ : Float) → k < length l → k < length (set l i₁ a₁)
after_one k l i₁ a₁ h = rw (length-set l i₁ a₁) (h)

pub after_two : (k : ℕ) (l : List Float) (i₁ i₂ : ℕ) (a₁ a₂ : Float) → k < length l → k < length (set (set l i₁ a₁) i₂ a₂)
after_two k l i₁ i₂ a₁ a₂ h = rw (length-set (set l i₁ a₁) i₂ a₂) (after_one k l i₁ a₁ h)

pub after-three : (k : ℕ) (l : List Float) (i₁ i₂ i₃ : ℕ) (a₁ a₂ a₃ : Float) → k < length l → k < length (set (set (set l i₁ a₁) i₂ a₂) i₃ a₃)
after-three k l i₁ i₂ i₃ a₁ a₂ a₃ h = rw (length-set (set (set l i₁ a₁) i₂ a₂) i₃ a₃) (after_two k l i₁ i₂ a₁ a₂ h)

pub after-four : (k : ℕ) (l : List Float) (i₁ i₂ i₃ i₄ : ℕ) (a₁ a₂ a₃ a₄ : Float) → k < length l → k < length (set (set (set (set l i₁ a₁) i₂ a₂) i₃ a₃) i₄ a₄)
after-four k l i₁ i₂ i₃ i₄ a₁ a₂ a₃ a₄ h = rw (length-set (set (set (set l i₁ a₁) i₂ a₂) i₃ a₃) i₄ a₄) (after-three k l i₁ i₂ i₃ a₁ a₂ a₃ h)

pub after_five : (k : ℕ) (l : List Float) (i₁ i₂ i₃ i₄ i₅ : ℕ) (a₁ a₂ a₃ a₄ a₅ : Float) → k < length l → k < length (set (set (set (set (set l i₁ a₁) i₂ a₂) i₃ a₃) i₄ a₄) i₅ a₅)
after_five k l i₁ i₂ i₃ i₄ i₅ a₁ a₂ a₃ a₄ a₅ h = rw (length-set (set (set (set (set l i₁ a₁) i₂ a₂) i₃ a₃) i₄ a₄) i₅ a₅) (after-four k l i₁ i₂ i₃ i₄ a₁ a₂ a₃ a₄ h)

pub after_six : (k : ℕ) (l : List Float) (i₁ i₂ i₃ i₄ i₅ i₆ : ℕ) (a₁ a₂ a₃ a₄ a₅ a₆ : Float) → k < length l → k < length (set (set (set (set (set (set l i₁ a₁) i₂ a₂) i₃ a₃) i₄ a₄) i₅ a₅) i₆ a₆)
after_six k l i₁ i₂ i₃ i₄ i₅ i₆ a₁ a₂ a₃ a₄ a₅ a₆ h = rw (length-set (set (set (set (set (set l i₁ a₁) i₂ a₂) i₃ a₃) i₄ a₄) i₅ a₅) i₆ a₆) (after_five k l i₁ i₂ i₃ i₄ i₅ a₁ a₂ a₃ a₄ a₅ h)

pub after_seven : (k : ℕ) (l : List Float) (i₁ i₂ i₃ i₄ i₅ i₆ i₇ : ℕ) (a₁ a₂ a₃ a₄ a₅ a₆ a₇ : Float) → k < length l → k < length (set (set (set (set (set (set (set l i₁ a₁) i₂ a₂) i₃ a₃) i₄ a₄) i₅ a₅) i₆ a₆) i₇ a₇)
after_seven k l i₁ i₂ i₃ i₄ i₅ i₆ i₇ a₁ a₂ a₃ a₄ a₅ a₆ a₇ h = rw (length-set (set (set (set (set (set (set l i₁ a₁) i₂ a₂) i₃ a₃) i₄ a₄) i₅ a₅) i₆ a₆) i₇ a₇) (after_six k l i₁ i₂ i₃ i₄ i₅ i₆ a₁ a₂ a₃ a₄ a₅ a₆ h)

-- and its length after eight
pub same-eight : (l : List Float) (i₁ i₂ i₃ i₄ i₅ i₆ i₇ i₈ : ℕ) (a₁ a₂ a₃ a₄ a₅ a₆ a₇ a₈ : Float)
    → length (set (set (set (set (set (set (set (set l i₁ a₁) i₂ a₂) i₃ a₃) i₄ a₄) i₅ a₅) i₆ a₆) i₇ a₇) i₈ a₈) ≡ length l
same-eight l i₁ i₂ i₃ i₄ i₅ i₆ i₇ i₈ a₁ a₂ a₃ a₄ a₅ a₆ a₇ a₈ = simp length-set
