-- The last edge whose sign changed.
use Rattle.std.specs.Prelude.{◌≡◌, Bool, false, List, ◌⊎◌, ℕ, ◌<◌, get_or}

-- It was `last`, and it is r past edge e, whose sign was `before`.
abbrev pub LastChanged : (before minus : Bool) (e last r : ℕ) → Type 0
LastChanged before minus e last r = (r ≡ e) ⊎ ((r ≡ last) × (minus ≡ before))

-- Of the first n edges, those past `last` have by a rule the signs that they had.
abbrev pub SamePast : (ℕ → Bool) → List Bool → (last n : ℕ) → Type 0
SamePast minus signs last n = (e : ℕ) → last < e → e < n → minus e ≡ get_or signs e false
