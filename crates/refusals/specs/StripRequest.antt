-- What a call for a strip is given, as far as the checks read it, each check's own test, and these checks in checking order.
use Rattle.std.specs.Prelude.{Bool, not, ◌||◌, List, [], ◌∷◌, ℕ, ◌*◌, eqb, ltb, Float}
use Rattle.std.specs.Float.{binary64}
use Rattle.std.specs.Float.Ieee.{of_bits}
use Rattle.std.specs.Float.Ieee.Scale.{finite}
use Rattle.limits.specs.Limits.{most_vertices}
use Rattle.refusals.specs.Key.{Key}
use Rattle.refusals.specs.Request.{oversized}
use Rattle.refusals.specs.Refusal.{Check, check, first}

-- The numbers of a dilution: the chance to keep an edge, and the bounds of its magnitude.
pub record Dilution : Type 0 where
  pub keep : Float
  pub low : Float
  pub high : Float

-- Zeros stand for the dilution that a call does not have.
pub record StripRequest : Type 0 where
  pub width : ℕ
  pub columns : ℕ
  -- whether it is a honeycomb cylinder of odd width
  pub odd_cylinder : Bool
  pub dilution : Dilution
  -- whether a result buffer is too short
  pub misfit : Bool

abbrev pub undiluted : Dilution
undiluted = record { keep = of_bits binary64 0; low = of_bits binary64 0; high = of_bits binary64 0 }

-- 15. A strip side is 0, or sides multiply above 1,024.
abbrev pub bad_sides : StripRequest → Bool
bad_sides r = eqb r.width 0 || eqb r.columns 0 || ltb most_vertices (r.width * r.columns)

-- 17. Keep isn't finite, or a magnitude bound isn't finite or its size is above 1,024.
abbrev pub bad_dilution : StripRequest → Bool
bad_dilution r = not (finite r.dilution.keep) || oversized r.dilution.low || oversized r.dilution.high

-- Checks 15 to 17 stand before 12.
abbrev pub strip_checks : List (Check StripRequest)
strip_checks =
    check Key.strip_sides 15 bad_sides
    ∷ check Key.odd_cylinder 16 (λ r. r.odd_cylinder)
    ∷ check Key.dilution 17 bad_dilution
    ∷ check Key.buffers 12 (λ r. r.misfit)
    ∷ []

abbrev pub strip_refusal : List Key → StripRequest → ℕ
strip_refusal concerned r = first strip_checks concerned r

-- ---- which checks concern which call
abbrev pub of_sides : List Key
of_sides = Key.strip_sides ∷ []

abbrev pub of_strip : List Key
of_strip = Key.strip_sides ∷ Key.odd_cylinder ∷ []

abbrev pub of_raw_edges : List Key
of_raw_edges = Key.strip_sides ∷ Key.odd_cylinder ∷ Key.buffers ∷ []

abbrev pub of_diluted : List Key
of_diluted = Key.strip_sides ∷ Key.odd_cylinder ∷ Key.dilution ∷ Key.buffers ∷ []

abbrev pub of_pairs : List Key
of_pairs = Key.strip_sides ∷ Key.buffers ∷ []
