-- The edges that a caller lends, in three lists, and which of them are kept.
use Rattle.std.specs.Prelude.{Bool, cond, List, [], ◌∷◌, ◌++◌, map, ℕ, zero, suc, min, max, Float, length, get_or, set}
use Rattle.std.specs.Float.{nan, binary64}
use Rattle.std.specs.Float.Ieee.{eq, of_bits}
use Rattle.transfer_matrix.specs.Job.{window_of}

-- +0.0 and -0.0 equal 0.0
abbrev pub is_zero : Float → Bool
is_zero m = eq m (of_bits binary64 0)

-- The magnitudes with the one at a place set to zero; all of them where the list has no such place.
abbrev pub dropping : ℕ → List Float → List Float
dropping place m = set m place (of_bits binary64 0)

-- A kept edge: its smaller end first, its magnitude, and its place in the raw list.
pub record Kept : Type 0 where
  pub early : ℕ
  pub late : ℕ
  pub magnitude : Float
  pub place : ℕ

abbrev pub kept_at : List ℕ → List ℕ → List Float → ℕ → Kept
kept_at a b m i = record { early = min (get_or a i 0) (get_or b i 0); late = max (get_or a i 0) (get_or b i 0); magnitude = get_or m i nan; place = i }

-- Of the first n raw edges those whose magnitude is not zero, in order.
unfoldable pub kept_of : List ℕ → List ℕ → List Float → ℕ → List Kept
kept_of a b m zero = []
kept_of a b m (suc i) = cond (is_zero (get_or m i nan)) (kept_of a b m i) (kept_of a b m i ++ (kept_at a b m i ∷ []))

-- The kept edges of three lists of one length, and their columns.
abbrev pub kept : List ℕ → List ℕ → List Float → List Kept
kept a b m = kept_of a b m (length a)

abbrev pub early_ends : List Kept → List ℕ
early_ends es = map (λ e. e.early) es

abbrev pub late_ends : List Kept → List ℕ
late_ends es = map (λ e. e.late) es

abbrev pub magnitudes : List Kept → List Float
magnitudes es = map (λ e. e.magnitude) es

abbrev pub places : List Kept → List ℕ
places es = map (λ e. e.place) es

-- The columns of the edges that three raw lists keep: earlier ends, later ends, magnitudes.
abbrev pub kept_early : List ℕ → List ℕ → List Float → List ℕ
kept_early a b m = early_ends (kept a b m)

abbrev pub kept_late : List ℕ → List ℕ → List Float → List ℕ
kept_late a b m = late_ends (kept a b m)

abbrev pub kept_magnitudes : List ℕ → List ℕ → List Float → List Float
kept_magnitudes a b m = magnitudes (kept a b m)

-- Their window, by the caller's floor.
abbrev pub window_from : ℕ → List ℕ → List ℕ → List Float → ℕ
window_from floor a b m = window_of floor (kept_early a b m) (kept_late a b m)
