-- The shares of stored correlations: lists lent end to end with their lengths, and fractions of all their entries.
use Rattle.std.specs.Prelude.{Bool, not, ◌&&◌, ◌||◌, cond, List, [], ◌∷◌, ℕ, zero, suc, ◌+◌, eqb, ltb, Float, length, get_or}
use Rattle.std.specs.declared.result.Result.{Result}
use Rattle.std.specs.declared.result.Result.TheVariants.{Ok, Err}
use Rattle.std.specs.Float.{nan, binary64}
use Rattle.std.specs.Float.Ieee.{of_bits, neg, lt, le, eq}
-- the most lists, and the most entries of one
pub use Rattle.limits.specs.Limits.{most_lists, most_entries}
use Rattle.list_laws.specs.Count.{count}
use Rattle.list_laws.specs.Search.{some}
use Rattle.euclid.specs.Euclid.{reduced}
use Rattle.refusals.specs.declared.Refusal.{Refusal}
use Rattle.refusals.specs.declared.Refusal.TheVariants as R
use Rattle.shares.specs.declared.answer.Shares.{Shares}

-- 0, 1/2 and 1
abbrev pub +0·0 : Float
+0·0 = of_bits binary64 0

abbrev pub +0·5 : Float
+0·5 = of_bits binary64 0x3fe0_0000_0000_0000

abbrev pub +1·0 : Float
+1·0 = of_bits binary64 0x3ff0_0000_0000_0000

-- ---- an entry

-- above zero
abbrev pub is_above : Float → Bool
is_above x = lt +0·0 x

-- zero of either sign
abbrev pub is_zero : Float → Bool
is_zero x = eq x +0·0

-- below zero
abbrev pub is_below : Float → Bool
is_below x = lt x +0·0

-- 1/2 or more in size
abbrev pub is_half : Float → Bool
is_half x = le +0·5 x || le x (neg +0·5)

-- NaN, or outside -1 to 1
abbrev pub bad_entry : Float → Bool
bad_entry x = not (le (neg +1·0) x && le x +1·0)

-- entry i of all lists
abbrev pub at : List Float → ℕ → Float
at stored i = get_or stored i nan

-- ---- the lists

-- a list is empty or too long
abbrev pub bad_length : ℕ → Bool
bad_length entries = eqb entries 0 || ltb most_entries entries

-- where list k starts: the lengths of those before it, added
unfoldable pub start_of : List ℕ → ℕ → ℕ
start_of lengths zero = 0
start_of lengths (suc k) = start_of lengths k + get_or lengths k 0

-- no list, too many, one that is empty or too long, or lengths that do not add up to what is lent
abbrev pub bad_lists : List ℕ → ℕ → Bool
bad_lists lengths lent =
    eqb (length lengths) 0 || ltb most_lists (length lengths) || some (λ k. bad_length (get_or lengths k 0)) (length lengths)
    || not (eqb (start_of lengths (length lengths)) lent)

-- 25: bad lists, or a bad entry
abbrev pub refuses : List Float → List ℕ → Bool
refuses stored lengths = bad_lists lengths (length stored) || some (λ i. bad_entry (at stored i)) (length stored)

-- ---- the shares

-- how many entries pass a test
abbrev pub counted : (Float → Bool) → List Float → ℕ
counted test stored = count (λ i. test (at stored i)) (length stored)

-- four counts, each over all entries, in lowest terms
abbrev pub fractions : (above zeros below halves entries : ℕ) → Shares
fractions above zeros below halves entries =
    record { above = reduced above entries; zero = reduced zeros entries; below = reduced below entries; half = reduced halves entries }

-- the shares of all lists: such entries over all entries
abbrev pub pooled : List Float → Shares
pooled stored = fractions (counted is_above stored) (counted is_zero stored) (counted is_below stored) (counted is_half stored) (length stored)

-- the answer
unfoldable pub shares_of : List Float → List ℕ → Result Shares Refusal
shares_of stored lengths = cond (refuses stored lengths) (Err R.Shares) (Ok (pooled stored))

-- ---- an answer's values

-- four shares as eight words, the top and the bottom of each
abbrev pub words_of : Shares → List ℕ
words_of s =
    s.above.top ∷ s.above.bottom ∷ s.zero.top ∷ s.zero.bottom ∷ s.below.top ∷ s.below.bottom ∷ s.half.top ∷ s.half.bottom ∷ []

-- what an answer leaves where the words `old` stood
abbrev pub words_in : Result Shares Refusal → List ℕ → List ℕ
words_in (Ok s) old = words_of s
words_in (Err e) old = old
