-- A part of a list, a list with a part replaced, and parts that a loop fills by a rule: the laws that such a loop and its caller ask for.
use Rattle.std.specs.Prelude.{List, ◌++◌, ◌⊎◌, ℕ, ◌+◌, ◌≤◌, length, take, drop}

-- In a list of len elements, the n at src and the m at dst lie apart.
pub record Apart (len src n dst m : ℕ) : Type 0 where
  pub from : src + n ≤ len
  pub to : dst + m ≤ len
  pub off : (src + n ≤ dst) ⊎ (dst + m ≤ src)

module _ {A : Type 0} where
  -- the n elements of d from index at
  unfoldable pub part : List A → ℕ → ℕ → List A
  part d at n = take n (drop at d)

  -- d, with the elements from index at replaced by s
  unfoldable pub put : List A → ℕ → List A → List A
  put d at s = take at d ++ s ++ drop (at + length s) d
