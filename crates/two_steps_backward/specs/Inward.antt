-- Four parts of a list that a loop fills side by side, each by a rule: the first and the third from their front, the others from their end.
use Rattle.std.specs.Prelude.{List, ℕ, ◌+◌, ◌-◌, ◌≤◌}
use Rattle.list_laws.specs.Tabulate.{tabulate}
use Rattle.list_laws.specs.Part.{put}

-- the parts lie in a list of len elements one behind the other, with n elements each
pub record Parts (len a b c e n : ℕ) : Type 0 where
  pub first : a + n ≤ b
  pub second : b + n ≤ c
  pub third : c + n ≤ e
  pub last : e + n ≤ len

module _ {A : Type 0} where
  -- n entries of g, the last of them first
  abbrev pub falling : (ℕ → A) → ℕ → ℕ → A
  falling g n i = g (n - 1 - i)

  -- d, with n elements of f and h at a and c, and n of g and k at b and e, the last of them first
  unfoldable pub inward : (d : List A) (a b c e : ℕ) (f g h k : ℕ → A) (n : ℕ) → List A
  inward d a b c e f g h k n =
      put (put (put (put d a (tabulate f n)) b (tabulate (falling g n) n)) c (tabulate h n)) e (tabulate (falling k n) n)
