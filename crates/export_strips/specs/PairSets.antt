-- The pair set as a caller gets it.
use Rattle.std.specs.Prelude.{◌≡◌, List, ℕ, length}
use Rattle.list_laws.specs.Front.{over}
use Rattle.refusals.specs.Answers.{left}
use Rattle.strip_pairs.specs.PairSet.{Pair, firsts, seconds, label_bytes}

-- The answer r, what it leaves in the lists, and the number of pairs; refused, all as it was.
pub record Paired (refused : ℕ) (ps : List Pair) (r : ℕ) (us us' vs vs' labels labels' : List ℕ) (count count' : ℕ) : Type 0 where
  pub answer : r ≡ refused
  pub first_ends : us' ≡ left refused (over (firsts ps) us) us
  pub second-ends : vs' ≡ left refused (over (seconds ps) vs) vs
  pub labelled : labels' ≡ left refused (over (label_bytes ps) labels) labels
  pub counted : count' ≡ left refused (length ps) count
